-- The records of keys of rows, and the writer that they go to: `Recorded` (Metadata Vocabulary for Tabular Data, section 5.5).
use Rattle.std.specs.Prelude.{◌≡◌, ℕ, List, All, flat_map, Option, Some, None}
use Rattle.std.specs.Io.KnownBytes.{Keeps}
use Rattle.std.specs.List.Sorted.{IsPermutation}
use Rattle.csvw_annotate.specs.declared.row.Row.{Row}
use Rattle.csvw_key_records.specs.Records.{Fits, line_of}
use Rattle.csvw_key_records.specs.declared.record.KeyRecord.{KeyRecord}
use Rattle.csvw_keys.specs.Books.{KeepsKeys, no_rows}
use Rattle.csvw_keys.specs.KeyRules.{KeyRule, recorded_rules}
use Rattle.csvw_keys.specs.declared.key_book.KeyBook.{KeyBook}
use Rattle.csvw_row_keys.specs.RowRecords.{records_of}
use Rattle.csvw_streams.specs.declared.counted.Counted.{Counted}
use Rattle.csvw_streams.specs.Counted.{inner_of, failures_of}
use Rattle.csvw_streams.specs.Streams.{stream_of, Sends}

-- both are there, and this holds of them; or none is there
abbrev pub BothSome : {X : Type 0} → (X → X → Type 0) → Option X → Option X → Type 0
BothSome P None None = Unit {0}
BothSome P None (Some new) = ⊥
BothSome P (Some old) None = ⊥
BothSome P (Some old) (Some new) = P old new

-- the book records the rows of these keys, and has none
abbrev pub IsEmptyBook : List KeyRule → KeyBook → Type 0
IsEmptyBook rules book = KeepsKeys book (recorded_rules rules) no_rows

-- the book of a part before its rows
abbrev pub StartsBook : {W : Type 0} → List KeyRule → Option (Counted W) → KeyBook → Type 0
StartsBook rules None book = Unit {0}
StartsBook rules (Some writer) book = IsEmptyBook rules book

-- the book has the same keys, and no rows any more
abbrev pub ForgetsRows : KeyBook → KeyBook → Type 0
ForgetsRows old new = (keys : List KeyRule) (tables : ℕ → List Row) → KeepsKeys old keys tables → KeepsKeys new keys no_rows

-- the records of rows of tables were written, each in a line, in some order
pub record SendsRecords {W : Type 0} (contents : W → Option (List ℕ)) (rules : List KeyRule) (tables : ℕ → List Row) (old new : Counted W) : Type 0 where
  pub records : List KeyRecord
  pub are : IsPermutation (records_of rules tables) records
  pub fit : All Fits records
  pub sent : Sends (stream_of contents old new) (flat_map line_of records)

-- the records of the rows that a book keeps were written
abbrev pub WritesBook : {W : Type 0} → (W → Option (List ℕ)) → List KeyRule → KeyBook → Counted W → Counted W → Type 0
WritesBook contents rules book old new =
    (tables : ℕ → List Row) → KeepsKeys book (recorded_rules rules) tables → SendsRecords contents rules tables old new

-- nothing more was written, and the stream didn't fail
abbrev pub IsFlushed : {W : Type 0} → (W → Option (List ℕ)) → Counted W → Counted W → Type 0
IsFlushed contents old new = Keeps (contents (inner_of old)) (contents (inner_of new)) × (failures_of new ≡ failures_of old)

-- The records of these rows were written. A book that had no rows has none again.
pub record RecordsRows {W : Type 0} (contents : W → Option (List ℕ)) (rules : List KeyRule) (tables : ℕ → List Row) (book : KeyBook)
    (old new : Counted W) : Type 0 where
  pub empty : IsEmptyBook rules book
  pub sends : SendsRecords contents rules tables old new

-- from a book without rows on, if records are asked for
abbrev pub Recorded : {W : Type 0} → (W → Option (List ℕ)) → List KeyRule → (ℕ → List Row) → KeyBook → KeyBook → Option (Counted W) → Option (Counted W)
    → Type 0
Recorded contents rules tables before after old new = BothSome (λ a b. IsEmptyBook rules before → RecordsRows contents rules tables after a b) old new
