-- A part of a text that begins at a row. It is a row once more text follows, or it is no row whatever follows.
use Rattle.std.specs.Prelude.{◌≡◌, ◌≢◌, ◌⊎◌, ℕ, ◌<◌, ◌≤◌, false, List, [], ◌++◌, length, take, None}
use Rattle.csvw_records.specs.declared.dialect.Dialect.{Dialect}
use Rattle.csvw_records.specs.declared.stop.RowStop.{RowStop}
use Rattle.csvw_records.specs.declared.scan.State.TheVariants.{Start}
use Rattle.csvw_records.specs.Grammar.{terminator_len}
use Rattle.csvw_records.specs.Files.{Row, IsRow, is_ignored}
use Rattle.csvw_records.specs.Lengths.{byte_len, row_limit}
use Rattle.csvw_records.specs.Scan.{Broken, run}
use Rattle.csvw_records.specs.NextRow.{settled, may_be_comment, next_row, terminator_of}

-- No row is complete in the part. With more text after it, it is a row and its terminator. So many of its characters belong to the row for sure.
pub record Continues (d : Dialect) (i : ℕ) (part : List ℕ) (len : ℕ) : Type 0 where
  pub within : len ≤ length part
  pub row : Row
  pub more : List ℕ
  pub spelled : part ++ more ≡ row.text ++ terminator_of d
  pub is_row : IsRow d i row (terminator_of d)
  pub fits : take (length part) row.text ≡ take len part
  pub sure : (other : Row) (rest after : List ℕ) → part ++ rest ≡ other.text ++ after → IsRow d i other after → 0 < terminator_len d after
      → len ≤ length other.text
  pub incomplete : next_row false d i part ≡ None

-- a rule on quotes is broken in the part, whatever follows
pub record Breaks (d : Dialect) (i : ℕ) (part : List ℕ) (stop : RowStop) : Type 0 where
  pub rest : List ℕ
  pub not_ignored : is_ignored d i part ≡ false
  pub may_not : may_be_comment d part ≡ false
  pub broken : run d Start [] [] (settled d part) ≡ Broken stop rest

-- the part begins with a row and its terminator
pub record HasRow (d : Dialect) (i : ℕ) (part : List ℕ) : Type 0 where
  pub row : Row
  pub after : List ℕ
  pub spelled : part ≡ row.text ++ after
  pub is_row : IsRow d i row after
  pub ends : 0 < terminator_len d after

-- nothing is left, or the start of one more row that isn't too long
pub record Fits (d : Dialect) (i : ℕ) (part : List ℕ) : Type 0 where
  pub row : Row
  pub more : List ℕ
  pub spelled : part ++ more ≡ row.text ++ terminator_of d
  pub is_row : IsRow d i row (terminator_of d)
  pub short : byte_len (take (length part) row.text) ≤ row_limit

abbrev pub Goes : Dialect → ℕ → ℕ → List ℕ → Type 0
Goes d max i part = (part ≡ []) ⊎ ((i < max) × Fits d i part)

-- whatever follows, the part does not begin a row, or only a row that is too long
pub record Ends (d : Dialect) (max : ℕ) (i : ℕ) (part : List ℕ) : Type 0 where
  pub some : part ≢ []
  pub none : i < max → (row : Row) (more after : List ℕ) → part ++ more ≡ row.text ++ after → IsRow d i row after → 0 < terminator_len d after
      → byte_len (take (length part) row.text) ≤ row_limit → ⊥

-- no row that isn't too long is complete in the text
abbrev pub NoRow : Dialect → ℕ → ℕ → List ℕ → Type 0
NoRow d max i text = i < max → (row : Row) (after : List ℕ) → text ≡ row.text ++ after → IsRow d i row after → 0 < terminator_len d after
    → byte_len row.text ≤ row_limit → ⊥

-- the text is not a last row without its terminator
abbrev pub NoLast : Dialect → ℕ → ℕ → List ℕ → Type 0
NoLast d max i text = i < max → (row : Row) → text ≡ row.text → IsRow d i row [] → byte_len row.text ≤ row_limit → ⊥

-- the shortest front of the text that does not begin a row
pub record FirstEnd (d : Dialect) (max i : ℕ) (text : List ℕ) (n : ℕ) : Type 0 where
  pub at : ℕ
  pub within : at ≤ n
  pub ends : Ends d max i (take at text)
  pub before : (k : ℕ) → k < at → Goes d max i (take k text)
