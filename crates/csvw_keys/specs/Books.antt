-- What the books of keys keep.
use Rattle.std.specs.Prelude.{◌≡◌, ℕ, nat_eq, List, [], ◌∷◌, Bool, true, false, ◌&&◌, bytes_eq, ⊤, Option, Some, None, All, flat_map, map, if◌then◌else◌}
use Rattle.std.specs.List.{list_any}
use Rattle.csvw_annotate.specs.declared.row.Row.{Row}
use Rattle.csvw_keys.specs.contracts.held.HeldKeyOrd.TheImpl as derived
use Rattle.csvw_keys.specs.declared.book.Book.{Book}
use Rattle.csvw_keys.specs.declared.book.Book.TheVariants.{Primary, Referenced, Referring, Foreign, Recording}
use Rattle.csvw_keys.specs.declared.foreign_key.ForeignKey.{ForeignKey}
use Rattle.csvw_keys.specs.declared.held.HeldKey.{HeldKey}
use Rattle.csvw_keys.specs.declared.key_book.KeyBook.{KeyBook}
use Rattle.csvw_keys.specs.declared.recording.KeyedRow.{KeyedRow}
use Rattle.csvw_keys.specs.declared.referring.Referring.{Referring as KeptRow}
use Rattle.csvw_keys.specs.declared.times.Times.{Times}
use Rattle.csvw_keys.specs.declared.times.Times.TheVariants.{Never}
use Rattle.csvw_keys.specs.KeyRules.{KeyRule, Unique, Refers, Recorded, keys_in}
use Rattle.csvw_keys.specs.PrimaryBooks.{KeepsPrimary}
use Rattle.csvw_keys.specs.PrimaryBooks as primary
use Rattle.csvw_keys.specs.RecordingBooks.{IsRecordingStaged, KeepsRecording}
use Rattle.csvw_keys.specs.ReferenceBooks.{IsReferencedStaged, IsReferringStaged, KeepsReferenced, KeepsReferring, row_fault}
use Rattle.csvw_keys.specs.Tallies.{tally_times}
use Rattle.csvw_fault.specs.declared.fault.Fault.{Fault}

-- The purpose of a book: a key, counting the keys of the table of a number in the columns of these numbers, keeping the rows of a table
-- that refer by the columns of these numbers, or recording all rows of a table with their keys in the columns of these numbers.
pub data Purpose : Type 0 where
  Keeps : KeyRule → Purpose
  Counts : ℕ → List ℕ → Purpose
  Lists : ℕ → List ℕ → Purpose
  Records : ℕ → List ℕ → Purpose

abbrev pub purpose_of : Book → Purpose
purpose_of (Primary book) = Keeps (Unique book.table book.columns)
purpose_of (Referenced book) = Counts book.table book.columns
purpose_of (Referring book) = Lists book.table book.columns
purpose_of (Foreign key) = Keeps (Refers key.table key.columns key.referenced_table key.referenced)
purpose_of (Recording book) = Records book.table book.columns

-- the key of a book
abbrev pub rules_for : Purpose → List KeyRule
rules_for (Keeps rule) = rule ∷ []
rules_for (Counts table columns) = []
rules_for (Lists table columns) = []
rules_for (Records table columns) = []

-- a book with this purpose counts the keys of a table in these columns, as that of a primary key does
abbrev pub counts_in : ℕ → List ℕ → Purpose → Bool
counts_in table columns (Keeps (Unique t cs)) = nat_eq t table && bytes_eq cs columns
counts_in table columns (Keeps (Refers t cs referenced_table referenced)) = false
counts_in table columns (Keeps (Recorded t cs)) = false
counts_in table columns (Counts t cs) = nat_eq t table && bytes_eq cs columns
counts_in table columns (Lists t cs) = false
counts_in table columns (Records t cs) = false

-- a book with this purpose keeps the rows of a table that refer by these columns
abbrev pub lists_in : ℕ → List ℕ → Purpose → Bool
lists_in table columns (Keeps rule) = false
lists_in table columns (Counts t cs) = false
lists_in table columns (Lists t cs) = nat_eq t table && bytes_eq cs columns
lists_in table columns (Records t cs) = false

-- a book with this purpose records the rows of a table with their keys in these columns
abbrev pub records_in : ℕ → List ℕ → Purpose → Bool
records_in table columns (Keeps rule) = false
records_in table columns (Counts t cs) = false
records_in table columns (Lists t cs) = false
records_in table columns (Records t cs) = nat_eq t table && bytes_eq cs columns

-- One of the books keeps the rows that refer by a key, and one counts what they refer to. One of the books records the rows that are to be
-- recorded.
abbrev pub is_served : List Purpose → KeyRule → Bool
is_served purposes (Unique table columns) = true
is_served purposes (Refers table columns referenced_table referenced) =
    list_any (lists_in table columns) purposes && list_any (counts_in referenced_table referenced) purposes
is_served purposes (Recorded table columns) = list_any (records_in table columns) purposes

-- the book keeps what its purpose needs of the rows of these tables
abbrev pub KeepsBook : Book → (ℕ → List Row) → Type 0
KeepsBook (Primary book) tables = KeepsPrimary book (tables book.table)
KeepsBook (Referenced book) tables = KeepsReferenced book (tables book.table)
KeepsBook (Referring book) tables = KeepsReferring book (tables book.table)
KeepsBook (Foreign key) tables = ⊤
KeepsBook (Recording book) tables = KeepsRecording book (tables book.table)

-- the book has room for a row of a table
abbrev pub IsRoomy : Book → ℕ → Row → Type 0
IsRoomy (Primary book) table row = table ≡ book.table → primary.IsStaged book row
IsRoomy (Referenced book) table row = table ≡ book.table → IsReferencedStaged book row
IsRoomy (Referring book) table row = table ≡ book.table → IsReferringStaged book row
IsRoomy (Foreign key) table row = ⊤
IsRoomy (Recording book) table row = table ≡ book.table → IsRecordingStaged book row

-- how often each key occurs by its counts
abbrev pub book_times : Book → HeldKey → Times
book_times (Primary book) = tally_times derived.ghosts.cmp book.tally.ahead book.tally.counts
book_times (Referenced book) = tally_times derived.ghosts.cmp book.tally.ahead book.tally.counts
book_times (Referring book) = λ key. Never
book_times (Foreign key) = λ key. Never
book_times (Recording book) = λ key. Never

-- the rows that it keeps
abbrev pub book_rows : Book → List KeptRow
book_rows (Primary book) = []
book_rows (Referenced book) = []
book_rows (Referring book) = book.rows.items
book_rows (Foreign key) = []
book_rows (Recording book) = []

-- the rows that it records
abbrev pub book_records : Book → List KeyedRow
book_records (Primary book) = []
book_records (Referenced book) = []
book_records (Referring book) = []
book_records (Foreign key) = []
book_records (Recording book) = book.rows.items

-- what is known by the first of the books with a purpose
abbrev pub first_in : {X : Type 0} → (Purpose → Bool) → (Book → X) → List Book → Option X
first_in is_wanted known_by [] = None
first_in is_wanted known_by (book ∷ books) = if is_wanted (purpose_of book) then Some (known_by book) else first_in is_wanted known_by books

-- how often each key of a table in these columns occurs, by the first of the books that counts them
abbrev pub times_in : ℕ → List ℕ → List Book → Option (HeldKey → Times)
times_in table columns books = first_in (counts_in table columns) book_times books

-- the rows of a table that refer by these columns, by the first of the books that keeps them
abbrev pub rows_in : ℕ → List ℕ → List Book → Option (List KeptRow)
rows_in table columns books = first_in (lists_in table columns) book_rows books

-- the rows of a table with their keys in these columns, by the first of the books that records them
abbrev pub recorded_in : ℕ → List ℕ → List Book → Option (List KeyedRow)
recorded_in table columns books = first_in (records_in table columns) book_records books

-- the faults of a foreign key, by the rows that refer and by how often each key occurs that they refer to
abbrev pub told_by : ForeignKey → Option (List KeptRow) → Option (HeldKey → Times) → List Fault
told_by key None times = []
told_by key (Some rows) None = []
told_by key (Some rows) (Some times) = flat_map (row_fault times key) rows

-- the faults of a foreign key, by all books
abbrev pub told_reference : List Book → ForeignKey → List Fault
told_reference books key = told_by key (rows_in key.table key.columns books) (times_in key.referenced_table key.referenced books)

-- the faults of a primary key
abbrev pub duplicates_in : Book → List Fault
duplicates_in (Primary book) = book.found.items
duplicates_in (Referenced book) = []
duplicates_in (Referring book) = []
duplicates_in (Foreign key) = []
duplicates_in (Recording book) = []

-- the faults of the book, by all books
abbrev pub told : List Book → Book → List Fault
told books (Primary book) = book.found.items
told books (Referenced book) = []
told books (Referring book) = []
told books (Foreign key) = told_reference books key
told books (Recording book) = []

-- the book is that of the primary key of a table
abbrev pub is_primary_of : ℕ → Book → Bool
is_primary_of n (Primary book) = nat_eq book.table n
is_primary_of n (Referenced book) = false
is_primary_of n (Referring book) = false
is_primary_of n (Foreign key) = false
is_primary_of n (Recording book) = false

-- the faults of the first of the books of the primary key of a table
abbrev pub first_told : ℕ → List Book → List Fault
first_told n [] = []
first_told n (book ∷ books) = if is_primary_of n book then duplicates_in book else first_told n books

-- no row was added to any table
abbrev pub no_rows : ℕ → List Row
no_rows n = []

abbrev pub purposes_of : List Book → List Purpose
purposes_of books = map purpose_of books

-- the keys of books
abbrev pub rules_in : List Book → List KeyRule
rules_in books = flat_map rules_for (purposes_of books)

-- These are more books for the same keys. A purpose that one of the books had is still that of one.
pub record IsMore (old new : List Book) : Type 0 where
  pub rules : rules_in new ≡ rules_in old
  pub keeps : All (λ b. KeepsBook b no_rows) old → All (λ b. KeepsBook b no_rows) new
  pub purposes : (is_wanted : Purpose → Bool) → list_any is_wanted (purposes_of old) ≡ true → list_any is_wanted (purposes_of new) ≡ true

-- The book has a book for each of these keys. Each book keeps what its purpose needs of the rows of these tables. The rows that refer by the
-- keys are kept, and what they refer to is counted. The rows that are to be recorded are recorded.
pub record KeepsKeys (book : KeyBook) (keys : List KeyRule) (tables : ℕ → List Row) : Type 0 where
  pub rules : rules_in book.books.items ≡ keys_in keys
  pub served : All (λ rule. is_served (purposes_of book.books.items) rule ≡ true) keys
  pub keeps : All (λ b. KeepsBook b tables) book.books.items
