-- What the books for foreign keys keep, and the faults of a row by a foreign key.
use Rattle.std.specs.Prelude.{◌≡◌, ◌<◌, ℕ, List, [], ◌∷◌, Some, map, if◌then◌else◌}
use Rattle.std.specs.Vec.{vec_len, vec_capacity}
use Rattle.csvw_annotate.specs.declared.row.Row.{Row}
use Rattle.csvw_keys.specs.contracts.held.HeldKeyOrd.TheImpl as derived
use Rattle.csvw_keys.specs.declared.foreign_key.ForeignKey.{ForeignKey}
use Rattle.csvw_keys.specs.declared.held.HeldKey.{HeldKey}
use Rattle.csvw_keys.specs.declared.referring.Referring.{Referring}
use Rattle.csvw_keys.specs.declared.referring.ReferringBook.{ReferringBook}
use Rattle.csvw_keys.specs.declared.referenced.ReferencedBook.{ReferencedBook}
use Rattle.csvw_keys.specs.declared.times.Times.{Times}
use Rattle.csvw_keys.specs.declared.times.Times.TheVariants.{Never, Once, Often}
use Rattle.csvw_keys.specs.Held.{held, held_keys, held_of, is_null_held}
use Rattle.csvw_keys.specs.Places.{fault_of}
use Rattle.csvw_keys.specs.References.{ReferringRow, referring_of}
use Rattle.csvw_keys.specs.Tallies.{IsAheadAt, Tallies}
use Rattle.csvw_fault.specs.declared.fault.Code.TheVariants.{NoReferencedRow, ManyReferencedRows}
use Rattle.csvw_fault.specs.declared.fault.Fault.{Fault}

-- a row that refers to others, as it is stored
abbrev pub held_row : ReferringRow → Referring
held_row row = record { key = held row.key; source = row.source }

-- what is stored of a row with this key
abbrev pub kept : HeldKey → ℕ → List Referring
kept key source = if is_null_held key then [] else record { key = key; source = source } ∷ []

-- the book has those of these rows that refer to others
abbrev pub KeepsReferring : ReferringBook → List Row → Type 0
KeepsReferring book rows = book.rows.items ≡ map held_row (referring_of book.columns rows)

-- the book has room for a row, and has the row's key
pub record IsReferringStaged (book : ReferringBook) (row : Row) : Type 0 where
  pub key : book.next ≡ Some (held_of book.columns row)
  pub room : vec_len book.rows < vec_capacity book.rows

-- the book counts the keys of these rows
abbrev pub KeepsReferenced : ReferencedBook → List Row → Type 0
KeepsReferenced book rows = Tallies derived.ghosts.cmp book.tally.ahead book.tally.counts (held_keys book.columns rows)

-- the book has room for a row, and its counts are ahead by the row's key
abbrev pub IsReferencedStaged : ReferencedBook → Row → Type 0
IsReferencedStaged book row = IsAheadAt book.tally.ahead (held_of book.columns row)

-- the faults of a row that refers to rows of a key, which occurs so often
abbrev pub fault_by_times : Times → ℕ → List ℕ → ℕ → List Fault
fault_by_times Never table columns source = fault_of NoReferencedRow table columns source ∷ []
fault_by_times Once table columns source = []
fault_by_times Often table columns source = fault_of ManyReferencedRows table columns source ∷ []

-- the faults of a row that refers to others by a foreign key, if each key occurs so often
abbrev pub row_fault : (HeldKey → Times) → ForeignKey → Referring → List Fault
row_fault times key row = fault_by_times (times row.key) key.table key.columns row.source
