-- What a book of a primary key keeps.
use Rattle.std.specs.Prelude.{◌≡◌, ◌<◌, List, [], ◌∷◌}
use Rattle.std.specs.Vec.{vec_len, vec_capacity}
use Rattle.csvw_annotate.specs.declared.row.Row.{Row}
use Rattle.csvw_keys.specs.contracts.held.HeldKeyOrd.TheImpl as derived
use Rattle.csvw_keys.specs.declared.primary.PrimaryBook.{PrimaryBook}
use Rattle.csvw_keys.specs.Duplicates.{duplicate_faults}
use Rattle.csvw_keys.specs.Held.{held_keys, held_of}
use Rattle.csvw_keys.specs.Tallies.{IsAheadAt, Tallies}
use Rattle.csvw_keys.specs.declared.times.Times.{Times}
use Rattle.csvw_keys.specs.declared.times.Times.TheVariants.{Never, Once, Often}
use Rattle.csvw_fault.specs.declared.fault.Fault.{Fault}

-- the book counts the keys of these rows, and has their faults
pub record KeepsPrimary (book : PrimaryBook) (rows : List Row) : Type 0 where
  pub tallies : Tallies derived.ghosts.cmp book.tally.ahead book.tally.counts (held_keys book.columns rows)
  pub faults : book.found.items ≡ duplicate_faults book.table book.columns rows

-- the faults of a row whose key occurred so often before
abbrev pub noted : Times → Fault → List Fault
noted Never fault = []
noted Once fault = fault ∷ []
noted Often fault = fault ∷ []

-- the book has room for a row, and its counts are ahead by the row's key
pub record IsStaged (book : PrimaryBook) (row : Row) : Type 0 where
  pub key : IsAheadAt book.tally.ahead (held_of book.columns row)
  pub fault : vec_len book.found < vec_capacity book.found
