-- The places at which the warnings on an object of a document are reported.
use Rattle.std.specs.Prelude.{ℕ}
use Rattle.csvw_fault.specs.declared.fault.Place.{Place}

-- the place of a table, or of a column of it; 0 if there is none
abbrev pub place_of : ℕ → ℕ → Place
place_of table column = record { table = table; row = 0; column = column }
