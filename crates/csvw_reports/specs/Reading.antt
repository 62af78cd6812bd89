-- The faults that a report can list: the numbers of their places fit their types. A report is records of CSV (RFC 4180), as
-- csvw_report writes them.
use Rattle.std.specs.Prelude.{◌<◌, ◌^◌, ℕ, List, ◌∷◌, ◌++◌, decimal}
use Rattle.csvw_fault.specs.declared.fault.Fault.{Fault}
use Rattle.csvw_fault.specs.declared.fault.Place.{Place}

-- the numbers of a place fit their types
pub record FitsPlace (place : Place) : Type 0 where
  pub table : place.table < 2 ^ 32
  pub row : place.row < 2 ^ 64
  pub column : place.column < 2 ^ 32

abbrev pub Fits : Fault → Type 0
Fits fault = FitsPlace fault.place

-- the numbers of a place with the bytes that end them, and what follows
abbrev pub place_cells : Place → List ℕ → List ℕ
place_cells place rest = decimal place.table ++ 44 ∷ (decimal place.row ++ 44 ∷ (decimal place.column ++ 10 ∷ rest))
