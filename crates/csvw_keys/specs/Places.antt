-- The places at which broken keys are reported (Model for Tabular Data, section 6.6).
use Rattle.std.specs.Prelude.{ℕ, List, [], ◌∷◌}
use Rattle.csvw_fault.specs.declared.fault.Code.{Code}
use Rattle.csvw_fault.specs.declared.fault.Fault.{Fault}
use Rattle.csvw_fault.specs.declared.fault.Kind.TheVariants.{Error}

-- the first number, or 0 if there is none
abbrev pub first_of : List ℕ → ℕ
first_of [] = 0
first_of (n ∷ ns) = n

-- what is wrong with a key in a row: its place is the row and the key's first column
abbrev pub fault_of : Code → ℕ → List ℕ → ℕ → Fault
fault_of code table columns source =
    record { place = record { table = table; row = source; column = first_of columns }; code = code; kind = Error }
