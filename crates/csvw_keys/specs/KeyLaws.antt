-- Laws of the definitions of this crate.
use Rattle.std.specs.Prelude.{◌≡◌, ◌≢◌, ℕ, List}
use Rattle.csvw_annotate.specs.declared.row.Row.{Row}
use Rattle.csvw_keys.specs.KeyRules.{KeyRule, AreKeyFaults}
use Rattle.csvw_keys.specs.Tables.{with_row}
use Rattle.csvw_fault.specs.declared.fault.Fault.{Fault}

-- the key faults of equal tables are equal
abbrev pub EqualFaults : Type 0
EqualFaults =
    (rules : List KeyRule) (tables others : ℕ → List Row) (first second : List Fault) → ((n : ℕ) → tables n ≡ others n)
    → AreKeyFaults rules tables first → AreKeyFaults rules others second → first ≡ second

-- two rows of different tables, added in one order or the other, make the same tables
abbrev pub AnyOrder : Type 0
AnyOrder =
    (tables : ℕ → List Row) (a b : ℕ) (r s : Row) → a ≢ b
    → (n : ℕ) → with_row (with_row tables a r) b s n ≡ with_row (with_row tables b s) a r n
