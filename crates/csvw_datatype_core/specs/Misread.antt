-- Why a text is not a number (Model for Tabular Data, section 6.4.2).
use Rattle.std.specs.Prelude.{ℕ, List, ℤ}
use Rattle.csvw_datatype_core.specs.declared.number.NumberRules.{NumberRules}
use Rattle.csvw_datatype_core.specs.declared.number.NumberFault.{NumberFault}
use Rattle.csvw_datatype_core.specs.declared.number.NumberFault.TheVariants.{Bad, TooLong}
use Rattle.csvw_datatype_core.specs.Numbers.{SpellsNumber, ReadsNumber}

-- the text spells no number, or it spells a number that is not of this size and precision
abbrev pub MisreadNumber : NumberRules → List ℕ → NumberFault → Type 0
MisreadNumber rules cs Bad = ¬ SpellsNumber rules cs
MisreadNumber rules cs TooLong = SpellsNumber rules cs × ((z : ℤ) → ¬ ReadsNumber rules cs z)
