-- Keys that compare as equal are equal.
use Rattle.std.proofs.Common.{◌≡◌, List, Bool, true, false, refl, sym}
use Rattle.std.specs.Ordering.{is_eq}
use Rattle.std.specs.Cmp.Lexicographic.{slice_cmp, lists_ties}
use Rattle.std.proofs.lemmas.Map.Text.{is_eq-slice_cmp}
use Rattle.csvw_datatype.specs.contracts.value.ValueOrd.TheImpl as value
use Rattle.csvw_datatype.specs.declared.value.Value.{Value}
use Rattle.csvw_datatype.specs.declared.value.Value.TheVariants.{Text, Truth, Number, Day, Moment}
use Rattle.csvw_keys.specs.contracts.key.KeyCellOrd.TheImpl as derived
use Rattle.csvw_keys.specs.declared.key.KeyCell.{KeyCell}
use Rattle.csvw_keys.specs.declared.key.KeyCell.TheVariants.{Null, One, Many}
use Rattle.csvw_keys.specs.EqualKeys.{equal_cells, equal_keys, equal_values}

pub truths_are : (a b : Bool) → equal_values (Truth a) (Truth b) ≡ is_eq (value.ghosts.cmp (Truth a) (Truth b))
truths_are true true = refl
truths_are true false = refl
truths_are false true = refl
truths_are false false = refl

values_are : (a b : Value) → equal_values a b ≡ is_eq (value.ghosts.cmp a b)
values_are (Text a) (Text b) = sym (is_eq-slice_cmp a b)
values_are (Text a) (Truth b) = refl
values_are (Text a) (Number b) = refl
values_are (Text a) (Day b) = refl
values_are (Text a) (Moment b) = refl
values_are (Truth a) (Text b) = refl
values_are (Truth a) (Truth b) = truths_are a b
values_are (Truth a) (Number b) = refl
values_are (Truth a) (Day b) = refl
values_are (Truth a) (Moment b) = refl
values_are (Number a) (Text b) = refl
values_are (Number a) (Truth b) = refl
values_are (Number a) (Number b) = refl
values_are (Number a) (Day b) = refl
values_are (Number a) (Moment b) = refl
values_are (Day a) (Text b) = refl
values_are (Day a) (Truth b) = refl
values_are (Day a) (Number b) = refl
values_are (Day a) (Day b) = refl
values_are (Day a) (Moment b) = refl
values_are (Moment a) (Text b) = refl
values_are (Moment a) (Truth b) = refl
values_are (Moment a) (Number b) = refl
values_are (Moment a) (Day b) = refl
values_are (Moment a) (Moment b) = refl

cells_are : (a b : KeyCell) → equal_cells a b ≡ is_eq (derived.ghosts.cmp a b)
cells_are Null Null = refl
cells_are Null (One b) = refl
cells_are Null (Many vs) = refl
cells_are (One a) Null = refl
cells_are (One a) (One b) = values_are a b
cells_are (One a) (Many vs) = refl
cells_are (Many us) Null = refl
cells_are (Many us) (One b) = refl
cells_are (Many us) (Many vs) = lists_ties value.ghosts.cmp values_are us vs

pub keys_are : (a b : List KeyCell) → equal_keys a b ≡ is_eq (slice_cmp derived.ghosts.cmp a b)
keys_are a b = lists_ties derived.ghosts.cmp cells_are a b
