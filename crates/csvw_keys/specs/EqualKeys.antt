-- Which keys are equal: `equal_keys` (Metadata Vocabulary for Tabular Data, section 5.5). Their cells are equal, in order. Two
-- cells are equal if both are null, both are single with equal values, or both are lists with equal items in order. Values are
-- equal as texts, booleans, numbers, days or moments.
use Rattle.std.specs.Prelude.{List, Bool, true, false, not, bytes_eq}
use Rattle.std.specs.Ordering.{int_eq}
use Rattle.std.specs.Cmp.Lexicographic.{pointwise}
use Rattle.csvw_datatype.specs.declared.value.Value.{Value}
use Rattle.csvw_datatype.specs.declared.value.Value.TheVariants.{Text, Truth, Number, Day, Moment}
use Rattle.csvw_keys.specs.declared.key.KeyCell.{KeyCell}
use Rattle.csvw_keys.specs.declared.key.KeyCell.TheVariants.{Null, One, Many}

abbrev pub equal_truths : Bool → Bool → Bool
equal_truths true b = b
equal_truths false b = not b

abbrev pub equal_values : Value → Value → Bool
equal_values (Text a) (Text b) = bytes_eq a b
equal_values (Truth a) (Truth b) = equal_truths a b
equal_values (Number a) (Number b) = int_eq a b
equal_values (Day a) (Day b) = int_eq a b
equal_values (Moment a) (Moment b) = int_eq a b
equal_values _ _ = false

abbrev pub equal_cells : KeyCell → KeyCell → Bool
equal_cells Null Null = true
equal_cells (One a) (One b) = equal_values a b
equal_cells (Many us) (Many vs) = pointwise equal_values us vs
equal_cells _ _ = false

abbrev pub equal_keys : List KeyCell → List KeyCell → Bool
equal_keys a b = pointwise equal_cells a b
