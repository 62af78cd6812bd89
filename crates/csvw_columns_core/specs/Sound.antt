-- Columns whose cells can be read, because their datatypes are sound; there is at most one proof of that (Metadata Vocabulary for
-- Tabular Data, section 5.11.2).
use Rattle.std.specs.Prelude.{List, [], ◌∷◌}
use mathlib.Core.HLevel.{×_prop, Unit-prop}
use Rattle.csvw_datatype.specs.Sound.{IsSound}
use Rattle.csvw_datatype.specs.SoundProp.{IsSound-prop}
use Rattle.csvw_columns_core.specs.declared.column.Column.{Column}

-- the datatype of each column has passed its check
abbrev pub AreSound : List Column → Type 0
AreSound [] = Unit {0}
AreSound (column ∷ columns) = IsSound column.properties.datatype × AreSound columns

-- that they are sound has one proof at most, so an invariant can contain it
pub AreSound-prop : (columns : List Column) → IsProp (AreSound columns)
AreSound-prop [] = Unit-prop
AreSound-prop (column ∷ columns) = ×_prop (IsSound-prop column.properties.datatype) (AreSound-prop columns)
