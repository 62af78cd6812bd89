-- Columns whose datatypes have passed their checks.
use Rattle.std.specs.Prelude.{Option, Some, None}
use Rattle.csvw_columns_core.specs.declared.columns.Columns.{Columns}
use Rattle.csvw_columns_core.specs.Sound.{AreSound}
use Rattle.csvw_columns_core.specs.Sound.{AreSound-prop}
use mathlib.Core.HLevel.{Unit-prop}

-- if the columns are known, the datatype of each has passed its check
abbrev pub AreSoundIf : Option Columns → Type 0
AreSoundIf None = Unit {0}
AreSoundIf (Some columns) = AreSound columns.columns

pub AreSoundIf-prop : (columns : Option Columns) → IsProp (AreSoundIf columns)
AreSoundIf-prop None = Unit-prop
AreSoundIf-prop (Some columns) = AreSound-prop columns.columns
