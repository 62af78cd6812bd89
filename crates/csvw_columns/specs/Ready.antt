-- The tables whose text and cells can be read: `IsReady`, `AreReady`.
use Rattle.std.specs.Prelude.{◌≤◌, List, [], ◌∷◌, length, None}
use Rattle.csvw_records.specs.Lawful.{IsLawful}
use Rattle.csvw_datatype.specs.Sound.{IsSound}
use Rattle.csvw_columns_core.specs.Sound.{AreSound}
use Rattle.csvw_columns_core.specs.Inherited.{inherited, string_type}
use Rattle.csvw_description.specs.Plannable.{column_limit}
use Rattle.csvw_columns.specs.Distinct.{AreNamedApart}
use Rattle.csvw_columns.specs.declared.plan.TablePlan.{TablePlan}

-- the dialect and the datatypes passed their checks, also those of columns from a header, and the limits are kept
pub record IsReady (plan : TablePlan) : Type 0 where
  pub dialect : IsLawful plan.dialect
  pub skipped : plan.dialect.skip_columns ≤ column_limit
  pub limit : length plan.declared ≤ column_limit
  pub names : AreNamedApart plan.declared
  pub declared : AreSound plan.declared
  pub header : IsSound (inherited string_type None plan.schema.datatype plan.table.datatype plan.group.datatype)

-- each table can be read
abbrev pub AreReady : List TablePlan → Type 0
AreReady [] = Unit {0}
AreReady (plan ∷ plans) = IsReady plan × AreReady plans
