-- How a row of its source changes a table.
use Rattle.std.specs.Prelude.{◌≡◌, ◌⊎◌, ◌<◌, length, Some, Result, Ok, Err}
use Rattle.csvw_records.specs.RowValue.{Given}
use Rattle.csvw_columns_core.specs.declared.columns.Columns.{Columns}
use Rattle.csvw_columns.specs.declared.plan.TablePlan.{TablePlan}
use Rattle.csvw_annotate.specs.Annotated.{IsRow}
use Rattle.csvw_annotate.specs.declared.row.Row.{Row}
use Rattle.csvw_engine_core.specs.Annotated.{header_count, IsRagged}
use Rattle.csvw_engine_core.specs.Heads.{Settled, Settles, TakesHeader}
use Rattle.csvw_engine_core.specs.declared.stop.Stop.{Stop}
use Rattle.csvw_engine_core.specs.declared.stop.Stop.TheVariants as stop
use Rattle.csvw_engine_core.specs.declared.head.Head.{Head}
use Rattle.csvw_engine_core.specs.declared.step.Step.{Step}
use Rattle.csvw_engine_core.specs.declared.step.Step.TheVariants as step

-- a row is annotated or refused; after Memory nothing is said
abbrev pub AnnotatesRow : TablePlan → Columns → Given → Result Row Stop → Type 0
AnnotatesRow plan columns raw (Ok row) = IsRow columns raw row
AnnotatesRow plan columns raw (Err stop.Memory) = Unit {0}
AnnotatesRow plan columns raw (Err (stop.Table table row reason)) = (table ≡ plan.number) × IsRagged columns raw row reason
AnnotatesRow plan columns raw (Err other) = ⊥

-- a row is annotated by the columns that the header has just made
pub record AnnotatesFirst (plan : TablePlan) (raw : Given) (old new : Head) (result : Result Row Stop) : Type 0 where
  pub without : header_count plan ≡ 0
  pub settled : Settled plan (Some (length raw.fields)) old new
  pub columns : Columns
  pub known : new.columns ≡ Some columns
  pub annotates : AnnotatesRow plan columns raw result

-- the first rows are refused for this reason: the header, or the first row
abbrev pub BeginsWrong : TablePlan → Given → Head → Head → Stop → Type 0
BeginsWrong plan raw old new reason =
    ((0 < header_count plan) × TakesHeader plan raw old new (Err reason))
    ⊎ (((header_count plan ≡ 0) × Settles plan (Some (length raw.fields)) raw.source old new (Err reason))
    ⊎ AnnotatesFirst plan raw old new (Err reason))

-- after a row that came before the columns were known
abbrev pub Begins : TablePlan → Given → Head → Head → Result Step Stop → Type 0
Begins plan raw old new (Ok (step.Row row)) = AnnotatesFirst plan raw old new (Ok row)
Begins plan raw old new (Ok step.Header) = (0 < header_count plan) × TakesHeader plan raw old new (Ok tt)
Begins plan raw old new (Ok step.Nothing) = ⊥
Begins plan raw old new (Err reason) = BeginsWrong plan raw old new reason
