-- Runs over good tables: `ReadGoodTables`, `IsOkOrLacks`.
use Rattle.std.specs.Prelude.{◌≡◌, ◌⊎◌, ◌≤◌, ◌+◌, ◌^◌, ℕ, zero, suc, List, length, slice_get, Option, Some, Result, Ok, Err}
use Rattle.csvw_streams.specs.Counted.{inner_of}
use Rattle.csvw_streams.specs.Streams.{Stream}
use Rattle.csvw_streams.specs.declared.counted.Counted.{Counted}
use Rattle.csvw_description.specs.declared.description.Description.{Description}
use Rattle.csvw_meta.specs.Document.{Document, group_in}
use Rattle.csvw_columns.specs.PlanOf.{plan_of}
use Rattle.csvw_report.specs.declared.outcome.Outcome.{Outcome}
use Rattle.csvw_engine_core.specs.declared.stop.Stop.{Stop}
use Rattle.csvw_engine_core.specs.declared.stop.Stop.TheVariants as stop
use Rattle.csvw_group_laws.specs.Annotated.{Table, AreAnnotated}
use Rattle.csvw_engine.specs.Reading.{OneFailed}
use Rattle.csvw_engine.specs.Runs.{Rises}

-- There are as many readers as tables of the group that is described, their bytes are known, and these are the texts of annotated tables.
pub record ReadGoodTables {R : Type 0} (remaining : R → Option (List ℕ)) (described : Document) (readers : List (Counted R)) : Type 0 where
  pub description : Description
  pub is_described : group_in described ≡ Some description
  pub many : length readers ≡ length (plan_of description).tables
  pub texts : ℕ → List ℕ
  pub known : (i : ℕ) (r : Counted R) → slice_get readers i ≡ Some r → remaining (inner_of r) ≡ Some (texts i)
  pub tables : List Table
  pub annotated : AreAnnotated (plan_of description).tables texts tables

-- how many bytes the texts of so many tables have
abbrev pub text_len : (ℕ → List ℕ) → ℕ → ℕ
text_len texts zero = 0
text_len texts (suc n) = text_len texts n + length (texts n)

-- The run is Ok. Else memory ran out, or the count of failures of a reader or a writer rose, or the texts have at least 2^40 bytes less the
-- number of tables.
abbrev pub IsOkOrLacks : {R : Type 0} → (ℕ → List ℕ) → List (Counted R) → List (Counted R) → Stream → Stream → Result Outcome Stop → Type 0
IsOkOrLacks texts olds news out report_out (Ok outcome) = Unit {0}
IsOkOrLacks texts olds news out report_out (Err stop.Memory) = Unit {0}
IsOkOrLacks texts olds news out report_out (Err stop.Read) = OneFailed olds news ⊎ (2 ^ 40 ≤ text_len texts (length olds) + length olds)
IsOkOrLacks texts olds news out report_out (Err stop.Write) = Rises out ⊎ Rises report_out
IsOkOrLacks texts olds news out report_out (Err other) = ⊥
