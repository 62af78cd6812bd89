-- The descriptions that can be planned: `CanBePlanned`; and the result of `Plan::build` for a description (Metadata Vocabulary
-- for Tabular Data, sections 5.3 to 5.9).
use Rattle.std.specs.Prelude.{◌≡◌, ◌≢◌, [], Result, Ok, Err, All}
use Rattle.csvw_description.specs.declared.description.Description.{Description}
use Rattle.csvw_meta_core.specs.declared.fault.MetaFault.{MetaFault}
use Rattle.csvw_meta_core.specs.declared.fault.MetaCode.TheVariants.{Memory}
use Rattle.csvw_columns.specs.Fit.{IsFitGroup}
use Rattle.csvw_columns.specs.FreeOf.{IsFreeOf}
use Rattle.csvw_columns.specs.Keys.{AreResolved}
use Rattle.csvw_columns.specs.PlanOf.{plan_of}
use Rattle.csvw_columns.specs.declared.plan.Plan.{Plan}

-- its tables can be read, and what their keys name exists
pub record CanBePlanned (d : Description) : Type 0 where
  pub fit : IsFitGroup d
  pub keys : All AreResolved (plan_of d).tables

-- the result is the plan, or a fault of the whole description, whose code says what does not hold of it; nothing is said if memory runs
-- out
abbrev pub Builds : Description → Result Plan MetaFault → Type 0
Builds d (Ok plan) = (plan ≡ plan_of d) × CanBePlanned d
Builds d (Err fault) = (fault.pointer ≡ []) × (fault.code ≢ Memory → IsFreeOf fault.code d → ⊥)
