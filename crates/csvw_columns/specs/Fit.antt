-- The descriptions whose tables can be read (Metadata Vocabulary for Tabular Data, sections 5.3 to 5.9). Keys are not checked
-- here.
use Rattle.std.specs.Prelude.{◌≤◌, length, Option, MatchOption, Result, IfOk, IfSome, All}
use Rattle.std.specs.declared.alloc.AllocError.{AllocError}
use Rattle.csvw_description.specs.Plannable.{table_limit, IsFitDialect, HasSound, IsFitSchema, IsFitTable}
use Rattle.csvw_description.specs.declared.description.Description.{Description}
use Rattle.csvw_meta_core.specs.declared.fault.MetaCode.{MetaCode}

-- everything in the group and in each of its tables is fit, and there are no more tables than the limit
pub record IsFitGroup (description : Description) : Type 0 where
  pub dialect : IfSome description.dialect IsFitDialect
  pub inherited : HasSound description.inherited
  pub schema : IfSome description.schema IsFitSchema
  pub limit : length description.tables ≤ table_limit
  pub tables : All IsFitTable description.tables

-- `None` if everything is fit, else the code of what does not hold; nothing is said if memory runs out
abbrev pub Finds : Type 0 → (MetaCode → Type 0) → Result (Option MetaCode) AllocError → Type 0
Finds IsFit HoldsFor result = IfOk result (λ found. MatchOption found IsFit (λ code. HoldsFor code → ⊥))
