-- Laws of the definitions of this crate.
use Rattle.std.specs.Prelude.{◌≡◌, ◌↔◌, ℕ, true, List, Some}
use Rattle.std.specs.List.{list_all}
use Rattle.csvw_fault.specs.declared.fault.Fault.{Fault}
use Rattle.csvw_description.specs.declared.description.Description.{Description}
use Rattle.csvw_meta.specs.Document.{Document, group_in}
use Rattle.csvw_columns.specs.PlanOf.{plan_of}
use Rattle.csvw_columns.specs.declared.plan.Plan.{Plan}
use Rattle.csvw_report.specs.Order.{is_no_error}
use Rattle.csvw_group_laws.specs.Annotated.{Table, AreAnnotated}
use Rattle.csvw_group_laws.specs.Violations.{AreViolations}
use Rattle.csvw_columns.specs.Ready.{AreReady}
use Rattle.csvw_validity_laws.specs.Validity.{IsValid}

-- A group is valid exactly if none of its violations is an error, provided that what is reported of its document is only warnings.
abbrev pub ValidHasNoErrors : Type 0
ValidHasNoErrors = (plan : Plan) (texts : ℕ → List ℕ) (tables : List Table) (faults : List Fault) → AreReady plan.tables
    → list_all is_no_error plan.warnings ≡ true → AreAnnotated plan.tables texts tables → AreViolations plan tables faults
    → ((list_all is_no_error faults ≡ true) ↔ IsValid plan texts tables)

-- What is ignored in a document is reported only as warnings.
abbrev pub DocumentsWarn : Type 0
DocumentsWarn = (d : Document) (description : Description) → group_in d ≡ Some description
    → list_all is_no_error (plan_of description).warnings ≡ true

-- So the group that a document describes is valid exactly if none of its violations is an error.
abbrev pub ValidDocumentsHaveNoErrors : Type 0
ValidDocumentsHaveNoErrors = (d : Document) (description : Description) (texts : ℕ → List ℕ) (tables : List Table) (faults : List Fault)
    → group_in d ≡ Some description → AreReady (plan_of description).tables → AreAnnotated (plan_of description).tables texts tables
    → AreViolations (plan_of description) tables faults → ((list_all is_no_error faults ≡ true) ↔ IsValid (plan_of description) texts tables)
