-- Texts are at most one list of annotated tables: `HaveOneAnnotation`.
use Rattle.std.specs.Prelude.{◌≡◌, ℕ, List}
use Rattle.csvw_columns.specs.declared.plan.TablePlan.{TablePlan}
use Rattle.csvw_columns.specs.Ready.{AreReady}
use Rattle.csvw_group_laws.specs.Annotated.{Table, AreAnnotated}

abbrev pub HaveOneAnnotation : Type 0
HaveOneAnnotation = (plans : List TablePlan) (texts others : ℕ → List ℕ) (first second : List Table) → AreReady plans → ((i : ℕ) → texts i ≡ others i)
    → AreAnnotated plans texts first → AreAnnotated plans others second → first ≡ second
