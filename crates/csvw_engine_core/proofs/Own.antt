-- The stops of a table's calls have its number.
use Rattle.std.proofs.Common.{◌≡◌, ◌∙◌, ℕ, refl, sym, ap, subst, inl, inr, Result, Ok, Err, Bool, List}
use Rattle.std.specs.Prelude.{IfErr}
use Rattle.csvw_records.specs.declared.stop.RowStop.{RowStop}
use Rattle.csvw_records.specs.declared.stop.RowStop.TheVariants as row_stop
use Rattle.csvw_columns.specs.declared.plan.TablePlan.{TablePlan}
use Rattle.csvw_triples_core.specs.declared.term.Triple.{Triple}
use Rattle.csvw_engine_core.specs.Stops.{IsOf, of_row_stop}
use Rattle.csvw_engine_core.specs.Tables.{Gives, SettlesTable, StopsTable}
use Rattle.csvw_engine_core.specs.declared.stop.Stop.{Stop}
use Rattle.csvw_engine_core.specs.declared.stop.Stop.TheVariants as stop
use Rattle.csvw_engine_core.specs.declared.table.Table.{Table}

-- a result that is a stop of the table
pub own_err : (t : ℕ) (r : Result Unit Stop) (e f : Stop) → r ≡ Err e → e ≡ f → IsOf t f → IfErr r (λ reason. IsOf t reason)
own_err t r e f p q own = subst (λ z. IfErr z (λ reason. IsOf t reason)) (sym (p ∙ ap Err q)) own

pub own_row_stop : (t row : ℕ) (reason : RowStop) → IsOf t (of_row_stop t row reason)
own_row_stop t row row_stop.Memory = tt
own_row_stop t row other = refl

pub own_in_text : (plan : TablePlan) (t : Table) (reason : Stop) → StopsTable plan t reason → IsOf plan.number reason
own_in_text plan t stop.Memory so = tt
own_in_text plan t (stop.Rows table row reason) so = so.0
own_in_text plan t (stop.Table table row reason) so = so.0
own_in_text plan t other so = absurd so

pub own_at_sink : {S : Type 0} (gains : S → List Triple → S → Type 0) (cuts : S → Triple → S → Type 0) (is_open : S → Bool) (failed : S → ℕ)
    (triples : List Triple) (old new : S) (t : ℕ) (reason : Stop) → Gives gains cuts is_open failed triples old new (Err reason) → IsOf t reason
own_at_sink gains cuts is_open failed triples old new t stop.Memory gave = tt
own_at_sink gains cuts is_open failed triples old new t stop.Write gave = tt
own_at_sink gains cuts is_open failed triples old new t other gave = absurd gave

pub own_at_end : (plan : TablePlan) (old new : Table) (r : Result Unit Stop) → SettlesTable plan old new r → IfErr r (λ reason. IsOf plan.number reason)
own_at_end plan old new r (inl (columns, known, same, ok)) = subst (λ z. IfErr z (λ reason. IsOf plan.number reason)) (sym ok) tt
own_at_end plan old new (Ok u) (inr s) = tt
own_at_end plan old new (Err stop.Memory) (inr s) = tt
own_at_end plan old new (Err (stop.Table table row reason)) (inr (none, (same, (own, gives_none, source)))) = own
own_at_end plan old new (Err other) (inr (none, (same, never))) = absurd never
