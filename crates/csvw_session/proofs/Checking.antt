-- Which tables take events.
use Rattle.std.proofs.Common.{◌≡◌, ◌≢◌, ◌⊎◌, ◌<◌, ◌≤◌, ◌+◌, ℕ, zero, suc, [], ◌∷◌, arith, get_or, Bool, true, false, List, refl, sym, ap, ◌∙◌, subst}
use Rattle.std.proofs.Common.{length, inl, inr, Some, None, Err}
use Rattle.std.specs.Prelude.{slice_get}
use Rattle.std.proofs.lemmas.Option.{slice_get-get_or, slice_get_cases, slice_get_within}
use Rattle.csvw_columns.specs.Ready.{IsReady}
use Rattle.csvw_columns.specs.declared.plan.TablePlan.{TablePlan}
use Rattle.csvw_annotate.specs.declared.row.Row.{Row}
use Rattle.csvw_triples_core.specs.declared.mode.Mode.{Mode}
use Rattle.csvw_triples_core.specs.declared.term.Triple.{Triple}
use Rattle.csvw_engine_core.specs.Tables.{is_ended}
use Rattle.csvw_engine_core.specs.declared.table.Table.{Table}
use Rattle.csvw_session.specs.Events.{Event, text_of, ended_in}
use Rattle.csvw_columns.specs.Ready.{AreReady}
use Rattle.csvw_session.specs.Sessions.{Checks, Takes, Told, Stands}
use Rattle.csvw_session.specs.declared.session.Session.{Session}
use Rattle.csvw_engine_core.specs.declared.stop.Stop.{Stop}
use Rattle.csvw_engine_core.specs.declared.stop.Stop.TheVariants as stop
use Rattle.csvw_session.specs.declared.state.State.{State}
use Rattle.csvw_session.specs.declared.state.State.TheVariants as state

pub open_state : (s : State) → s ≢ state.Failed → s ≢ state.Finished → s ≡ state.Open
open_state state.Open f g = refl
open_state state.Finished f g = absurd (g refl)
open_state state.Failed f g = absurd (f refl)

pub never : false ≡ true → ⊥
never e = cc

pub ready_at : (plans : List TablePlan) (i : ℕ) (plan : TablePlan) → AreReady plans → slice_get plans i ≡ Some plan → IsReady plan
ready_at [] i plan h e = cc
ready_at (p ∷ plans) zero plan h e = let same : p ≡ plan = cc in subst IsReady same h.0
ready_at (p ∷ plans) (suc i) plan h e = ready_at plans i plan h.1 e

-- the plan of a table that is there
pub plan_at : {S : Type 0} (s : Session S) (plans : List TablePlan) (i : ℕ) (plan : TablePlan) → i < length s.tables.items → plan ≡ get_or plans i plan
    → plans ≡ s.plan.tables → slice_get s.plan.tables i ≡ Some plan
plan_at s plans i plan below is same =
    slice_get-get_or s.plan.tables i plan (subst (λ n. i < n) s.many below) ∙ ap Some (sym (is ∙ ap (λ (xs : List TablePlan). get_or xs i plan) same))

-- an ended table is one that was ended
was_ended : (plan : TablePlan) (mode : Mode) (t : Table) (bytes : List ℕ) (ended : Bool) (rows : List Row) → Told plan mode t bytes ended rows
    → is_ended t ≡ true → ended ≡ true
was_ended plan mode t bytes true rows h e = refl
was_ended plan mode t bytes false rows h e = let wrong : false ≡ true = sym h.stands.holds.reader.ended_is ∙ e in cc

found_at : {S : Type 0} (gains : S → List Triple → S → Type 0) (is_open : S → Bool) (failed : S → ℕ) (s : Session S) (i : ℕ) (table : Table)
    (start : S) (events : List Event)
    → slice_get s.tables.items i ≡ Some table → is_ended table ≡ true → Stands gains is_open failed start events s
    → ((x : TablePlan) × (i < length s.plan.tables) × (slice_get s.plan.tables i ≡ Some x) × (get_or s.plan.tables i x ≡ x)) ⊎
    ((length s.plan.tables ≤ i) × (slice_get s.plan.tables i ≡ None))
    → ended_in events (i + 1) ≡ true
found_at gains is_open failed s i table start events at e h (inl w) =
    was_ended w.0 s.mode table (text_of events (i + 1)) (ended_in events (i + 1)) (h.rows i) (h.tables i w.0 table (w.2, at)) e
found_at gains is_open failed s i table start events at e h (inr w) =
    let below : i < length s.tables.items = slice_get_within s.tables.items i table at in let many = s.many in let over = w.0 in absurd (omega arith)

ended_at : {S : Type 0} (gains : S → List Triple → S → Type 0) (is_open : S → Bool) (failed : S → ℕ) (s : Session S) (t i : ℕ) (table : Table)
    (start : S) (events : List Event)
    → i + 1 ≡ t → slice_get s.tables.items i ≡ Some table → is_ended table ≡ true → Stands gains is_open failed start events s → ended_in events t ≡ true
ended_at gains is_open failed s t i table start events number at e h =
    subst (λ n. ended_in events n ≡ true) number (found_at gains is_open failed s i table start events at e h (slice_get_cases s.plan.tables i).1)

-- a call that is not taken
pub refused_call : {S : Type 0} (gains : S → List Triple → S → Type 0) (cuts : S → Triple → S → Type 0) (is_open : S → Bool) (failed : S → ℕ)
    (s : Session S) (t : ℕ) (event : Event) (e : Stop)
    → Checks s t (Err e) → Takes gains cuts is_open failed s s t event (Err e)
refused_call gains cuts is_open failed s t event stop.Failed k = (refl, k)
refused_call gains cuts is_open failed s t event stop.UnknownTable k = (refl, k.0, k.1)
refused_call gains cuts is_open failed s t event stop.AfterEnd (f, known, inl finished) =
    (refl, f, λ start events h. let wrong : state.Finished ≡ state.Open = sym finished ∙ h.state_is in cc)
refused_call gains cuts is_open failed s t event stop.AfterEnd (f, known, inr w) =
    (refl, f, λ start events h. ended_at gains is_open failed s t w.0 w.1 start events w.2 w.3 w.4 h)
refused_call gains cuts is_open failed s t event other k = absurd k
