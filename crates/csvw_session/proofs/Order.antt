-- The first reason for which an event is refused.
use Rattle.std.proofs.Common.{◌≡◌, ◌≢◌, ◌<◌, ◌+◌, ℕ, true, false, refl, sym, ◌∙◌, subst, arith, length, inl, inr, Some, Result, Ok, Err}
use Rattle.std.specs.Prelude.{slice_get}
use Rattle.csvw_engine_core.specs.Stops.{IsOf}
use Rattle.csvw_session.specs.Sessions.{Checks, HasNoTable, IsOver, IsRefusedInOrder}
use Rattle.csvw_session.specs.declared.session.Session.{Session}
use Rattle.csvw_session.specs.declared.state.State.TheVariants as state
use Rattle.csvw_engine_core.specs.declared.stop.Stop.{Stop}
use Rattle.csvw_engine_core.specs.declared.stop.Stop.TheVariants as stop

-- a table that has a place is there
pub has_table : {S : Type 0} (s : Session S) (t i : ℕ) → i + 1 ≡ t → i < length s.tables.items → HasNoTable s t → ⊥
has_table s t i number below (inl none) = omega (arith, number, none)
has_table s t i number below (inr past) = omega (arith, number, below, past)

-- and one that takes events is open
not_over : {S : Type 0} (s : Session S) (t i : ℕ) → Checks s t (Ok i) → IsOver s t → ⊥
not_over s t i k (inl finished) = let wrong : state.Finished ≡ state.Open = sym finished ∙ k.0 in cc
not_over s t i k (inr w) =
    let same : w.0 ≡ i = (let number = k.1 in let other = w.2 in omega (arith, number, other)) in
    let wrong : false ≡ true = sym (k.3 w.1 (subst (λ j. slice_get s.tables.items j ≡ Some w.1) same w.3)) ∙ w.4 in cc

not_failed : {S : Type 0} (s : Session S) → s.state ≡ state.Open → s.state ≢ state.Failed
not_failed s open_is e = let wrong : state.Failed ≡ state.Open = sym e ∙ open_is in cc

-- an event that is refused without a look at it
pub refused_in_order : {S : Type 0} (s : Session S) (t : ℕ) (e : Stop) → Checks s t (Err e) → IsRefusedInOrder s t (Err e)
refused_in_order s t stop.Failed k = record {
  failed = (λ e. k, λ x. refl);
  unknown = (λ e. cc, λ h. absurd (h.0 k));
  after_end = (λ e. cc, λ h. absurd (h.0 k));
}
refused_in_order s t stop.UnknownTable (f, none) = record {
  failed = (λ e. cc, λ x. absurd (f x));
  unknown = (λ e. (f, none), λ h. refl);
  after_end = (λ e. cc, λ h. absurd (h.1 none));
}
refused_in_order s t stop.AfterEnd (f, known, over) = record {
  failed = (λ e. cc, λ x. absurd (f x));
  unknown = (λ e. cc, λ h. absurd (known h.1));
  after_end = (λ e. (f, known, over), λ h. refl);
}
refused_in_order s t other k = absurd k

-- one that was looked at
looked_at : {S : Type 0} (s : Session S) (t i : ℕ) (result : Result Unit Stop) → Checks s t (Ok i) → result ≢ Err stop.Failed
    → result ≢ Err stop.UnknownTable → result ≢ Err stop.AfterEnd
    → IsRefusedInOrder s t result
looked_at s t i result k f u a = record {
  failed = (λ e. absurd (f e), λ x. absurd (not_failed s k.0 x));
  unknown = (λ e. absurd (u e), λ h. absurd (has_table s t i k.1 k.2 h.1));
  after_end = (λ e. absurd (a e), λ h. absurd (not_over s t i k h.2));
}

pub taken_in_order : {S : Type 0} (s : Session S) (t i : ℕ) (u : Unit {0}) → Checks s t (Ok i) → IsRefusedInOrder s t (Ok u)
taken_in_order s t i u k = looked_at s t i (Ok u) k (λ e. cc) (λ e. cc) (λ e. cc)

pub stopped_in_order : {S : Type 0} (s : Session S) (t i : ℕ) (reason : Stop) → IsOf t reason → Checks s t (Ok i) → IsRefusedInOrder s t (Err reason)
stopped_in_order s t i stop.Memory own k = looked_at s t i (Err stop.Memory) k (λ e. cc) (λ e. cc) (λ e. cc)
stopped_in_order s t i stop.Write own k = looked_at s t i (Err stop.Write) k (λ e. cc) (λ e. cc) (λ e. cc)
stopped_in_order s t i (stop.Rows table row reason) own k = looked_at s t i (Err (stop.Rows table row reason)) k (λ e. cc) (λ e. cc) (λ e. cc)
stopped_in_order s t i (stop.Table table row reason) own k = looked_at s t i (Err (stop.Table table row reason)) k (λ e. cc) (λ e. cc) (λ e. cc)
stopped_in_order s t i other own k = absurd own
