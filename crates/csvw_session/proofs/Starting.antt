-- A session at its start.
use Rattle.std.proofs.Common.{◌≡◌, ℕ, zero, suc, Bool, true, false, List, [], ◌∷◌, ◌++◌, refl, sym, ap, ◌∙◌, subst, length, inl, arith, Some, None, Err}
use Rattle.std.specs.Prelude.{slice_get, Contains}
use Rattle.csvw_columns.specs.declared.plan.Plan.{Plan}
use Rattle.csvw_columns.specs.declared.plan.TablePlan.{TablePlan}
use Rattle.csvw_triples_core.specs.Taking.{FrontOf, Ends}
use Rattle.csvw_triples_core.specs.declared.mode.Mode.{Mode}
use Rattle.csvw_triples_core.specs.declared.sink.SinkFault.{SinkFault}
use Rattle.csvw_triples_core.specs.declared.sink.SinkFault.TheVariants as fault
use Rattle.csvw_triples_core.specs.declared.term.Triple.{Triple}
use Rattle.csvw_triples.specs.OpeningTriples.{opening}
use Rattle.csvw_engine_core.specs.Stops.{of_fault}
use Rattle.csvw_engine_core.specs.Tables.{IsNewTable, columns_of}
use Rattle.csvw_engine_core.specs.declared.table.Table.{Table}
use Rattle.csvw_session.specs.NewTables.{AreNew}
use Rattle.csvw_session.specs.Refusing.{Refuses}
use Rattle.csvw_keys.specs.Books.{KeepsKeys, no_rows}
use Rattle.csvw_keys.specs.KeyRules.{rules_of}
use Rattle.csvw_session.specs.Sessions.{by_number, Told, Stands}
use Rattle.csvw_session.specs.declared.session.Session.{Session}
use Rattle.csvw_session.specs.declared.state.State.TheVariants as state
use Rattle.csvw_engine_core.specs.declared.stop.Stop.TheVariants as stop
use Rattle.csvw_session.proofs.Standing.{no_triples, no_faults}

pub one_more_new : (mode : Mode) (plans : List TablePlan) (tables : List Table) (plan : TablePlan) (t : Table) → AreNew mode plans tables
    → IsNewTable plan mode t → AreNew mode (plans ++ plan ∷ []) (tables ++ t ∷ [])
one_more_new mode [] [] plan t h is = (is, tt)
one_more_new mode [] (u ∷ tables) plan t h is = absurd h
one_more_new mode (p ∷ plans) [] plan t h is = absurd h
one_more_new mode (p ∷ plans) (u ∷ tables) plan t h is = (h.0, one_more_new mode plans tables plan t h.1 is)

pub as_many : (mode : Mode) (plans : List TablePlan) (tables : List Table) → AreNew mode plans tables → length tables ≡ length plans
as_many mode [] [] h = refl
as_many mode [] (t ∷ tables) h = absurd h
as_many mode (p ∷ plans) [] h = absurd h
as_many mode (p ∷ plans) (t ∷ tables) h = ap (λ n. suc n) (as_many mode plans tables h.1)

same_item : {X : Type 0} (x y : X) → Some x ≡ Some y → x ≡ y
same_item x y e = cc

no_item : {X : Type 0} (x : X) → None ≡ Some x → ⊥
no_item x e = cc

new_at : (mode : Mode) (plans : List TablePlan) (tables : List Table) (i : ℕ) (plan : TablePlan) (t : Table) → AreNew mode plans tables
    → slice_get plans i ≡ Some plan → slice_get tables i ≡ Some t → IsNewTable plan mode t
new_at mode [] tables i plan t h e f = absurd (no_item plan e)
new_at mode (p ∷ plans) [] i plan t h e f = absurd h
new_at mode (p ∷ plans) (u ∷ tables) zero plan t h e f =
    subst (λ z. IsNewTable z mode t) (same_item p plan e) (subst (λ z. IsNewTable p mode z) (same_item u t f) h.0)
new_at mode (p ∷ plans) (u ∷ tables) (suc i) plan t h e f = new_at mode plans tables i plan t h.1 e f

none_at : (n : ℕ) → no_rows n ≡ by_number (λ i. []) n
none_at zero = refl
none_at (suc n) = refl

told_at_start : (plan : TablePlan) (mode : Mode) (t : Table) → IsNewTable plan mode t → Told plan mode t [] false []
told_at_start plan mode t is = record {
  stands = record { given = []; holds = is.holds; at_rest = inl refl };
  faults = is.no_faults ∙ sym (no_faults plan.number (columns_of t));
}

module _ {S : Type 0} (gains : S → List Triple → S → Type 0) (is_open : S → Bool) (failed : S → ℕ) (stays : (s : S) → gains s [] s) where
  pub stands_at_start : (s : Session S) → AreNew s.mode s.plan.tables s.tables.items → KeepsKeys s.keys (rules_of s.plan) no_rows → s.state ≡ state.Open
      → Stands gains is_open failed s.sink [] s
  stands_at_start s new kept is = record {
    rows = λ i. [];
    tables = λ i plan t at. told_at_start plan s.mode t (new_at s.mode s.plan.tables s.tables.items i plan t new at.0 at.1);
    took = record {
      taken = [];
      gained = stays s.sink;
      within = λ x c. absurd (nothing_in x c);
      whole = λ x g. subst (λ ts. Contains ts x) (no_triples s.mode g.1.number (columns_of g.2)) g.4;
    };
    beyond = λ i above. refl;
    keys = subst (KeepsKeys s.keys (rules_of s.plan)) (λ k n. none_at n k) kept;
    ready = (refl, refl);
    state_is = is;
  }
    where
      nothing_in : (x : Triple) → Contains [] x → ⊥
      nothing_in x c = let h = c.1 in absurd (omega arith)

module _ {S : Type 0} (gains : S → List Triple → S → Type 0) (cuts : S → Triple → S → Type 0) (is_open : S → Bool) (failed : S → ℕ)
    (plan : Plan) (mode : Mode) where
  -- before anything was put
  pub refused_early : (sink : S) → gains sink [] sink → Refuses gains cuts is_open failed plan mode sink sink stop.Memory
  refused_early sink stays =
      (record { front = []; rest = opening mode plan; parts = refl; gained = stays; cut = λ fails. absurd fails }, (refl, refl))

  never_open : (sink : S) → is_open sink ≡ false → is_open sink ≡ true → ⊥
  never_open sink e f = let wrong : false ≡ true = sym e ∙ f in cc

  -- a front, by another word for the failure
  by_failure : (sink now : S) (Fails Before : Type 0) → (Fails → Before) → FrontOf gains cuts sink (opening mode plan) now Before
      → FrontOf gains cuts sink (opening mode plan) now Fails
  by_failure sink now Fails Before so f =
      record { front = f.front; rest = f.rest; parts = f.parts; gained = f.gained; cut = λ fails. f.cut (so fails) }

  pub refused_by : (sink now : S) (f : SinkFault) → FrontOf gains cuts sink (opening mode plan) now (f ≡ fault.Device)
      → Ends is_open failed sink now (Err f)
      → Refuses gains cuts is_open failed plan mode sink now (of_fault f)
  refused_by sink now fault.Memory front ends = (by_failure sink now ⊥ (fault.Memory ≡ fault.Device) (λ fails. absurd fails) front, ends)
  refused_by sink now fault.Device front ends =
      (by_failure sink now (is_open sink ≡ true) (fault.Device ≡ fault.Device) (λ begun. refl) front, ends.0, λ begun room. ends.1 room)
  refused_by sink now fault.Closed front ends = (
    by_failure sink now (is_open sink ≡ true) (fault.Closed ≡ fault.Device) (λ begun. absurd (never_open sink ends.0 begun)) front,
    ends.1.0 ∙ ends.0,
    λ begun room. absurd (never_open sink ends.0 begun),
  )
