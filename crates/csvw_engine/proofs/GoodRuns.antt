-- A run over good tables stops neither for its document nor in a text.
use Rattle.std.proofs.Common.{◌≡◌, ◌<◌, ◌≤◌, ◌+◌, ◌^◌, ℕ, add-one, length-append, zero, suc, Bool, true, List, [], ◌∷◌, ◌++◌, refl, sym, ap, ◌∙◌, subst}
use Rattle.std.proofs.Common.{arith, inl, inr, length}
use Rattle.std.proofs.Common.{Option, Some, None, Result, Ok, Err}
use Rattle.std.specs.Prelude.{slice_get}
use Rattle.std.specs.Io.KnownBytes.{Consumes, IsAtEnd}
use Rattle.std.proofs.lemmas.Option.{slice_get_cases, slice_get_within}
use Rattle.csvw_records.specs.Lawful.{IsLawful}
use Rattle.csvw_streams.specs.Counted.{inner_of}
use Rattle.csvw_streams.specs.Streams.{Stream}
use Rattle.csvw_streams.specs.declared.counted.Counted.{Counted}
use Rattle.csvw_description.specs.declared.description.Description.{Description}
use Rattle.csvw_meta_core.specs.declared.fault.MetaFault.{MetaFault}
use Rattle.csvw_meta.specs.Document.{Document, IsFault, group_in}
use Rattle.csvw_columns.specs.PlanOf.{plan_of}
use Rattle.csvw_columns.specs.declared.plan.Plan.{Plan}
use Rattle.csvw_columns.specs.declared.plan.TablePlan.{TablePlan}
use Rattle.csvw_triples_core.specs.declared.mode.Mode.{Mode}
use Rattle.csvw_report.specs.declared.outcome.Outcome.{Outcome}
use Rattle.csvw_session.specs.Events.{Event, text_of, ended_in}
use Rattle.csvw_columns.specs.Ready.{AreReady}
use Rattle.csvw_engine_core.specs.declared.stop.Stop.{Stop}
use Rattle.csvw_engine_core.specs.declared.stop.Stop.TheVariants as stop
use Rattle.csvw_group_laws.specs.Annotated.{IsAnnotated, AreAnnotated}
use Rattle.csvw_group_laws.specs.GoodTexts.{GoesOnToTable, GoodTextsAreAccepted}
use Rattle.csvw_engine.specs.Reading.{Gave}
use Rattle.csvw_engine.specs.ReadOrder.{AreReads, total_len}
use Rattle.csvw_engine.specs.GoodRuns.{IsOkOrLacks, ReadGoodTables, text_len}
use Rattle.csvw_engine.specs.Runs.{IsPlanned, ReadsGroup, Runs}
use Rattle.csvw_engine.specs.Texts.{RefusedInText, StopsInText, piece_limit}

lawful_at : (plans : List TablePlan) (i : ℕ) (plan : TablePlan) → AreReady plans → slice_get plans i ≡ Some plan → IsLawful plan.dialect
lawful_at [] i plan ready e = cc
lawful_at (p ∷ plans) zero plan ready e = let same : p ≡ plan = cc in subst (λ (z : TablePlan). IsLawful z.dialect) same ready.0.dialect
lawful_at (p ∷ plans) (suc i) plan ready e = lawful_at plans i plan ready.1 e

-- a place of a list has an item
within : {X : Type 0} (xs : List X) (i : ℕ) → i < length xs → (x : X) × (slice_get xs i ≡ Some x)
within xs i below = elim (slice_get_cases xs i).1 [
  | inl (x, _, is_at, _) ↦ (x, is_at)
  | inr (over, _) ↦ absurd (omega (arith, below, over))
]

-- each place of a list is one of another that is as long
at_place : {X Y : Type 0} (xs : List X) (ys : List Y) (i : ℕ) (x : X) → length ys ≡ length xs → slice_get xs i ≡ Some x → (y : Y) × (slice_get ys i ≡ Some y)
at_place xs ys i x many e = elim (slice_get_cases ys i).1 [
  | inl (y, _, is_at, _) ↦ (y, is_at)
  | inr (over, _) ↦ let below = slice_get_within xs i x e in absurd (omega (arith, many, below, over))
]

-- what is left of known bytes
record IsLeft (whole bytes : List ℕ) (ended : Bool) : Type 0 where
  pub more : List ℕ
  pub parted : whole ≡ bytes ++ more
  pub none : ended ≡ true → more ≡ []

left_of : (whole bytes : List ℕ) (now : Option (List ℕ)) (ended : Bool) → Consumes (Some whole) now bytes
    → (ended ≡ true → IsAtEnd now) → IsLeft whole bytes ended
left_of whole bytes None ended consumed at_end = absurd consumed
left_of whole bytes (Some rest) ended consumed at_end = record { more = rest; parted = consumed; none = at_end }

same_group : (d e : Description) (o : Option Description) → o ≡ Some d → o ≡ Some e → d ≡ e
same_group d e o p q = let same : Some d ≡ Some e = sym p ∙ q in cc

-- there are no more reads than the tables have bytes and ends
abbrev pub ReadsAreBytes : Type 0
ReadsAreBytes = (many limit : ℕ) (events : List Event) → AreReads many limit events → length events ≤ total_len many events + many

-- what describes a group has no fault
abbrev pub GroupsHaveNoFaults : Type 0
GroupsHaveNoFaults = (x : Document) (d : Description) (fault : MetaFault) → group_in x ≡ Some d → IsFault x fault → ⊥

module _ (accepted : GoodTextsAreAccepted) (without_faults : GroupsHaveNoFaults) (are_bytes : ReadsAreBytes) {R : Type 0}
    (remaining : R → Option (List ℕ)) (order : ℕ → List Event → Type 0) (described : Document) (olds news : List (Counted R))
    (good : ReadGoodTables remaining described olds) where
  no_fault : (fault : MetaFault) → IsFault described fault → ⊥
  no_fault fault is = without_faults described good.description fault good.is_described is

  plan_is : (plan : Plan) → IsPlanned described plan → plan ≡ plan_of good.description
  plan_is plan planned =
      let same = same_group planned.description good.description (group_in described) planned.is_described good.is_described in
      planned.planned ∙ ap plan_of same

  as_many : (plan : Plan) → IsPlanned described plan → length olds ≡ length plan.tables
  as_many plan planned = good.many ∙ ap (λ (p : Plan). length p.tables) (sym (plan_is plan planned))

  module _ (plan : Plan) (events : List Event) (reads : ReadsGroup remaining order described olds news plan events) where
    annotated : AreAnnotated plan.tables good.texts good.tables
    annotated = subst (λ (p : Plan). AreAnnotated p.tables good.texts good.tables) (sym (plan_is plan reads.planned)) good.annotated

    gave_at : (t i : ℕ) (r s : Counted R) → i + 1 ≡ t → slice_get olds i ≡ Some r → slice_get news i ≡ Some s
        → Gave remaining r s (text_of events t) (ended_in events t)
    gave_at t i r s number was is = subst (λ n. Gave remaining r s (text_of events n) (ended_in events n)) number (reads.gave.gave.each i r s was is)

    left_at : (t i : ℕ) (r s : Counted R) → i + 1 ≡ t → slice_get olds i ≡ Some r → slice_get news i ≡ Some s
        → IsLeft (good.texts i) (text_of events t) (ended_in events t)
    left_at t i r s number was is =
        let gave = gave_at t i r s number was is in
        left_of (good.texts i) (text_of events t) (remaining (inner_of s)) (ended_in events t)
        (subst (λ o. Consumes o (remaining (inner_of s)) (text_of events t)) (good.known i r was) gave.consumed) gave.at_end

    goes_on : (t i : ℕ) (table : TablePlan) → i + 1 ≡ t → slice_get plan.tables i ≡ Some table → GoesOnToTable table (text_of events t) (ended_in events t)
    goes_on t i table number e =
        let (old, was) = at_place plan.tables olds i table reads.many e in
        let (new, is) = at_place olds news i old reads.gave.gave.many was in
        let (own, own_is) = at_place plan.tables good.tables i table annotated.many e in
        let left = left_at t i old new number was is in
        record {
          more = left.more;
          none_left = left.none;
          table = own;
          annotated = subst (λ text. IsAnnotated table text own) left.parted (annotated.each i table own e own_is);
        }

    not_stopped : (t row : ℕ) (reason : _) → StopsInText plan events t row reason → ⊥
    not_stopped t row reason h =
        accepted.stops h.table (text_of events t) (ended_in events t) h.given row reason (lawful_at plan.tables h.i h.table reads.planned.ready h.is_at)
        (goes_on t h.i h.table h.number h.is_at) h.stopped

    not_refused : (t row : ℕ) (reason : _) → RefusedInText plan events t row reason → ⊥
    not_refused t row reason h =
        accepted.refuses h.table (text_of events t) (ended_in events t) h.given h.columns h.faults h.rows row reason
        (lawful_at plan.tables h.i h.table reads.planned.ready h.is_at) (goes_on t h.i h.table h.number h.is_at) h.rows_before h.refused

    -- a text so far is no longer than the whole
    read_len : (i : ℕ) → i < length olds → length (text_of events (i + 1)) ≤ length (good.texts i)
    read_len i below =
        let (old, was) = within olds i below in
        let (new, is) = at_place olds news i old reads.gave.gave.many was in
        let left = left_at (i + 1) i old new refl was is in
        subst (λ text. length (text_of events (i + 1)) ≤ length text) (sym left.parted)
        (simp length-append (omega arith))

    read_lens : (n : ℕ) → n ≤ length olds → total_len n events ≤ text_len good.texts n
    read_lens zero h = omega arith
    read_lens (suc n) h =
        let before = read_lens n (omega (arith, h)) in
        let here = subst (λ t. length (text_of events t) ≤ length (good.texts n)) (add-one n) (read_len n (omega (arith, h))) in
        omega (arith, before, here)

    -- as many reads as there are bytes and tables at most
    long : length events ≡ 2 ^ 40 → 2 ^ 40 ≤ text_len good.texts (length olds) + length olds
    long many =
        let few = are_bytes (length olds) piece_limit events reads.gave.read.reads in
        let lens = read_lens (length olds) (omega arith) in
        omega (arith, few, lens, many)

  pub ok_or_lacks : (mode : Mode) (out report_out : Stream) (result : Result Outcome Stop)
      → Runs remaining order described mode olds news out report_out result → IsOkOrLacks good.texts olds news out report_out result
  ok_or_lacks mode out report_out (Ok outcome) h = tt
  ok_or_lacks mode out report_out (Err stop.Memory) h = tt
  ok_or_lacks mode out report_out (Err stop.Read) ((plan, events, reads, (because, _)), _, _) = elim because.0 [
    | inl failed ↦ inl failed
    | inr (many, _) ↦ inr (long plan events reads many)
  ]
  ok_or_lacks mode out report_out (Err stop.Write) h = elim h [
    | inl (_, rises, _) ↦ inl rises
    | inr (_, inl (rises, _)) ↦ inl rises
    | inr (_, inr (_, rises)) ↦ inr rises
  ]
  ok_or_lacks mode out report_out (Err (stop.Meta fault)) h = absurd (no_fault fault h.0)
  ok_or_lacks mode out report_out (Err stop.TableCount) h = absurd (h.0.apart (as_many h.0.plan h.0.planned))
  ok_or_lacks mode out report_out (Err (stop.Rows t row reason)) ((plan, events, reads, (stops, _)), _, _) =
      absurd (not_stopped plan events reads t row reason stops.1)
  ok_or_lacks mode out report_out (Err (stop.Table t row reason)) ((plan, events, reads, (refuses, _)), _, _) =
      absurd (not_refused plan events reads t row reason refuses.1)
  ok_or_lacks mode out report_out (Err other) h = absurd h
