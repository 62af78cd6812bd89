-- What a call for a table means for the session.
use Rattle.std.proofs.Common.{◌≡◌, ◌<◌, ◌+◌, ℕ, Bool, true, false, List, [], ◌∷◌, ◌++◌, refl, sym, ap, ◌∙◌, subst, length, inl, inr, Option, None, Ok, Err}
use Rattle.std.specs.Prelude.{slice_set}
use Rattle.csvw_records.specs.RowValue.{Given}
use Rattle.csvw_columns_core.specs.declared.columns.Columns.{Columns}
use Rattle.csvw_columns.specs.declared.plan.TablePlan.{TablePlan}
use Rattle.csvw_annotate.specs.declared.row.Row.{Row}
use Rattle.csvw_triples_core.specs.declared.mode.Mode.{Mode}
use Rattle.csvw_triples_core.specs.declared.term.Triple.{Triple}
use Rattle.csvw_engine_core.specs.Annotated.{HasRows}
use Rattle.csvw_engine_core.specs.Faults.{table_faults}
use Rattle.csvw_engine_core.specs.Stops.{IsOf}
use Rattle.csvw_engine_core.specs.declared.stop.Stop.{Stop}
use Rattle.csvw_engine_core.specs.declared.stop.Stop.TheVariants as stop
use Rattle.csvw_engine_core.specs.Tables.{outlets, IsStopped, TableHolds, KeepsColumns, GivesFront, GivesSome, TableOutcome, EndOutcome}
use Rattle.csvw_engine_core.specs.Tables.{columns_of, faults_of, is_ended}
use Rattle.csvw_engine_core.specs.declared.table.Table.{Table}
use Rattle.csvw_session.specs.Events.{Event, Feed, End, text_of, ended_in}
use Rattle.csvw_session.specs.Sessions.{AtTable, GainsFront, GainsSome, IsOpenTable, IsTableAt, Told, Stands, Takes, IsRefusedHere}
use Rattle.csvw_session.specs.declared.session.Session.{Session}
use Rattle.csvw_session.specs.declared.state.State.TheVariants as state
use Rattle.csvw_session.proofs.Standing.{stands_on, same_faults, faults_more}
use Rattle.csvw_session.proofs.Texts.{fed_same, fed_other, fed_ended, end_text, end_same, end_other}

-- a table whose text has not ended
pub is_going : (plan : TablePlan) (mode : Mode) (t : Table) (bytes : List ℕ) (ended : Bool) (rows : List Row) → Told plan mode t bytes ended rows
    → is_ended t ≡ false
    → (ended ≡ false) × IsOpenTable plan mode t bytes rows
is_going plan mode t bytes false rows h e = (refl, h.stands)
is_going plan mode t bytes true rows h e = let wrong : true ≡ false = sym h.stands.ended ∙ e in cc

none_of : (plan : TablePlan) (mode : Mode) (t : Table) (bytes : List ℕ) (given : List Given) (rows : List Row)
    → TableHolds plan mode t bytes false given rows → columns_of t ≡ None → rows ≡ []
none_of plan mode t bytes given rows h e = subst (λ z. HasRows plan z given rows) e h.has

-- the faults of rows more
faults_on : (plan : TablePlan) (t u : Table) (rows more : List Row) → KeepsColumns t u → (columns_of t ≡ None → rows ≡ [])
    → faults_of t ≡ table_faults plan.number (columns_of t) rows
    → faults_of u ≡ faults_of t ++ table_faults plan.number (columns_of u) more → faults_of u ≡ table_faults plan.number (columns_of u) (rows ++ more)
faults_on plan t u rows more keeps none before told =
    told
    ∙ (ap (λ z. z ++ table_faults plan.number (columns_of u) more) (before ∙ sym (same_faults plan.number (columns_of t) (columns_of u) rows keeps none))
    ∙ sym (faults_more plan.number (columns_of u) rows more))

module _ {S : Type 0} (gains : S → List Triple → S → Type 0) (cuts : S → Triple → S → Type 0) (is_open : S → Bool) (failed : S → ℕ)
    (goes_on : (a b c : S) (xs ys : List Triple) → gains a xs b → gains b ys c → gains a (xs ++ ys) c)
    (old new : Session S) (i : ℕ) (plan : TablePlan) (t u : Table) (is_at : IsTableAt old i plan t) (below : i < length old.tables.items)
    (going : is_ended t ≡ false)
    (plans : new.plan.tables ≡ old.plan.tables) (mode_is : new.mode ≡ old.mode) (tables : new.tables.items ≡ slice_set old.tables.items i u) where
  -- the text of the table so far
  here : (start : S) (events : List Event) → (h : Stands gains is_open failed start events old)
      → (ended_in events (i + 1) ≡ false) × IsOpenTable plan old.mode t (text_of events (i + 1)) (h.rows i)
  here start events h = is_going plan old.mode t (text_of events (i + 1)) (ended_in events (i + 1)) (h.rows i) (h.tables i plan t is_at) going

  -- a piece was taken
  pub fed : (piece : List ℕ) → new.state ≡ state.Open
      → ((bytes : List ℕ) (given : List Given) (rows : List Row) → TableHolds plan old.mode t bytes false given rows
      → TableOutcome gains cuts is_open failed plan old.mode (bytes ++ piece) false given rows t u (outlets old.sink old.keys) (outlets new.sink new.keys)
      (Ok tt))
      → (start : S) (events : List Event) → Stands gains is_open failed start events old
      → Stands gains is_open failed start (events ++ Feed (i + 1) piece ∷ []) new
  fed piece state_is feeds start events h =
      let k = here start events h in
      let bytes : List ℕ = text_of events (i + 1) in
      let all = feeds bytes k.1.given (h.rows i) k.1.holds in
      let gone = all.0.gone in
      let none : columns_of t ≡ None → h.rows i ≡ [] = none_of plan old.mode t bytes k.1.given (h.rows i) k.1.holds in
      let told : Told plan old.mode u (bytes ++ piece) false (h.rows i ++ gone.more) = record {
        stands = record { given = k.1.given ++ gone.raws; holds = gone.holds; at_rest = inr all.0.at_rest };
        faults = faults_on plan t u (h.rows i) gone.more gone.keeps none (h.tables i plan t is_at).faults gone.told;
      } in
      stands_on gains is_open failed goes_on old new i plan t u start events (events ++ Feed (i + 1) piece ∷ []) is_at below plans mode_is tables h
      (λ v ne. fed_other events (i + 1) v piece ne) (λ v ne. fed_ended events (i + 1) v piece) gone.more
      (subst (λ b. Told plan old.mode u b (ended_in (events ++ Feed (i + 1) piece ∷ []) (i + 1)) (h.rows i ++ gone.more)) (sym (fed_same events (i + 1) piece))
      (subst (λ b. Told plan old.mode u (bytes ++ piece) b (h.rows i ++ gone.more)) (sym (fed_ended events (i + 1) (i + 1) piece ∙ k.0)) told))
      gone.kept gone.keeps none state_is gone.took all.1

  -- the end was taken
  pub ended : new.state ≡ state.Open
      → ((bytes : List ℕ) (given : List Given) (rows : List Row) → TableHolds plan old.mode t bytes false given rows
      → EndOutcome gains cuts is_open failed plan old.mode bytes given rows t u (outlets old.sink old.keys) (outlets new.sink new.keys) (Ok tt))
      → (start : S) (events : List Event) → Stands gains is_open failed start events old → Stands gains is_open failed start (events ++ End (i + 1) ∷ []) new
  ended state_is ends start events h =
      let k = here start events h in
      let bytes : List ℕ = text_of events (i + 1) in
      let all = ends bytes k.1.given (h.rows i) k.1.holds in
      let none : columns_of t ≡ None → h.rows i ≡ [] = none_of plan old.mode t bytes k.1.given (h.rows i) k.1.holds in
      let told : Told plan old.mode u bytes true (h.rows i ++ all.0.more) = record {
        stands = all.0.holds;
        faults = faults_on plan t u (h.rows i) all.0.more all.0.keeps none (h.tables i plan t is_at).faults all.0.told;
      } in
      stands_on gains is_open failed goes_on old new i plan t u start events (events ++ End (i + 1) ∷ []) is_at below plans mode_is tables h
      (λ v ne. end_text events (i + 1) v) (λ v ne. end_other events (i + 1) v ne) all.0.more
      (subst (λ b. Told plan old.mode u b (ended_in (events ++ End (i + 1) ∷ []) (i + 1)) (h.rows i ++ all.0.more)) (sym (end_text events (i + 1) (i + 1)))
      (subst (λ b. Told plan old.mode u bytes b (h.rows i ++ all.0.more)) (sym (end_same events (i + 1))) told))
      all.0.kept all.0.keeps none state_is all.0.took all.1

  -- the table, with what the call leaves of it
  at_table : (start : S) (events : List Event) (h : Stands gains is_open failed start events old) (Leaves : ℕ → TablePlan → List Given → Type 0)
      → Leaves i plan (here start events h).1.given → AtTable old (i + 1) h.rows Leaves
  at_table start events h Leaves leaves =
      let k = here start events h in
      record {
        i = i;
        number = refl;
        plan = plan;
        table = t;
        is_at = is_at;
        given = k.1.given;
        was = record { head = k.1.holds.head.known; has = k.1.holds.has };
        leaves = leaves;
      }

  module _ (piece : List ℕ) (start : S) (events : List Event) (h : Stands gains is_open failed start events old) where
    abbrev fed_events : List Event
    fed_events = events ++ Feed (i + 1) piece ∷ []

    abbrev fed_text : List ℕ
    fed_text = text_of events (i + 1) ++ piece

    -- some rows of a piece
    some_fed : (Fails : Type 0) → GivesSome gains cuts plan old.mode fed_text false (here start events h).1.given (h.rows i) old.sink new.sink Fails
        → GainsSome gains cuts old new (i + 1) fed_events h.rows Fails
    some_fed Fails some =
        let going_on = (here start events h).0 in
        at_table start events h
        (λ j p given. GivesSome gains cuts p old.mode (text_of fed_events (i + 1)) (ended_in fed_events (i + 1)) given (h.rows j) old.sink new.sink Fails)
        (rw (fed_same events (i + 1) piece, fed_ended events (i + 1) (i + 1) piece, going_on) some)

    -- those before a stop in it
    front_fed : (Why : List ℕ → Bool → TablePlan → Option Columns → List Given → Type 0)
        → GivesFront gains plan old.mode fed_text false (here start events h).1.given (h.rows i) old.sink new.sink (Why fed_text false plan)
        → GainsFront gains old new (i + 1) fed_events h.rows (Why (text_of fed_events (i + 1)) (ended_in fed_events (i + 1)))
    front_fed Why front =
        let going_on = (here start events h).0 in
        at_table start events h
        (λ j p given. GivesFront gains p old.mode (text_of fed_events (i + 1)) (ended_in fed_events (i + 1)) given (h.rows j) old.sink new.sink
        (λ columns all. Why (text_of fed_events (i + 1)) (ended_in fed_events (i + 1)) p columns all))
        (rw (fed_same events (i + 1) piece, fed_ended events (i + 1) (i + 1) piece, going_on) front)

  module _ (start : S) (events : List Event) (h : Stands gains is_open failed start events old) where
    abbrev ended_events : List Event
    ended_events = events ++ End (i + 1) ∷ []

    abbrev ended_text : List ℕ
    ended_text = text_of events (i + 1)

    -- some rows at the end
    some_ended : (Fails : Type 0) → GivesSome gains cuts plan old.mode ended_text true (here start events h).1.given (h.rows i) old.sink new.sink Fails
        → GainsSome gains cuts old new (i + 1) ended_events h.rows Fails
    some_ended Fails some =
        at_table start events h
        (λ j p given. GivesSome gains cuts p old.mode (text_of ended_events (i + 1)) (ended_in ended_events (i + 1)) given (h.rows j) old.sink new.sink
        Fails)
        (rw (end_text events (i + 1) (i + 1), end_same events (i + 1)) some)

    -- those before a stop at it
    front_ended : (Why : List ℕ → Bool → TablePlan → Option Columns → List Given → Type 0)
        → GivesFront gains plan old.mode ended_text true (here start events h).1.given (h.rows i) old.sink new.sink (Why ended_text true plan)
        → GainsFront gains old new (i + 1) ended_events h.rows (Why (text_of ended_events (i + 1)) (ended_in ended_events (i + 1)))
    front_ended Why front =
        at_table start events h
        (λ j p given. GivesFront gains p old.mode (text_of ended_events (i + 1)) (ended_in ended_events (i + 1)) given (h.rows j) old.sink new.sink
        (λ columns all. Why (text_of ended_events (i + 1)) (ended_in ended_events (i + 1)) p columns all))
        (rw (end_text events (i + 1) (i + 1), end_same events (i + 1)) front)

  -- a piece was not taken in full
  pub unfed : (piece : List ℕ) (reason : Stop) → IsOf (i + 1) reason → new.state ≡ state.Failed
      → ((bytes : List ℕ) (given : List Given) (rows : List Row) → TableHolds plan old.mode t bytes false given rows
      → TableOutcome gains cuts is_open failed plan old.mode (bytes ++ piece) false given rows t u (outlets old.sink old.keys) (outlets new.sink new.keys)
      (Err reason))
      → Takes gains cuts is_open failed old new (i + 1) (Feed (i + 1) piece) (Err reason)
  unfed piece stop.Memory own state_is feeds = (
    state_is,
    λ start events h.
        let k = here start events h in
        let all = feeds (text_of events (i + 1)) k.1.given (h.rows i) k.1.holds in
        (some_fed piece start events h ⊥ all.0, all.1),
  )
  unfed piece stop.Write own state_is feeds = (
    state_is,
    λ start events h.
        let k = here start events h in
        let all = feeds (text_of events (i + 1)) k.1.given (h.rows i) k.1.holds in
        (some_fed piece start events h (is_open old.sink ≡ true) all.0, all.1, all.2),
  )
  unfed piece (stop.Rows table row reason) own state_is feeds = (
    state_is,
    own,
    λ start events h.
        let k = here start events h in
        let all = feeds (text_of events (i + 1)) k.1.given (h.rows i) k.1.holds in
        (front_fed piece start events h (λ bytes ended p columns given. IsStopped p bytes ended given row reason) all.0, all.1),
  )
  unfed piece (stop.Table table row reason) own state_is feeds = (
    state_is,
    own,
    λ start events h.
        let k = here start events h in
        let all = feeds (text_of events (i + 1)) k.1.given (h.rows i) k.1.holds in
        let front : GivesFront gains plan old.mode (fed_text piece start events h) false k.1.given (h.rows i) old.sink new.sink
        (λ columns rows. IsRefusedHere plan columns (fed_text piece start events h) false rows row reason) =
        record {
          raws = all.0.raws;
          more = all.0.more;
          columns = all.0.columns;
          faults = all.0.faults;
          table = all.0.table;
          why = inl all.0.why;
          took = all.0.took;
        } in
        (front_fed piece start events h (λ bytes ended p columns given. IsRefusedHere p columns bytes ended given row reason) front, all.1),
  )
  unfed piece other own state_is feeds = absurd own

  -- the end was not taken in full
  pub unended : (reason : Stop) → IsOf (i + 1) reason → new.state ≡ state.Failed
      → ((bytes : List ℕ) (given : List Given) (rows : List Row) → TableHolds plan old.mode t bytes false given rows
      → EndOutcome gains cuts is_open failed plan old.mode bytes given rows t u (outlets old.sink old.keys) (outlets new.sink new.keys) (Err reason))
      → Takes gains cuts is_open failed old new (i + 1) (End (i + 1)) (Err reason)
  unended stop.Memory own state_is ends = (
    state_is,
    λ start events h.
        let k = here start events h in
        let all = ends (text_of events (i + 1)) k.1.given (h.rows i) k.1.holds in
        (some_ended start events h ⊥ all.0, all.1),
  )
  unended stop.Write own state_is ends = (
    state_is,
    λ start events h.
        let k = here start events h in
        let all = ends (text_of events (i + 1)) k.1.given (h.rows i) k.1.holds in
        (some_ended start events h (is_open old.sink ≡ true) all.0, all.1, all.2),
  )
  unended (stop.Rows table row reason) own state_is ends = (
    state_is,
    own,
    λ start events h.
        let k = here start events h in
        let all = ends (text_of events (i + 1)) k.1.given (h.rows i) k.1.holds in
        (front_ended start events h (λ bytes ended p columns given. IsStopped p bytes ended given row reason) all.0, all.1),
  )
  unended (stop.Table table row reason) own state_is ends = (
    state_is,
    own,
    λ start events h.
        let k = here start events h in
        let all = ends (text_of events (i + 1)) k.1.given (h.rows i) k.1.holds in
        let front : GivesFront gains plan old.mode (ended_text start events h) true k.1.given (h.rows i) old.sink new.sink
        (λ columns rows. IsRefusedHere plan columns (ended_text start events h) true rows row reason) =
        record {
          raws = all.0.raws;
          more = all.0.more;
          columns = all.0.columns;
          faults = all.0.faults;
          table = all.0.table;
          why = inr (refl, all.0.why);
          took = all.0.took;
        } in
        (front_ended start events h (λ bytes ended p columns given. IsRefusedHere p columns bytes ended given row reason) front, all.1),
  )
  unended other own state_is ends = absurd own

  -- the same by the number of the table
  pub fed_at : (n : ℕ) → i + 1 ≡ n → (piece : List ℕ) → new.state ≡ state.Open
      → ((bytes : List ℕ) (given : List Given) (rows : List Row) → TableHolds plan old.mode t bytes false given rows
      → TableOutcome gains cuts is_open failed plan old.mode (bytes ++ piece) false given rows t u (outlets old.sink old.keys) (outlets new.sink new.keys)
      (Ok tt))
      → (start : S) (events : List Event) → Stands gains is_open failed start events old → Stands gains is_open failed start (events ++ Feed n piece ∷ []) new
  fed_at n e piece state_is feeds start events h =
      subst (λ m. Stands gains is_open failed start (events ++ Feed m piece ∷ []) new) e (fed piece state_is feeds start events h)

  pub ended_at : (n : ℕ) → i + 1 ≡ n → new.state ≡ state.Open
      → ((bytes : List ℕ) (given : List Given) (rows : List Row) → TableHolds plan old.mode t bytes false given rows
      → EndOutcome gains cuts is_open failed plan old.mode bytes given rows t u (outlets old.sink old.keys) (outlets new.sink new.keys) (Ok tt))
      → (start : S) (events : List Event) → Stands gains is_open failed start events old → Stands gains is_open failed start (events ++ End n ∷ []) new
  ended_at n e state_is ends start events h = subst (λ m. Stands gains is_open failed start (events ++ End m ∷ []) new) e (ended state_is ends start events h)

  pub unfed_at : (n : ℕ) → i + 1 ≡ n → (piece : List ℕ) (reason : Stop) → IsOf n reason → new.state ≡ state.Failed
      → ((bytes : List ℕ) (given : List Given) (rows : List Row) → TableHolds plan old.mode t bytes false given rows
      → TableOutcome gains cuts is_open failed plan old.mode (bytes ++ piece) false given rows t u (outlets old.sink old.keys) (outlets new.sink new.keys)
      (Err reason))
      → Takes gains cuts is_open failed old new n (Feed n piece) (Err reason)
  unfed_at n e piece reason own state_is feeds =
      subst (λ m. Takes gains cuts is_open failed old new m (Feed m piece) (Err reason)) e
      (unfed piece reason (subst (λ m. IsOf m reason) (sym e) own) state_is feeds)

  pub unended_at : (n : ℕ) → i + 1 ≡ n → (reason : Stop) → IsOf n reason → new.state ≡ state.Failed
      → ((bytes : List ℕ) (given : List Given) (rows : List Row) → TableHolds plan old.mode t bytes false given rows
      → EndOutcome gains cuts is_open failed plan old.mode bytes given rows t u (outlets old.sink old.keys) (outlets new.sink new.keys) (Err reason))
      → Takes gains cuts is_open failed old new n (End n) (Err reason)
  unended_at n e reason own state_is ends =
      subst (λ m. Takes gains cuts is_open failed old new m (End m) (Err reason)) e
      (unended reason (subst (λ m. IsOf m reason) (sym e) own) state_is ends)
