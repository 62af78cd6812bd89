-- The texts that a session took have no stop, and their rows are tables. For each table its state says so.
use Rattle.std.proofs.Common.{◌≡◌, ◌⊎◌, ◌+◌, ℕ, zero, suc, Bool, true, false, List, [], ◌∷◌, refl, sym, subst, arith, inl, inr, length, Some}
use Rattle.std.specs.Prelude.{slice_get}
use Rattle.std.specs.Str.Lossy.{utf8_valid_len}
use Rattle.std.proofs.lemmas.Bool.Decides.{nat_tests}
use Rattle.std.proofs.lemmas.Str.{IsUtf8-nil, utf8_valid_len-IsUtf8}
use Rattle.csvw_records.specs.Lawful.{IsLawful}
use Rattle.csvw_records.specs.declared.dialect.Dialect.{Dialect}
use Rattle.csvw_records.specs.Files.{File}
use Rattle.csvw_records.specs.ListLaws.{FilesHaveNoStop}
use Rattle.csvw_records.specs.RowValue.{Given}
use Rattle.csvw_rows.specs.GivenLaws.{NothingGiven}
use Rattle.csvw_rows.specs.RowsState.{NoStop}
use Rattle.csvw_columns.specs.Ready.{AreReady}
use Rattle.csvw_columns.specs.declared.plan.TablePlan.{TablePlan}
use Rattle.csvw_annotate.specs.declared.row.Row.{Row}
use Rattle.csvw_triples_core.specs.declared.mode.Mode.{Mode}
use Rattle.csvw_triples_core.specs.declared.term.Triple.{Triple}
use Rattle.csvw_engine_core.specs.Tables.{IsAtRest, max_rows}
use Rattle.csvw_engine_core.specs.declared.table.Table.{Table as State}
use Rattle.csvw_session.specs.Events.{Event, text_of, ended_in}
use Rattle.csvw_session.specs.Sessions.{Stands, Told}
use Rattle.csvw_session.specs.declared.session.Session.{Session}
use Rattle.csvw_group_laws.specs.Taken.{AreTaken, IsTaken}
use Rattle.csvw_group_laws.proofs.Parts.{all_given, at_place, no_content}

-- no bytes are a file without rows
no_rows : (d : Dialect) (max : ℕ) → File d max [] []
no_rows d max = record {
  is_utf8 = let all : utf8_valid_len [] ≡ length {A = ℕ} [] = utf8_valid_len-IsUtf8 [] IsUtf8-nil in grind (arith, nat_tests);
  are_rows = inl no_content;
  limits = (omega arith, λ k row below. absurd (omega (arith, below)));
}

none_stops : FilesHaveNoStop → (plan : TablePlan) → IsLawful plan.dialect → (text : List ℕ) (given : List Given)
    → (text ≡ []) ⊎ IsAtRest plan text false given → NoStop plan.dialect max_rows text false
none_stops law plan lawful text given (inr rest) = rest.no_stop
none_stops law plan lawful text given (inl e) =
    subst (λ bytes. NoStop plan.dialect max_rows bytes false) (sym e)
    (λ stop row stops. law plan.dialect max_rows [] [] false [] stop row lawful (λ _. refl) (no_rows plan.dialect max_rows) stops)

taken_so : NothingGiven → FilesHaveNoStop → (plan : TablePlan) → IsLawful plan.dialect → (m : Mode) (t : State) (text : List ℕ) (ended : Bool)
    (rows : List Row) → Told plan m t text ended rows → IsTaken plan text ended
taken_so law files plan lawful m t text false rows h =
    let open_table = h.stands in record {
      given = open_table.given;
      all = all_given law plan m t text open_table.given rows open_table.holds open_table.at_rest;
      no_stop = none_stops files plan lawful text open_table.given open_table.at_rest;
      table = (t.head.columns, t.head.faults, rows, record { head = open_table.holds.head.known; has = open_table.holds.has });
    }
taken_so law files plan lawful m t text true rows h =
    let whole = h.stands in record {
      given = whole.given;
      all = whole.at_rest.all;
      no_stop = whole.at_rest.no_stop;
      table = (whole.columns, t.head.faults, rows, whole.table);
    }

lawful_at : (plans : List TablePlan) (i : ℕ) (plan : TablePlan) → AreReady plans → slice_get plans i ≡ Some plan → IsLawful plan.dialect
lawful_at [] i plan ready e = cc
lawful_at (p ∷ plans) zero plan ready e = let same : p ≡ plan = cc in subst (λ (z : TablePlan). IsLawful z.dialect) same ready.0.dialect
lawful_at (p ∷ plans) (suc i) plan ready e = lawful_at plans i plan ready.1 e

pub are_taken : {S : Type 0} (gains : S → List Triple → S → Type 0) (is_open : S → Bool) (failed : S → ℕ) → NothingGiven → FilesHaveNoStop
    → (start : S) (events : List Event) (s : Session S) → Stands gains is_open failed start events s → AreTaken s.plan.tables events
are_taken gains is_open failed law files start events s h i plan e =
    let at = at_place s.plan.tables s.tables.items i plan s.many e in
    taken_so law files plan (lawful_at s.plan.tables i plan s.ready e) s.mode at.0 (text_of events (i + 1)) (ended_in events (i + 1)) (h.rows i)
    (h.tables i plan at.0 (e, at.1))
