-- A reader whose fields were filled anew.
use Rattle.std.proofs.Common.{◌≡◌, ◌∙◌, ℕ, ◌<◌, ◌≤◌, length, Result, Ok, Err, refl, sym, ap, subst, arith, length-drop}
use Rattle.csvw_rows.specs.declared.rows.Rows.{Rows}
use Rattle.csvw_records.specs.declared.stop.RowStop.{RowStop}
use Rattle.csvw_rows.specs.declared.next.Turn.{Turn}
use Rattle.csvw_rows.specs.declared.next.Turn.TheVariants as turn
use Rattle.csvw_rows.specs.NextRows.{Waits, StopGives}
use Rattle.csvw_rows.proofs.States.{is_done, is_reading, is_stopped}
use Rattle.csvw_rows.specs.SourceState.{rest_of, Decodes}
use Rattle.csvw_rows.specs.RowsState.{HasRead, Stays, Turns, Refills, after_of, unread, Passes}
use Rattle.csvw_records.specs.RecordLaws.{RecordLaws}

pub refills_stay : (s t : Rows) → Refills s t → Stays s t
refills_stay s t r d max bytes ended given h = record {
  dialect = ap (λ x. x.dialect) r.rules ∙ h.dialect;
  max_is = r.max_rows ∙ h.max_is;
  ended_is = r.ended ∙ h.ended_is;
  no_stop = r.stop ∙ h.no_stop;
  decodes = subst (λ x. Decodes x bytes) (sym r.source) h.decodes;
  rows = h.rows;
  read = subst (λ x. HasRead d max bytes ended (rest_of x) h.rows) (sym r.source) h.read;
  row_is = r.row ∙ h.row_is;
  remained_is = r.remained ∙ h.remained_is;
  given_is = h.given_is;
}

refills_unread : (s t : Rows) → Refills s t → unread t ≡ unread s
refills_unread s t r = ap (λ x. length (rest_of x)) r.source

-- a turn from there is one from where it was
pub turns_from : (s t u : Rows) (x : Result Turn RowStop) → Refills s t → Turns t u x → Turns s u x
turns_from s t u (Ok turn.Given) r (ended, less, gives) = (
  ended ∙ r.ended,
  (let e = refills_unread s t r in omega (arith, less, e)),
  (λ d max bytes ended given h. gives d max bytes ended given (refills_stay s t r d max bytes ended given h)),
)
turns_from s t u (Ok turn.Passed) r (ended, less, stays) = (
  ended ∙ r.ended,
  (let e = refills_unread s t r in omega (arith, less, e)),
  (λ d max bytes ended given h. stays d max bytes ended given (refills_stay s t r d max bytes ended given h)),
)
turns_from s t u (Ok turn.Waits) r (ended, stays, done, reading) = (
  ended ∙ r.ended,
  (λ d max bytes ended given h. stays d max bytes ended given (refills_stay s t r d max bytes ended given h)),
  (λ d max bytes ended given h. done d max bytes ended given (refills_stay s t r d max bytes ended given h)),
  (λ d max bytes ended given h. reading d max bytes ended given (refills_stay s t r d max bytes ended given h)),
)
turns_from s t u (Err e) r (ended, stopped) =
    (ended ∙ r.ended, (λ n d max bytes ended given h. stopped n d max bytes ended given (refills_stay s t r d max bytes ended given h)))

-- a row that is taken leaves less
pub less_unread : (s t : Rows) (len : ℕ) → Passes s t len → 0 < len → len ≤ length (rest_of s.source) → unread t < unread s
less_unread s t len p some within = let e = ap length p.rest in omega (arith, e, some, within, length-drop len (rest_of s.source))

pub refills_again : (s t u : Rows) → Refills s t → Refills t u → Refills s u
refills_again s t u r q = record {
  rules = q.rules ∙ r.rules;
  max_rows = q.max_rows ∙ r.max_rows;
  ended = q.ended ∙ r.ended;
  stop = q.stop ∙ r.stop;
  source = q.source ∙ r.source;
  row = q.row ∙ r.row;
  remained = q.remained ∙ r.remained;
}

module _ (laws : RecordLaws) where
  -- no row is complete where it was
  pub waits_turns : (s t : Rows) → Refills s t → Waits (after_of t) t.rules.dialect t.max_rows t.row (rest_of t.source) → Turns s t (Ok turn.Waits)
  waits_turns s t r g = turns_from s t t (Ok turn.Waits) r (refl, (λ d max bytes ended given h. h), is_done laws t g, is_reading laws t g)

  -- a stop stands where it was
  pub stop_turns : (s t : Rows) (stop : RowStop) → Refills s t → StopGives (after_of t) t.rules.dialect t.max_rows t.row (rest_of t.source) stop
      → Turns s t (Err stop)
  stop_turns s t stop r g = turns_from s t t (Err stop) r (refl, is_stopped laws t stop g)
