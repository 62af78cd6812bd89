-- A feed after some bytes more, and where it stops.
use Rattle.std.proofs.Common.{◌≡◌, ℕ, List, ◌++◌, flat_map, length, sym, ap, ◌∙◌, subst, append_assoc}
use Rattle.std.proofs.Common.{Option}
use Rattle.csvw_report.specs.Report.{line}
use Rattle.csvw_streams.specs.declared.counted.Counted.{Counted}
use Rattle.csvw_streams.specs.Streams.{Stream, Sends}
use Rattle.csvw_key_records.specs.declared.feed.KeyFeed.{KeyFeed}
use Rattle.csvw_key_records.specs.declared.record.KeyRecord.{KeyRecord}
use Rattle.csvw_key_records.specs.declared.run.KeyRun.{KeyRun}
use Rattle.csvw_key_records.specs.declared.stop.KeyStop.{KeyStop}
use Rattle.csvw_key_records.specs.declared.stop.KeyStop.TheVariants as stop
use Rattle.csvw_key_records.specs.declared.stop.LineFault.{LineFault}
use Rattle.csvw_key_records.specs.Runs.{Fed, Feeds, Halts, HasNoEnd, IsAfter, IsWrong, Runs, SentBefore, StopsFeed, TakesLines, counted, next, since}
use Rattle.csvw_key_records.proofs.Running.{judged, next_is}

-- a run stops with this rest
pub rests : (run : KeyRun) (front rest : List ℕ) (s : Stream) (reason : KeyStop) → Runs run front s
    → ((t : List ℕ) → Sends s t → SentBefore reason s t) → ((n : ℕ) → run.lines ≡ counted n → IsAfter n reason)
    → ((records : List KeyRecord) → IsWrong records rest reason) → Halts (front ++ rest) s reason
rests run front rest s reason runs sent after wrong = record {
  records = runs.records;
  faults = runs.faults;
  rest = rest;
  judged = judged run runs.records runs.faults runs.took;
  is_text = ap (λ t. t ++ rest) runs.is_text;
  sent = sent (flat_map line runs.faults) runs.sends;
  after = after (length runs.records) runs.took.lines;
  wrong = wrong runs.records;
}

pub rests_wrong : (run : KeyRun) (front rest : List ℕ) (s : Stream) (fault : LineFault) → Runs run front s
    → ((records : List KeyRecord) → IsWrong records rest (stop.Line (next run.lines) fault)) → Halts (front ++ rest) s (stop.Line (next run.lines) fault)
rests_wrong run front rest s fault runs wrong =
    rests run front rest s (stop.Line (next run.lines) fault) runs (λ t sent. sent) (λ n lines. ap next lines ∙ next_is n) wrong

module _ {W : Type 0} (contents : W → Option (List ℕ)) (old : KeyFeed) (run : KeyRun) (out_old out_new : Counted W) (piece given rest : List ℕ)
    (is : given ≡ old.unread.items ++ piece) (takes : TakesLines contents old.run run out_old out_new given rest) where
  module _ (text : List ℕ) (held : Option (List ℕ)) (failures : ℕ) (fed : Fed old text (since contents held failures out_old)) where
    pub fed_runs : Runs run (fed.front ++ takes.front) (since contents held failures out_new)
    fed_runs = takes.goes_on fed.front held failures fed.runs

    pub fed_text : text ++ piece ≡ (fed.front ++ takes.front) ++ rest
    fed_text =
        ap (λ t. t ++ piece) fed.is_text ∙ (append_assoc fed.front old.unread.items piece
        ∙ (ap (λ t. fed.front ++ t) (sym is ∙ takes.parts) ∙ sym (append_assoc fed.front takes.front rest)))

  pub feeds : (new : KeyFeed) → new.run ≡ run → new.unread.items ≡ rest → HasNoEnd rest → Feeds contents old new out_old out_new piece
  feeds new run_is rest_is none text held failures fed = record {
    front = fed.front ++ takes.front;
    runs = subst (λ r. Runs r (fed.front ++ takes.front) (since contents held failures out_new)) (sym run_is) (fed_runs text held failures fed);
    is_text = fed_text text held failures fed ∙ ap (λ t. (fed.front ++ takes.front) ++ t) (sym rest_is);
    no_end = subst HasNoEnd (sym rest_is) none;
  }

  pub feed_wrong : (fault : LineFault) → ((records : List KeyRecord) → IsWrong records rest (stop.Line (next run.lines) fault)) → StopsFeed contents old out_old out_new piece (stop.Line (next run.lines) fault)
  feed_wrong fault wrong text held failures fed =
      let s = since contents held failures out_new in
      subst (λ t. Halts t s (stop.Line (next run.lines) fault)) (sym (fed_text text held failures fed))
      (rests_wrong run (fed.front ++ takes.front) rest s fault (fed_runs text held failures fed) wrong)

  pub feed_full : StopsFeed contents old out_old out_new piece stop.Memory
  feed_full text held failures fed =
      let s = since contents held failures out_new in
      subst (λ t. Halts t s stop.Memory) (sym (fed_text text held failures fed))
      (rests run (fed.front ++ takes.front) rest s stop.Memory (fed_runs text held failures fed) (λ t sent. sent) (λ n lines. tt) (λ records. tt))
