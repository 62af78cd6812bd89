-- A run after one line more, and where it stops.
use Rattle.std.proofs.Common.{◌≡◌, ℕ, suc, ◌+◌, ◌==◌, List, [], ◌∷◌, ◌++◌, flat_map, take, length, refl, sym, ap, ap₂, ◌∙◌, subst, append_assoc, append-nil, length-append, arith}
use Rattle.std.proofs.Common.{Option, None, Some, Result, Ok, Err, OnOk, IfOk, IfErr}
use Rattle.std.specs.Option.{option_to_list}
use Rattle.std.proofs.lemmas.Bool.Decides.{nat_tests}
use Rattle.std.proofs.lemmas.List.{take_at}
use Rattle.std.proofs.lemmas.List.Concat.{flat_map-append}
use Rattle.csvw_fault.specs.declared.fault.Fault.{Fault}
use Rattle.csvw_report.specs.Report.{line}
use Rattle.csvw_streams.specs.declared.counted.Counted.{Counted}
use Rattle.csvw_streams.specs.Counted.{inner_of, failures_of}
use Rattle.csvw_streams.specs.Streams.{Stream, IsCut, Sends, stream_of}
use Rattle.csvw_key_records.specs.declared.judge.Disorder.{Disorder}
use Rattle.csvw_key_records.specs.declared.judge.Disorder.TheVariants as why
use Rattle.csvw_key_records.specs.declared.record.KeyRecord.{KeyRecord}
use Rattle.csvw_key_records.specs.declared.run.KeyRun.{KeyRun}
use Rattle.csvw_key_records.specs.declared.stop.KeyStop.{KeyStop}
use Rattle.csvw_key_records.specs.declared.stop.KeyStop.TheVariants as stop
use Rattle.csvw_key_records.specs.declared.stop.LineFault.TheVariants as fault
use Rattle.csvw_key_records.specs.Judging.{Holds, IsDisorder}
use Rattle.csvw_key_records.specs.Records.{Fits, line_of}
use Rattle.csvw_key_records.specs.Runs.{AreJudged, GoesOn, Halts, HasDisorder, HasNoEnd, IsAfter, IsLine, IsOfLine, IsOwn, IsWrong, Runs, SentBefore, StopsIn, TakesLines, Took, counted, next, since, stop_by, valid_after}
use Rattle.csvw_key_records.proofs.Sending.{cut_second, sends_both}

pub on_ok : {X E : Type 0} (r : Result X E) (P Q : Type 0) → (P → Q) → OnOk r P → OnOk r Q
on_ok (Ok x) P Q f p = f p
on_ok (Err e) P Q f p = tt

pub if_err : {X E : Type 0} (r : Result X E) (P Q : E → Type 0) → ((e : E) → P e → Q e) → IfErr r P → IfErr r Q
if_err (Ok x) P Q f p = tt
if_err (Err e) P Q f p = f e p

pub next_is : (n : ℕ) → next (counted n) ≡ counted (suc n)
next_is n = omega arith

pub lines_more : (records : List KeyRecord) (r : KeyRecord) → flat_map line_of (records ++ r ∷ []) ≡ flat_map line_of records ++ line_of r
lines_more records r = flat_map-append line_of records (r ∷ []) ∙ ap (λ t. flat_map line_of records ++ t) (append-nil (line_of r))

pub judged : (run : KeyRun) (records : List KeyRecord) (faults : List Fault) → Took run records faults → AreJudged records faults
judged run records faults took = record { fit = took.holds.fit; sorted = took.holds.sorted; found = took.holds.found }

took_more : (old new : KeyRun) (records : List KeyRecord) (faults : List Fault) (r : KeyRecord) (fault : Option Fault) → Took old records faults
    → Holds new.judge (records ++ r ∷ []) (faults ++ option_to_list fault) → new.lines ≡ next old.lines → new.valid ≡ valid_after old.valid fault
    → Took new (records ++ r ∷ []) (faults ++ option_to_list fault)
took_more old new records faults r fault took holds lines valid = record {
  holds = holds;
  lines = lines ∙ (ap next took.lines ∙ (next_is (length records) ∙ ap counted (sym (length-append records (r ∷ []) ∙ omega arith))));
  valid = valid ∙ (ap (λ b. valid_after b fault) took.valid ∙ of fault);
}
  where
    of : (f : Option Fault) → valid_after (length faults == 0) f ≡ (length (faults ++ option_to_list f) == 0)
    of None = ap (λ fs. length fs == 0) (sym (append-nil faults))
    of (Some f) = let long = length-append faults (f ∷ []) in grind (arith, nat_tests)

module _ {W : Type 0} (contents : W → Option (List ℕ)) (old new : KeyRun) (out_old out_new : Counted W) (piece : List ℕ) (r : KeyRecord) (fault : Option Fault)
    (is : piece ≡ line_of r) (holds : (records : List KeyRecord) (faults : List Fault) → Holds old.judge records faults
    → Holds new.judge (records ++ r ∷ []) (faults ++ option_to_list fault)) (lines : new.lines ≡ next old.lines) (valid : new.valid ≡ valid_after old.valid fault) where
  whole : (text : List ℕ) (records : List KeyRecord) → text ≡ flat_map line_of records → text ++ piece ≡ flat_map line_of (records ++ r ∷ [])
  whole text records is_text = ap₂ (λ a b. a ++ b) is_text is ∙ sym (lines_more records r)

  pub goes_on : Sends (stream_of contents out_old out_new) (flat_map line (option_to_list fault)) → GoesOn contents old new out_old out_new piece
  goes_on sent text held failures runs = record {
    records = runs.records ++ r ∷ [];
    faults = runs.faults ++ option_to_list fault;
    took = took_more old new runs.records runs.faults r fault runs.took (holds runs.records runs.faults runs.took.holds) lines valid;
    is_text = whole text runs.records runs.is_text;
    sends = subst (Sends (since contents held failures out_new)) (sym (flat_map-append line runs.faults (option_to_list fault)))
        (sends_both held (contents (inner_of out_old)) (contents (inner_of out_new)) failures (failures_of out_old) (failures_of out_new)
        (flat_map line runs.faults) (flat_map line (option_to_list fault)) runs.sends sent);
  }

  pub halts_cut : (reason : KeyStop) → reason ≡ stop.Write → IsCut (stream_of contents out_old out_new) (flat_map line (option_to_list fault))
      → StopsIn contents old out_old out_new piece reason
  halts_cut reason write cut text held failures runs =
      let took = took_more old new runs.records runs.faults r fault runs.took (holds runs.records runs.faults runs.took.holds) lines valid in
      subst (Halts (text ++ piece) (since contents held failures out_new)) (sym write) record {
        records = runs.records ++ r ∷ [];
        faults = runs.faults ++ option_to_list fault;
        rest = [];
        judged = judged new (runs.records ++ r ∷ []) (runs.faults ++ option_to_list fault) took;
        is_text = whole text runs.records runs.is_text ∙ sym (append-nil (flat_map line_of (runs.records ++ r ∷ [])));
        sent = subst (IsCut (since contents held failures out_new)) (sym (flat_map-append line runs.faults (option_to_list fault)))
            (cut_second held (contents (inner_of out_old)) (contents (inner_of out_new)) failures (failures_of out_old) (failures_of out_new)
            (flat_map line runs.faults) (flat_map line (option_to_list fault)) runs.sends cut);
        after = tt;
        wrong = tt;
      }

-- the run stops before a text
pub halts_here : {W : Type 0} (contents : W → Option (List ℕ)) (old : KeyRun) (out : Counted W) (piece : List ℕ) (reason : KeyStop)
    → ((s : Stream) (t : List ℕ) → Sends s t → SentBefore reason s t) → ((n : ℕ) → old.lines ≡ counted n → IsAfter n reason)
    → ((records : List KeyRecord) (faults : List Fault) → Took old records faults → IsWrong records piece reason) → StopsIn contents old out out piece reason
halts_here contents old out piece reason sent after wrong text held failures runs = record {
  records = runs.records;
  faults = runs.faults;
  rest = piece;
  judged = judged old runs.records runs.faults runs.took;
  is_text = ap (λ t. t ++ piece) runs.is_text;
  sent = sent (since contents held failures out) (flat_map line runs.faults) runs.sends;
  after = after (length runs.records) runs.took.lines;
  wrong = wrong runs.records runs.faults runs.took;
}

number : (old : KeyRun) (n : ℕ) → old.lines ≡ counted n → next old.lines ≡ counted (suc n)
number old n lines = ap next lines ∙ next_is n

-- a line that can't follow those before it
pub halts_at : {W : Type 0} (contents : W → Option (List ℕ)) (old : KeyRun) (out : Counted W) (piece : List ℕ) (d : Disorder) (r : KeyRecord) → Fits r
    → piece ≡ line_of r → ((records : List KeyRecord) (faults : List Fault) → Holds old.judge records faults → IsDisorder records r d)
    → StopsIn contents old out out piece (stop_by old.lines d)
halts_at contents old out piece d r fits is fails =
    halts_here contents old out piece (stop_by old.lines d) (sent d) (after d) (λ records faults took. wrong d records (fails records faults took.holds))
  where
    has : (d : Disorder) (records : List KeyRecord) → IsDisorder records r d → HasDisorder records piece d
    has d records disorder = record { next = r; after = []; fits = fits; begins = is ∙ sym (append-nil (line_of r)); fails = disorder }

    sent : (d : Disorder) (s : Stream) (t : List ℕ) → Sends s t → SentBefore (stop_by old.lines d) s t
    sent why.Memory s t sends = sends
    sent why.Order s t sends = sends
    sent why.Twice s t sends = sends
    sent why.Row s t sends = sends

    after : (d : Disorder) (n : ℕ) → old.lines ≡ counted n → IsAfter n (stop_by old.lines d)
    after why.Memory n lines = tt
    after why.Order n lines = number old n lines
    after why.Twice n lines = number old n lines
    after why.Row n lines = number old n lines

    wrong : (d : Disorder) (records : List KeyRecord) → IsDisorder records r d → IsWrong records piece (stop_by old.lines d)
    wrong why.Memory records disorder = tt
    wrong why.Order records disorder = has why.Order records disorder
    wrong why.Twice records disorder = has why.Twice records disorder
    wrong why.Row records disorder = has why.Row records disorder

-- a line that is that of no record
pub halts_no_record : {W : Type 0} (contents : W → Option (List ℕ)) (old : KeyRun) (out : Counted W) (piece : List ℕ) → IsLine piece
    → ((r : KeyRecord) → Fits r → piece ≡ line_of r → ⊥) → StopsIn contents old out out piece (stop.Line (next old.lines) fault.NoRecord)
halts_no_record contents old out piece is_line none =
    halts_here contents old out piece (stop.Line (next old.lines) fault.NoRecord) (λ s t sends. sends) (number old)
    (λ records faults took. record { first = piece; after = []; begins = sym (append-nil piece); is_line = is_line; none = none })

more_disorder : (records : List KeyRecord) (rest u : List ℕ) (d : Disorder) → HasDisorder records rest d → HasDisorder records (rest ++ u) d
more_disorder records rest u d is = record {
  next = is.next;
  after = is.after ++ u;
  fits = is.fits;
  begins = ap (λ x. x ++ u) is.begins ∙ append_assoc (line_of is.next) is.after u;
  fails = is.fails;
}

-- what is wrong with a line is wrong with whatever follows
pub wrong_more : (records : List KeyRecord) (rest u : List ℕ) (reason : KeyStop) → IsOfLine reason → IsWrong records rest reason → IsWrong records (rest ++ u) reason
wrong_more records rest u stop.Memory of_line is = tt
wrong_more records rest u stop.Read of_line is = tt
wrong_more records rest u stop.Write of_line is = tt
wrong_more records rest u (stop.Line n fault.NoRecord) of_line is = record {
  first = is.first;
  after = is.after ++ u;
  begins = ap (λ x. x ++ u) is.begins ∙ append_assoc is.first is.after u;
  is_line = is.is_line;
  none = is.none;
}
wrong_more records rest u (stop.Line n fault.Cut) of_line is = absurd of_line
wrong_more records rest u (stop.Line n fault.TooLong) of_line is = absurd of_line
wrong_more records rest u (stop.Line n fault.Order) of_line is = more_disorder records rest u why.Order is
wrong_more records rest u (stop.Line n fault.Twice) of_line is = more_disorder records rest u why.Twice is
wrong_more records rest u (stop.Line n fault.Row) of_line is = more_disorder records rest u why.Row is

pub own_of_line : (reason : KeyStop) → IsOfLine reason → IsOwn reason
own_of_line stop.Memory of_line = tt
own_of_line stop.Read of_line = of_line
own_of_line stop.Write of_line = tt
own_of_line (stop.Line n fault.NoRecord) of_line = tt
own_of_line (stop.Line n fault.Cut) of_line = of_line
own_of_line (stop.Line n fault.TooLong) of_line = tt
own_of_line (stop.Line n fault.Order) of_line = tt
own_of_line (stop.Line n fault.Twice) of_line = tt
own_of_line (stop.Line n fault.Row) of_line = tt

-- a text that stops a run stops it with whatever follows
pub halts_more : (t u : List ℕ) (s : Stream) (reason : KeyStop) → IsOfLine reason → Halts t s reason → Halts (t ++ u) s reason
halts_more t u s reason of_line halts = record {
  records = halts.records;
  faults = halts.faults;
  rest = halts.rest ++ u;
  judged = halts.judged;
  is_text = ap (λ x. x ++ u) halts.is_text ∙ append_assoc (flat_map line_of halts.records) halts.rest u;
  sent = halts.sent;
  after = halts.after;
  wrong = wrong_more halts.records halts.rest u reason of_line halts.wrong;
}

module _ {W : Type 0} (contents : W → Option (List ℕ)) where
  -- no line was taken
  pub takes_none : (run : KeyRun) (out : Counted W) (text : List ℕ) → TakesLines contents run run out out text text
  takes_none run out text = record {
    front = [];
    parts = refl;
    goes_on = λ before held failures runs. subst (λ t. Runs run t (since contents held failures out)) (sym (append-nil before)) runs;
  }

  module _ (old mid : KeyRun) (out_old out_mid : Counted W) (text rest piece after : List ℕ) (done : TakesLines contents old mid out_old out_mid text rest)
      (next_is : rest ≡ piece ++ after) where
    -- one line more
    pub takes_more : (new : KeyRun) (out_new : Counted W) → GoesOn contents mid new out_mid out_new piece → TakesLines contents old new out_old out_new text after
    takes_more new out_new more = record {
      front = done.front ++ piece;
      parts = done.parts ∙ (ap (λ t. done.front ++ t) next_is ∙ sym (append_assoc done.front piece after));
      goes_on = λ before held failures runs.
          subst (λ t. Runs new t (since contents held failures out_new)) (append_assoc before done.front piece)
          (more (before ++ done.front) held failures (done.goes_on before held failures runs));
    }

    -- the run stopped at the line
    pub stops_more : (out_new : Counted W) (reason : KeyStop) → IsOfLine reason → StopsIn contents mid out_mid out_new piece reason → StopsIn contents old out_old out_new text reason
    stops_more out_new reason of_line stops before held failures runs =
        let halts = stops (before ++ done.front) held failures (done.goes_on before held failures runs) in
        let all : before ++ text ≡ ((before ++ done.front) ++ piece) ++ after =
        ap (λ t. before ++ t) (done.parts ∙ ap (λ t. done.front ++ t) next_is)
        ∙ (sym (append_assoc before done.front (piece ++ after)) ∙ sym (append_assoc (before ++ done.front) piece after)) in
        subst (λ t. Halts t (since contents held failures out_new) reason) (sym all)
        (halts_more ((before ++ done.front) ++ piece) after (since contents held failures out_new) reason of_line halts)

-- the text up to the first line feed is a line
pub is_line : (rest body after : List ℕ) → rest ≡ body ++ 10 ∷ after → HasNoEnd body → IsLine (take (length body + 1) rest)
is_line rest body after is none = record {
  body = body;
  is = ap (take (length body + 1)) (is ∙ sym (append_assoc body (10 ∷ []) after))
      ∙ take_at (body ++ 10 ∷ []) after (length body + 1) (length-append body (10 ∷ []));
  no_end = none;
}

-- a line with its end, and what follows it
pub line_parts : (rest body after : List ℕ) → rest ≡ body ++ 10 ∷ after → rest ≡ take (length body + 1) rest ++ after
line_parts rest body after is =
    let whole : rest ≡ (body ++ 10 ∷ []) ++ after = is ∙ sym (append_assoc body (10 ∷ []) after) in
    let cut : take (length body + 1) rest ≡ body ++ 10 ∷ [] =
    ap (take (length body + 1)) whole ∙ take_at (body ++ 10 ∷ []) after (length body + 1) (length-append body (10 ∷ [])) in
    whole ∙ ap (λ t. t ++ after) (sym cut)

pub if_ok : {X E : Type 0} (r : Result X E) (P Q : X → Type 0) → ((x : X) → P x → Q x) → IfOk r P → IfOk r Q
if_ok (Ok x) P Q f p = f x p
if_ok (Err e) P Q f p = tt

pub both_err : {X E : Type 0} (r : Result X E) (O P Q : E → Type 0) → ((e : E) → O e → P e → Q e) → IfErr r O → IfErr r P → IfErr r Q
both_err (Ok x) O P Q f o p = tt
both_err (Err e) O P Q f o p = f e o p
