-- The result of sending several texts to one stream.
use Rattle.std.proofs.Common.{◌≡◌, ◌≤◌, ◌+◌, ◌-◌, ℕ, List, [], ◌++◌, Option, refl, sym, ap, ◌∙◌, subst, append_assoc, arith, flat_map, length, take}
use Rattle.std.proofs.Common.{drop, take-append-drop}
use Rattle.std.proofs.Math.Seq.{take-add}
use Rattle.std.proofs.lemmas.Grind.{flat_map-append}
use Rattle.std.proofs.lemmas.List.{take_all}
use Rattle.std.proofs.KnownBytes.{Appends-nil, Appends-trans}
use Rattle.csvw_streams.specs.declared.counted.Counted.{Counted}
use Rattle.csvw_streams.specs.Count.{one_more}
use Rattle.csvw_streams.specs.Streams.{Stream, stream_of, Sends, IsCut}
use Rattle.csvw_fault.specs.declared.fault.Fault.{Fault}
use Rattle.csvw_report.specs.Report.{heading, line, report}
use Rattle.csvw_report.specs.declared.stop.ReportStop.{ReportStop}
use Rattle.csvw_report.specs.declared.stop.ReportStop.TheVariants.{Memory, Write}
use Rattle.csvw_report.specs.Stops.{SendsFront, StopsAt}

-- nothing was sent
pub none_sent : {W : Type 0} (contents : W → Option (List ℕ)) (w : Counted W) (text : List ℕ) → SendsFront (stream_of contents w w) text
none_sent contents w text = record { front = []; rest = text; parts = refl; sent = (Appends-nil _, refl) }

module _ {W : Type 0} (contents : W → Option (List ℕ)) (a b c : Counted W) (front text : List ℕ) where
  pub sends_more : Sends (stream_of contents a b) front → Sends (stream_of contents b c) text → Sends (stream_of contents a c) (front ++ text)
  sends_more p q = (Appends-trans _ _ _ front text p.0 q.0, q.1 ∙ p.1)

  front_more : Sends (stream_of contents a b) front → SendsFront (stream_of contents b c) text → SendsFront (stream_of contents a c) (front ++ text)
  front_more p q = record {
    front = front ++ q.front;
    rest = q.rest;
    parts = ap (λ t. front ++ t) q.parts ∙ sym (append_assoc front q.front q.rest);
    sent = (Appends-trans _ _ _ front q.front p.0 q.sent.0, q.sent.1 ∙ p.1);
  }

  cut_more : Sends (stream_of contents a b) front → IsCut (stream_of contents b c) text → IsCut (stream_of contents a c) (front ++ text)
  cut_more p q = record {
    front = front ++ q.front;
    rest = q.rest;
    parts = ap (λ t. front ++ t) q.parts ∙ sym (append_assoc front q.front q.rest);
    appended = Appends-trans _ _ _ front q.front p.0 q.appended;
    failed = q.failed ∙ ap one_more p.1;
  }

  pub stops_more : (stop : ReportStop) → Sends (stream_of contents a b) front → StopsAt (stream_of contents b c) text stop
      → StopsAt (stream_of contents a c) (front ++ text) stop
  stops_more Memory p q = front_more p q
  stops_more Write p q = cut_more p q

-- a stop in the front of a text is one in the text
pub stops_longer : (s : Stream) (text more whole : List ℕ) (stop : ReportStop) → whole ≡ text ++ more → StopsAt s text stop → StopsAt s whole stop
stops_longer s text more whole Memory is q = record {
  front = q.front;
  rest = q.rest ++ more;
  parts = is ∙ ap (λ t. t ++ more) q.parts ∙ append_assoc q.front q.rest more;
  sent = q.sent;
}
stops_longer s text more whole Write is q = record {
  front = q.front;
  rest = q.rest ++ more;
  parts = is ∙ ap (λ t. t ++ more) q.parts ∙ append_assoc q.front q.rest more;
  appended = q.appended;
  failed = q.failed;
}

-- the report as far as the first faults
abbrev pub so_far : List Fault → ℕ → List ℕ
so_far faults n = heading ++ flat_map line (take n faults)

back : (n m : ℕ) → n ≤ m → n + (m - n) ≡ m
back n m h = omega arith

-- the faults in front of one place and those from there to another
faults_between : (faults : List Fault) (n m : ℕ) → n ≤ m → take n faults ++ take (m - n) (drop n faults) ≡ take m faults
faults_between faults n m h = sym (take-add n (m - n) faults) ∙ ap (λ k. take k faults) (back n m h)

-- the lines of the latter
abbrev pub lines_from : List Fault → ℕ → ℕ → List ℕ
lines_from faults n m = flat_map line (take (m - n) (drop n faults))

lines_between : (faults : List Fault) (n m : ℕ) → n ≤ m → so_far faults n ++ lines_from faults n m ≡ so_far faults m
lines_between faults n m h =
    append_assoc heading (flat_map line (take n faults)) _
    ∙ ap (λ t. heading ++ t) (sym (flat_map-append line (take n faults) _) ∙ ap (flat_map line) (faults_between faults n m h))

-- the report has them in front
report_front : (faults : List Fault) (m : ℕ) → report faults ≡ so_far faults m ++ flat_map line (drop m faults)
report_front faults m =
    ap report (sym (take-append-drop m faults))
    ∙ ap (λ t. heading ++ t) (flat_map-append line (take m faults) (drop m faults))
    ∙ sym (append_assoc heading (flat_map line (take m faults)) (flat_map line (drop m faults)))

module _ {W : Type 0} (contents : W → Option (List ℕ)) (a b c : Counted W) (faults : List Fault) (n m : ℕ) (h : n ≤ m) where
  -- a sending that stops behind lines that were sent
  pub stops_between : (stop : ReportStop) → Sends (stream_of contents a b) (so_far faults n)
      → StopsAt (stream_of contents b c) (lines_from faults n m) stop → StopsAt (stream_of contents a c) (report faults) stop
  stops_between stop p q =
      let is = report_front faults m ∙ ap (λ t. t ++ flat_map line (drop m faults)) (sym (lines_between faults n m h)) in
      stops_longer _ _ (flat_map line (drop m faults)) (report faults) stop is (stops_more contents a b c _ _ stop p q)

  -- and one that ends
  pub sends_between : Sends (stream_of contents a b) (so_far faults n) → Sends (stream_of contents b c) (lines_from faults n m)
      → Sends (stream_of contents a c) (so_far faults m)
  sends_between p q = subst (Sends (stream_of contents a c)) (lines_between faults n m h) (sends_more contents a b c _ _ p q)

-- the lines of all faults were sent
pub all_sent : (s : Stream) (faults : List Fault) (n : ℕ) → length faults ≤ n → Sends s (so_far faults n) → Sends s (report faults)
all_sent s faults n h p = subst (λ fs. Sends s (report fs)) (take_all n faults h) p
