-- The result of sending several texts to one stream.
use Rattle.std.proofs.Common.{◌≡◌, ◌≤◌, ◌<◌, ◌+◌, ◌-◌, ℕ, List, [], ◌∷◌, ◌++◌, Option, refl, sym, ap, ◌∙◌, subst, append_assoc, arith, flat_map, get_or, length, take}
use Rattle.std.proofs.Common.{drop, take-append-drop}
use Rattle.std.proofs.Math.Seq.{take-add}
use Rattle.std.proofs.lemmas.Grind.{flat_map-append}
use Rattle.std.proofs.lemmas.List.{append-nil, take_all, take_more}
use Rattle.std.proofs.KnownBytes.{Appends-nil, Appends-trans}
use Rattle.csvw_streams.specs.declared.counted.Counted.{Counted}
use Rattle.csvw_streams.specs.Count.{one_more}
use Rattle.csvw_streams.specs.Streams.{Stream, stream_of, Sends, IsCut}
use Rattle.csvw_report.specs.declared.stop.ReportStop.{ReportStop}
use Rattle.csvw_report.specs.declared.stop.ReportStop.TheVariants.{Memory, Write}
use Rattle.csvw_report.specs.Stops.{SendsFront, StopsAt}

-- nothing was sent
pub none_sent : {W : Type 0} (contents : W → Option (List ℕ)) (w : Counted W) (text : List ℕ) → SendsFront (stream_of contents w w) text
none_sent contents w text = record { front = []; rest = text; parts = refl; sent = (Appends-nil _, refl) }

pub empty_sent : {W : Type 0} (contents : W → Option (List ℕ)) (w : Counted W) → Sends (stream_of contents w w) []
empty_sent contents w = (Appends-nil _, refl)

module _ {W : Type 0} (contents : W → Option (List ℕ)) (a b c : Counted W) (front text : List ℕ) where
  pub sends_more : Sends (stream_of contents a b) front → Sends (stream_of contents b c) text → Sends (stream_of contents a c) (front ++ text)
  sends_more p q = (Appends-trans _ _ _ front text p.0 q.0, q.1 ∙ p.1)

  front_more : Sends (stream_of contents a b) front → SendsFront (stream_of contents b c) text → SendsFront (stream_of contents a c) (front ++ text)
  front_more p q = record {
    front = front ++ q.front;
    rest = q.rest;
    parts = ap (λ t. front ++ t) q.parts ∙ sym (append_assoc front q.front q.rest);
    sent = (Appends-trans _ _ _ front q.front p.0 q.sent.0, q.sent.1 ∙ p.1);
  }

  cut_more : Sends (stream_of contents a b) front → IsCut (stream_of contents b c) text → IsCut (stream_of contents a c) (front ++ text)
  cut_more p q = record {
    front = front ++ q.front;
    rest = q.rest;
    parts = ap (λ t. front ++ t) q.parts ∙ sym (append_assoc front q.front q.rest);
    appended = Appends-trans _ _ _ front q.front p.0 q.appended;
    failed = q.failed ∙ ap one_more p.1;
  }

  stops_more : (stop : ReportStop) → Sends (stream_of contents a b) front → StopsAt (stream_of contents b c) text stop
      → StopsAt (stream_of contents a c) (front ++ text) stop
  stops_more Memory p q = front_more p q
  stops_more Write p q = cut_more p q

-- a stop in the front of a text is one in the text
stops_longer : (s : Stream) (text more whole : List ℕ) (stop : ReportStop) → whole ≡ text ++ more → StopsAt s text stop → StopsAt s whole stop
stops_longer s text more whole Memory is q = record {
  front = q.front;
  rest = q.rest ++ more;
  parts = is ∙ ap (λ t. t ++ more) q.parts ∙ append_assoc q.front q.rest more;
  sent = q.sent;
}
stops_longer s text more whole Write is q = record {
  front = q.front;
  rest = q.rest ++ more;
  parts = is ∙ ap (λ t. t ++ more) q.parts ∙ append_assoc q.front q.rest more;
  appended = q.appended;
  failed = q.failed;
}

back : (n m : ℕ) → n ≤ m → n + (m - n) ≡ m
back n m h = omega arith

-- the texts of a list, one after the other
module _ {X : Type 0} (f : X → List ℕ) (xs : List X) where
  abbrev between : ℕ → ℕ → List X
  between n m = take (m - n) (drop n xs)

  joined : (n m : ℕ) → n ≤ m → flat_map f (take n xs) ++ flat_map f (between n m) ≡ flat_map f (take m xs)
  joined n m h =
      sym (flat_map-append f (take n xs) (between n m))
      ∙ ap (flat_map f) (sym (take-add n (m - n) xs) ∙ ap (λ k. take k xs) (back n m h))

  parted : (m : ℕ) → flat_map f xs ≡ flat_map f (take m xs) ++ flat_map f (drop m xs)
  parted m = ap (flat_map f) (sym (take-append-drop m xs)) ∙ flat_map-append f (take m xs) (drop m xs)

  module _ {W : Type 0} (contents : W → Option (List ℕ)) (a b c : Counted W) where
    pub sends_between : (n m : ℕ) → n ≤ m → Sends (stream_of contents a b) (flat_map f (take n xs))
        → Sends (stream_of contents b c) (flat_map f (between n m)) → Sends (stream_of contents a c) (flat_map f (take m xs))
    sends_between n m h p q = subst (Sends (stream_of contents a c)) (joined n m h) (sends_more contents a b c _ _ p q)

    pub stops_between : (n m : ℕ) → n ≤ m → (stop : ReportStop) → Sends (stream_of contents a b) (flat_map f (take n xs))
        → StopsAt (stream_of contents b c) (flat_map f (between n m)) stop → StopsAt (stream_of contents a c) (flat_map f xs) stop
    stops_between n m h stop p q =
        stops_longer _ _ (flat_map f (drop m xs)) _ stop (parted m ∙ ap (λ t. t ++ flat_map f (drop m xs)) (sym (joined n m h)))
        (stops_more contents a b c _ _ stop p q)

    module _ (i : ℕ) (x : X) (lt : i < length xs) (is : x ≡ get_or xs i x) where
      one_longer : flat_map f (take i xs) ++ f x ≡ flat_map f (take (i + 1) xs)
      one_longer =
          ap (λ t. flat_map f (take i xs) ++ t) (sym (append-nil (f x)))
          ∙ sym (flat_map-append f (take i xs) (x ∷ []))
          ∙ ap (flat_map f) (sym (take_more xs i x lt ∙ ap (λ y. take i xs ++ y ∷ []) (sym is)))

      pub sends_next : Sends (stream_of contents a b) (flat_map f (take i xs)) → Sends (stream_of contents b c) (f x)
          → Sends (stream_of contents a c) (flat_map f (take (i + 1) xs))
      sends_next p q = subst (Sends (stream_of contents a c)) one_longer (sends_more contents a b c _ _ p q)

      pub stops_next : (stop : ReportStop) → Sends (stream_of contents a b) (flat_map f (take i xs)) → StopsAt (stream_of contents b c) (f x) stop
          → StopsAt (stream_of contents a c) (flat_map f xs) stop
      stops_next stop p q =
          stops_longer _ _ (flat_map f (drop (i + 1) xs)) _ stop (parted (i + 1) ∙ ap (λ t. t ++ flat_map f (drop (i + 1) xs)) (sym one_longer))
          (stops_more contents a b c _ _ stop p q)

  pub all_sent : (s : Stream) (n : ℕ) → length xs ≤ n → Sends s (flat_map f (take n xs)) → Sends s (flat_map f xs)
  all_sent s n h p = subst (λ ys. Sends s (flat_map f ys)) (take_all n xs h) p
