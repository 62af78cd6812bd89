-- What follows from the parts of a plan that were sent.
use Rattle.std.proofs.Common.{◌≡◌, ◌∙◌, ◌+◌, ◌<◌, ℕ, List, [], ◌∷◌, ◌++◌, take, drop, get_or, length, flat_map, sym, ap, append_assoc, append-nil, take-append-drop}
use Rattle.std.proofs.Common.{Option}
use Rattle.std.proofs.KnownBytes.{Appends-trans}
use Rattle.std.specs.Io.KnownBytes.{Appends}
use Rattle.std.proofs.lemmas.List.{at_drop_more, take_more}
use Rattle.std.proofs.lemmas.List.Concat.{flat_map-append}
use Rattle.csvw_streams.specs.Count.{one_more}
use Rattle.csvw_streams.specs.Lines.{SendsOn}
use Rattle.csvw_streams.specs.Streams.{Stream, IsCut, Sends}
use Rattle.csvw_part_plan.specs.declared.piece.Piece.{Piece}
use Rattle.csvw_part_plan.specs.Plans.{heading, line, plan_text}

-- the same stream, up to and from a moment between
abbrev pub stream : Option (List ℕ) → Option (List ℕ) → ℕ → ℕ → Stream
stream held holds failures failed = record { held = held; holds = holds; failures = failures; failed = failed }

-- a write was cut
pub cut_write : (a b : Option (List ℕ)) (n m : ℕ) (text : List ℕ) (k : ℕ) → Appends a b (take k text) → m ≡ one_more n → IsCut (stream a b n m) text
cut_write a b n m text k p failed = record {
  front = take k text;
  rest = drop k text;
  parts = sym (take-append-drop k text);
  appended = p;
  failed = failed;
}

-- two texts went out
pub sends_both : (a b c : Option (List ℕ)) (n m k : ℕ) (xs ys : List ℕ) → Sends (stream a b n m) xs → Sends (stream b c m k) ys
    → Sends (stream a c n k) (xs ++ ys)
sends_both a b c n m k xs ys p q = (Appends-trans a b c xs ys p.0 q.0, q.1 ∙ p.1)

-- the second of two texts was cut
pub cut_second : (a b c : Option (List ℕ)) (n m k : ℕ) (xs ys : List ℕ) → Sends (stream a b n m) xs → IsCut (stream b c m k) ys
    → IsCut (stream a c n k) (xs ++ ys)
cut_second a b c n m k xs ys p q = record {
  front = xs ++ q.front;
  rest = q.rest;
  parts = ap (λ zs. xs ++ zs) q.parts ∙ sym (append_assoc xs q.front q.rest);
  appended = Appends-trans a b c xs q.front p.0 q.appended;
  failed = q.failed ∙ ap one_more p.1;
}

-- the first of two texts was cut
pub cut_first : (s : Stream) (xs ys : List ℕ) → IsCut s xs → IsCut s (xs ++ ys)
cut_first s xs ys q = record {
  front = q.front;
  rest = q.rest ++ ys;
  parts = ap (λ zs. zs ++ ys) q.parts ∙ append_assoc q.front q.rest ys;
  appended = q.appended;
  failed = q.failed;
}

-- parts of a line, one after the other
pub sends_then : (a b c : Option (List ℕ)) (n m k : ℕ) (x p y q z : List ℕ) → SendsOn (stream a b n m) x p y → SendsOn (stream b c m k) y q z
    → SendsOn (stream a c n k) x (p ++ q) z
sends_then a b c n m k x p y q z one two = record {
  sent = one.sent ++ two.sent;
  sends = sends_both a b c n m k one.sent two.sent one.sends two.sends;
  parts = sym (append_assoc x p q) ∙ (ap (λ xs. xs ++ q) one.parts ∙ (append_assoc one.sent y q ∙ (ap (λ xs. one.sent ++ xs) two.parts
      ∙ sym (append_assoc one.sent two.sent z))));
}

-- the second part was cut
pub cut_then : (a b c : Option (List ℕ)) (n m k : ℕ) (x p y q : List ℕ) → SendsOn (stream a b n m) x p y → IsCut (stream b c m k) (y ++ q)
    → IsCut (stream a c n k) (x ++ (p ++ q))
cut_then a b c n m k x p y q one two =
    let same : x ++ (p ++ q) ≡ one.sent ++ (y ++ q) = sym (append_assoc x p q) ∙ (ap (λ xs. xs ++ q) one.parts ∙ append_assoc one.sent y q) in
    rw same (cut_second a b c n m k one.sent (y ++ q) one.sends two)

-- more was to be sent behind a part that was cut
pub cut_more : (s : Stream) (x p q : List ℕ) → IsCut s (x ++ p) → IsCut s (x ++ (p ++ q))
cut_more s x p q cut = rw (sym (append_assoc x p q)) (cut_first s (x ++ p) q cut)

-- the heading and the lines of the first pieces
abbrev pub so_far : List Piece → ℕ → List ℕ
so_far pieces i = heading ++ flat_map line (take i pieces)

module _ (pieces : List Piece) (i : ℕ) (d : Piece) (below : i < length pieces) where
  pub so_far_more : so_far pieces (i + 1) ≡ so_far pieces i ++ line (get_or pieces i d)
  so_far_more =
      ap (λ ps. heading ++ flat_map line ps) (take_more pieces i d below)
      ∙ ap (λ t. heading ++ t) (flat_map-append line (take i pieces) (get_or pieces i d ∷ []) ∙ ap (λ t. flat_map line (take i pieces) ++ t) (append-nil _))
      ∙ sym (append_assoc heading (flat_map line (take i pieces)) (line (get_or pieces i d)))

  -- the plan by the pieces before one, that piece and those after it
  pub plan_parts : plan_text pieces ≡ so_far pieces i ++ (line (get_or pieces i d) ++ flat_map line (drop (i + 1) pieces))
  plan_parts =
      ap (λ ps. heading ++ flat_map line ps) (sym (take-append-drop i pieces))
      ∙ ap (λ t. heading ++ t) (flat_map-append line (take i pieces) (drop i pieces) ∙ ap (λ t. flat_map line (take i pieces) ++ t) (at_drop_more (flat_map line) pieces i d below))
      ∙ sym (append_assoc heading (flat_map line (take i pieces)) _)

-- the room's bytes are sent after what was sent before
pub room_sent : (a b c : Option (List ℕ)) (n m k : ℕ) (text room : List ℕ) → SendsOn (stream a b n m) [] text room → Sends (stream b c m k) room
    → Sends (stream a c n k) text
room_sent a b c n m k text room one two = rw one.parts (sends_both a b c n m k one.sent room one.sends two)

pub room_cut : (a b c : Option (List ℕ)) (n m k : ℕ) (text room : List ℕ) → SendsOn (stream a b n m) [] text room → IsCut (stream b c m k) room
    → IsCut (stream a c n k) text
room_cut a b c n m k text room one two = rw one.parts (cut_second a b c n m k one.sent room one.sends two)
