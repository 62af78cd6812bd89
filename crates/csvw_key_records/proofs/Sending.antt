-- What follows from a text that was sent in parts.
use Rattle.std.proofs.Common.{◌≡◌, ◌∙◌, ℕ, List, [], ◌++◌, take, drop, sym, ap, append_assoc, take-append-drop, Option}
use Rattle.std.proofs.KnownBytes.{Appends-trans}
use Rattle.std.specs.Io.KnownBytes.{Appends}
use Rattle.csvw_streams.specs.Count.{one_more}
use Rattle.csvw_streams.specs.Lines.{SendsOn}
use Rattle.csvw_streams.specs.Streams.{Stream, IsCut, Sends}

-- the same stream, up to and from a moment between
abbrev pub stream : Option (List ℕ) → Option (List ℕ) → ℕ → ℕ → Stream
stream held holds failures failed = record { held = held; holds = holds; failures = failures; failed = failed }

-- a write was cut
pub cut_write : (a b : Option (List ℕ)) (n m : ℕ) (text : List ℕ) (k : ℕ) → Appends a b (take k text) → m ≡ one_more n → IsCut (stream a b n m) text
cut_write a b n m text k p failed = record {
  front = take k text;
  rest = drop k text;
  parts = sym (take-append-drop k text);
  appended = p;
  failed = failed;
}

-- two texts went out
pub sends_both : (a b c : Option (List ℕ)) (n m k : ℕ) (xs ys : List ℕ) → Sends (stream a b n m) xs → Sends (stream b c m k) ys
    → Sends (stream a c n k) (xs ++ ys)
sends_both a b c n m k xs ys p q = (Appends-trans a b c xs ys p.0 q.0, q.1 ∙ p.1)

-- the second of two texts was cut
pub cut_second : (a b c : Option (List ℕ)) (n m k : ℕ) (xs ys : List ℕ) → Sends (stream a b n m) xs → IsCut (stream b c m k) ys
    → IsCut (stream a c n k) (xs ++ ys)
cut_second a b c n m k xs ys p q = record {
  front = xs ++ q.front;
  rest = q.rest;
  parts = ap (λ zs. xs ++ zs) q.parts ∙ sym (append_assoc xs q.front q.rest);
  appended = Appends-trans a b c xs q.front p.0 q.appended;
  failed = q.failed ∙ ap one_more p.1;
}

-- the room's bytes are sent after what was sent before
pub room_sent : (a b c : Option (List ℕ)) (n m k : ℕ) (text room : List ℕ) → SendsOn (stream a b n m) [] text room → Sends (stream b c m k) room
    → Sends (stream a c n k) text
room_sent a b c n m k text room one two = rw one.parts (sends_both a b c n m k one.sent room one.sends two)

pub room_cut : (a b c : Option (List ℕ)) (n m k : ℕ) (text room : List ℕ) → SendsOn (stream a b n m) [] text room → IsCut (stream b c m k) room
    → IsCut (stream a c n k) text
room_cut a b c n m k text room one two = rw one.parts (cut_second a b c n m k one.sent room one.sends two)
