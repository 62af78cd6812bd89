-- What follows from the bytes of a text that were sent.
use Rattle.std.proofs.Common.{◌≡◌, ℕ, List, take, drop, sym, take-append-drop, Option}
use Rattle.std.specs.Io.KnownBytes.{Appends}
use Rattle.csvw_streams.specs.Count.{one_more}
use Rattle.csvw_streams.specs.Streams.{Stream, IsCut}

-- the same stream, up to and from a moment between
abbrev pub stream : Option (List ℕ) → Option (List ℕ) → ℕ → ℕ → Stream
stream held holds failures failed = record { held = held; holds = holds; failures = failures; failed = failed }

-- a write was cut
pub cut_write : (a b : Option (List ℕ)) (n m : ℕ) (text : List ℕ) (k : ℕ) → Appends a b (take k text) → m ≡ one_more n → IsCut (stream a b n m) text
cut_write a b n m text k p failed = record {
  front = take k text;
  rest = drop k text;
  parts = sym (take-append-drop k text);
  appended = p;
  failed = failed;
}
