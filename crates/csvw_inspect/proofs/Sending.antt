-- A write that was cut. The proof gives the two parts of the text, which a search can't guess.
use Rattle.std.proofs.Common.{◌≡◌, ℕ, List, take, drop, sym, take-append-drop, Option}
use Rattle.std.specs.Io.KnownBytes.{Appends}
use Rattle.csvw_streams.specs.Count.{one_more}
use Rattle.csvw_streams.specs.Streams.{IsCut}

-- a front of the text was written, and then the writer failed
pub cut_write : (a b : Option (List ℕ)) (n m : ℕ) (text : List ℕ) (k : ℕ) → Appends a b (take k text) → m ≡ one_more n
    → IsCut (record { held = a; holds = b; failures = n; failed = m }) text
cut_write a b n m text k p failed = record {
  front = take k text;
  rest = drop k text;
  parts = sym (take-append-drop k text);
  appended = p;
  failed = failed;
}
