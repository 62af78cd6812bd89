-- A line that was cut off.
use Rattle.std.proofs.Common.{◌≡◌, ◌<◌, ℕ, List, [], ◌∷◌, Bool, true, false, Option, sym, subst, ◌∙◌, append-nil, take, length}
use Rattle.std.specs.Io.KnownBytes.{Appends}
use Rattle.csvw_ntriples.specs.Sending.{IsCutIn, Sends}
use Rattle.csvw_ntriples.specs.Writable.{TripleFits}
use Rattle.csvw_ntriples.specs.Written.{written, line_text}
use Rattle.csvw_triples_core.specs.declared.term.Triple.{Triple}

-- within this triple
pub cut_in : (a b : Option (List ℕ)) (t : Triple) (n : ℕ) (line : List ℕ) → TripleFits t → line ≡ line_text t → n < length line
    → Appends a b (take n line) → IsCutIn t a b []
cut_in a b t n line fits e h p =
    let whole : line ≡ written (t ∷ []) = e ∙ sym (append-nil (line_text t)) in record {
      fits = fits;
      sent = n;
      short = subst (λ (xs : List ℕ). n < length xs) whole h;
      added = subst (λ (xs : List ℕ). Appends a b (take n xs)) whole p;
    }

-- which is no whole triple
pub cut_sends : (a b : Option (List ℕ)) (o : Bool) (t : Triple) → o ≡ true → IsCutIn t a b [] → Sends a o [] b false
cut_sends a b true t e k = (t, k)
cut_sends a b false t e k = cc
