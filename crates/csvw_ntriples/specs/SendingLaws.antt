-- Laws of the states of a sink, one after the other.
use Rattle.std.proofs.Common.{◌≡◌, ℕ, List, [], ◌∷◌, ◌++◌, Bool, true, false, Option, Some, None, refl, ap, ◌∙◌, append_assoc, append-nil, take}
use Rattle.std.proofs.KnownBytes.{Appends-nil, Appends-trans, Appends-kept}
use Rattle.std.proofs.lemmas.List.Concat.{flat_map-append}
use Rattle.std.specs.Io.KnownBytes.{Keeps}
use Rattle.std.specs.List.{AllByRecursion}
use Rattle.csvw_ntriples.specs.Sending.{Sends}
use Rattle.csvw_ntriples.specs.Written.{written, line_text}
use Rattle.csvw_ntriples.specs.Writable.{TripleFits}
use Rattle.csvw_triples_core.specs.declared.term.Triple.{Triple}

pub all_fit : (xs ys : List Triple) → AllByRecursion TripleFits xs → AllByRecursion TripleFits ys → AllByRecursion TripleFits (xs ++ ys)
all_fit [] ys h k = k
all_fit (x ∷ xs) ys h k = (h.0, all_fit xs ys h.1 k)

Keeps-same : (a : Option (List ℕ)) → Keeps a a
Keeps-same None = tt
Keeps-same (Some x) = refl

Keeps-trans : (a b c : Option (List ℕ)) → Keeps a b → Keeps b c → Keeps a c
Keeps-trans None b c p q = tt
Keeps-trans (Some x) None c p q = absurd p
Keeps-trans (Some x) (Some y) None p q = absurd q
Keeps-trans (Some x) (Some y) (Some z) p q = q ∙ p

pub written-append : (xs ys : List Triple) → written (xs ++ ys) ≡ written xs ++ written ys
written-append xs ys = flat_map-append line_text xs ys

pub sends_nothing : (a : Option (List ℕ)) (o : Bool) → Sends a o [] a o
sends_nothing a true = Appends-nil a
sends_nothing a false = (refl, Keeps-same a)

pub sends_on : (a b c : Option (List ℕ)) (o p q : Bool) (xs ys : List Triple) → Sends a o xs b p → Sends b p ys c q → Sends a o (xs ++ ys) c q
sends_on a b c true true true xs ys f g = rw (written-append xs ys) (Appends-trans a b c (written xs) (written ys) f g)
sends_on a b c true true false xs ys f (cut, k) =
    let part = take k.sent (written (cut ∷ [])) in (
      cut,
      record {
        fits = k.fits;
        sent = k.sent;
        short = k.short;
        added = rw (written-append xs ys, append_assoc (written xs) (written ys) part) (Appends-trans a b c (written xs) (written ys ++ part) f k.added);
      },
    )
sends_on a b c true false true xs ys f g = absurd g
sends_on a b c true false false xs ys (cut, k) g =
    let same : xs ++ ys ≡ xs = ap (λ z. xs ++ z) g.0 ∙ append-nil xs in (
      cut,
      record {
        fits = k.fits;
        sent = k.sent;
        short = k.short;
        added = rw same (Appends-kept a b c (written xs ++ take k.sent (written (cut ∷ []))) k.added g.1);
      },
    )
sends_on a b c false true q xs ys f g = absurd f
sends_on a b c false false true xs ys f g = absurd g
sends_on a b c false false false xs ys f g = (ap (λ z. z ++ ys) f.0 ∙ g.0, Keeps-trans a b c f.1 g.1)
