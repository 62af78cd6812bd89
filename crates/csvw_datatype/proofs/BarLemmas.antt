-- A text and its first vertical line.
use Rattle.std.proofs.Common.{◌≡◌, ℕ, ◌+◌, ◌<◌, ◌==◌, not, Bool, true, false, ◌||◌, Option, Some, None, Bor, MatchOption, List, [], ◌∷◌, ◌++◌, length}
use Rattle.std.proofs.Common.{take, drop, get_or, refl, sym, ap, ◌∙◌, arith, length-append}
use Rattle.std.specs.List.{position_or_len, before_first, after_first}
use Rattle.std.proofs.Math.Seq.{take-append_seam, drop-append-add}
use Rattle.std.proofs.lemmas.Bool.{cond-true}
use Rattle.std.proofs.lemmas.Bool.Decides.{nat_tests}
use Rattle.std.proofs.lemmas.List.Sums.{split_at_first, passes_at_first}
use Rattle.csvw_datatype.specs.Bars.{has_bar, HasNoSplit, IsOnlySplit}

abbrev is_bar : ℕ → Bool
is_bar b = b == 124

or_none : (a b : Bool) → (a || b) ≡ false → (a ≡ false) × (b ≡ false)
or_none true b h = cc
or_none false b h = (refl, h)

not_of : (b : Bool) → b ≡ false → not b ≡ true
not_of b e = ap not e

first_at : (t f : List ℕ) → has_bar t ≡ false → position_or_len is_bar (t ++ (124 ∷ f)) ≡ length t
first_at [] f h = refl
first_at (c ∷ t) f h =
    let p = or_none (is_bar c) (has_bar t) h in
    let rest = first_at t f p.1 in
    cond-true (not (is_bar c)) (1 + position_or_len is_bar (t ++ (124 ∷ f))) 0 (not_of (is_bar c) p.0) ∙ omega (arith, rest)

is_bar_of : (c : ℕ) → is_bar c ≡ true → c ≡ 124
is_bar_of c h = grind (arith, nat_tests)

no_split : (text : List ℕ) → position_or_len is_bar text ≡ length text → HasNoSplit text
no_split text e before after h is =
    let at : position_or_len is_bar text ≡ length before = ap (position_or_len is_bar) is ∙ first_at before after h in
    omega (arith, at, e, ap length is, length-append before (124 ∷ after))

only_split : (text t f : List ℕ) → position_or_len is_bar text < length text → t ≡ before_first is_bar text → f ≡ after_first is_bar text → IsOnlySplit text t f
only_split text t f l a b =
    let n = position_or_len is_bar text in
    let bar : get_or text n 0 ≡ 124 = is_bar_of _ (passes_at_first is_bar text 0 l) in
    let whole : text ≡ before_first is_bar text ++ (get_or text n 0 ∷ after_first is_bar text) = split_at_first is_bar text 0 l in (
      whole ∙ ap (λ x. before_first is_bar text ++ (x ∷ after_first is_bar text)) bar ∙ ap (λ x. x ++ (124 ∷ after_first is_bar text)) (sym a)
          ∙ ap (λ x. t ++ (124 ∷ x)) (sym b),
      λ before after h is.
          let at : n ≡ length before = ap (position_or_len is_bar) is ∙ first_at before after h in (
            sym (a ∙ ap (λ k. take k text) at ∙ ap (take (length before)) is ∙ take-append_seam before (124 ∷ after)),
            sym (b ∙ ap (λ k. drop (k + 1) text) at ∙ ap (drop (length before + 1)) is ∙ drop-append-add before (124 ∷ after) 1),
          ),
    )

-- what `split_once` answers
pub split_answer : (text : List ℕ) (r : Option (Bor (List ℕ) × Bor (List ℕ)))
    → MatchOption r (position_or_len is_bar text ≡ length text) (λ x. (position_or_len is_bar text < length text)
    × (x.0.now ≡ before_first is_bar text) × (x.1.now ≡ after_first is_bar text)) → MatchOption r (HasNoSplit text) (λ x. IsOnlySplit text x.0.now x.1.now)
split_answer text None h = no_split text h
split_answer text (Some x) h = only_split text x.0.now x.1.now h.0 h.1 h.2
