-- The texts of booleans, by the other form of `of`.
use Rattle.std.proofs.Common.{◌≡◌, ◌≢◌, ◌==◌, ◌||◌, not, MatchOption, IfOk, Result, Ok, Err, ℕ, List, [], ◌∷◌, ◌++◌, Option, Some, None, Bool, true}
use Rattle.std.proofs.Common.{false, refl, sym, ap, bytes_eq, if◌then◌else◌, arith}
use Rattle.std.proofs.lemmas.Bool.Decides.{nat_tests}
use Rattle.std.proofs.lemmas.Slice.Eq.{bytes_eq-Decides}
use Rattle.csvw_datatype.specs.Bars.{has_bar, IsTruthText}
use Rattle.csvw_datatype.specs.Formats.{AreTruthTexts, truth_pattern}
use Rattle.csvw_datatype.specs.declared.format.TruthFormat.{TruthFormat}
use Rattle.csvw_meta_datatype.proofs.FormatSoundLemmas.{are_lawful}
use Rattle.csvw_meta_datatype.specs.Truths.{before_bar, behind_bar, is_truth_text, are_truth_texts, truth_texts, truth_format_of}

or_none : (a b : Bool) → (a || b) ≡ false → (a ≡ false) × (b ≡ false)
or_none true b h = cc
or_none false b h = (refl, h)

unequal : (b : Bool) → (b ≡ true → ⊥) → b ≡ false
unequal true h = absurd (h refl)
unequal false h = refl

before_is : (t f : List ℕ) → has_bar t ≡ false → before_bar (t ++ (124 ∷ f)) ≡ t
before_is [] f h = refl
before_is (c ∷ t) f h = let p = or_none (c == 124) (has_bar t) h in rw p.0 (ap (λ x. c ∷ x) (before_is t f p.1))

behind_is : (t f : List ℕ) → has_bar t ≡ false → behind_bar (t ++ (124 ∷ f)) ≡ Some f
behind_is [] f h = refl
behind_is (c ∷ t) f h = let p = or_none (c == 124) (has_bar t) h in rw p.0 (behind_is t f p.1)

is_bar_of : (c : ℕ) → (c == 124) ≡ true → c ≡ 124
is_bar_of c h = grind (arith, nat_tests)

module _ (b : ℕ) (bs f : List ℕ) where
  split_at : (is : Bool) → (b == 124) ≡ is → (if is then Some bs else behind_bar bs) ≡ Some f
      → (behind_bar bs ≡ Some f → bs ≡ before_bar bs ++ (124 ∷ f)) → b ∷ bs ≡ (if is then [] else b ∷ before_bar bs) ++ (124 ∷ f)
  split_at true is h rest = let at = is_bar_of b is in let same : bs ≡ f = cc in rw (at, same) refl
  split_at false is h rest = ap (λ x. b ∷ x) (rest h)

split_is : (s f : List ℕ) → behind_bar s ≡ Some f → s ≡ before_bar s ++ (124 ∷ f)
split_is [] f h = cc
split_is (b ∷ bs) f h = split_at b bs f (b == 124) refl h (split_is bs f)

is_truth : (t : List ℕ) → IsTruthText t → is_truth_text t ≡ true
is_truth [] h = absurd (h.0 refl)
is_truth (b ∷ bs) h = ap not h.1

lawful_are : (f : TruthFormat) → AreTruthTexts f → are_truth_texts f.if_true f.if_false ≡ true
lawful_are f h =
    rw (is_truth f.if_true h.0, is_truth f.if_false h.1)
    (ap not (unequal (bytes_eq f.if_true f.if_false) (λ e. h.2 ((bytes_eq-Decides f.if_true f.if_false).0 e))))

abbrev chosen : Bool → TruthFormat → Option TruthFormat
chosen b f = if b then Some f else None

module _ (s : List ℕ) (h : (f : TruthFormat) → AreTruthTexts f → s ≢ truth_pattern f) where
  none_if : (f : List ℕ) (b : Bool) → are_truth_texts (before_bar s) f ≡ b → behind_bar s ≡ Some f
      → chosen b (record { if_true = before_bar s; if_false = f }) ≡ None
  none_if f true e is = absurd (h (record { if_true = before_bar s; if_false = f }) (are_lawful (before_bar s) f e) (split_is s f is))
  none_if f false e is = refl

  none_of : (o : Option (List ℕ)) → behind_bar s ≡ o → truth_texts (before_bar s) o ≡ None
  none_of None is = refl
  none_of (Some f) is = none_if f (are_truth_texts (before_bar s) f) refl is

-- what `TruthFormat::of` answers
pub truths_as : (s : List ℕ) (o : Option TruthFormat)
    → MatchOption o ((f : TruthFormat) → AreTruthTexts f → s ≢ truth_pattern f) (λ f. AreTruthTexts f × (s ≡ truth_pattern f)) → o ≡ truth_format_of s
truths_as s None h = sym (none_of s h (behind_bar s) refl)
truths_as s (Some f) ((if_true, if_false, apart), is) =
    let no_bar = if_true.1 in
    rw (is, before_is f.if_true f.if_false no_bar, behind_is f.if_true f.if_false no_bar, lawful_are f (if_true, if_false, apart)) refl

pub truths_answer : {E : Type 0} (s : List ℕ) (r : Result (Option TruthFormat) E)
    → IfOk r (λ o. MatchOption o ((f : TruthFormat) → AreTruthTexts f → s ≢ truth_pattern f) (λ f. AreTruthTexts f × (s ≡ truth_pattern f)))
    → IfOk r (λ o. o ≡ truth_format_of s)
truths_answer s (Ok o) h = truths_as s o h
truths_answer s (Err e) h = tt
