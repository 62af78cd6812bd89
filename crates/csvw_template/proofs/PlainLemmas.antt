-- Texts that are kept as they are.
use Rattle.std.proofs.Common.{◌≡◌, ◌==◌, ℕ, List, [], ◌∷◌, ◌++◌, true, false, refl, ap, ◌∙◌, arith}
use Rattle.std.specs.List.{list_all}
use Rattle.std.proofs.lemmas.Bool.{cond-true, and_parts, and_left}
use Rattle.std.proofs.lemmas.Bool.Decides.{nat_tests}
use Rattle.csvw_template.specs.Expand.{is_plain, kept, begins_triplet}
use Rattle.csvw_template.proofs.KeptLemmas.{kept-cons, kept-nil}

no_percent : (b : ℕ) → is_plain b ≡ true → (b == 37) ≡ false
no_percent b h = grind (arith, nat_tests)

no_triplet : (b : ℕ) (bs : List ℕ) → is_plain b ≡ true → begins_triplet (b ∷ bs) ≡ false
no_triplet b [] h = refl
no_triplet b (c ∷ []) h = refl
no_triplet b (c ∷ d ∷ rest) h = and_left _ _ (and_left _ _ (no_percent b h))

pub plain_stays : (text : List ℕ) → list_all is_plain text ≡ true → kept text ≡ text
plain_stays [] h = kept-nil [] refl
plain_stays (b ∷ bs) h =
    let both = and_parts _ _ h in
    kept-cons b bs (no_triplet b bs both.0) ∙ ap (λ x. x ++ kept bs) (cond-true _ _ _ both.0) ∙ ap (λ x. b ∷ x) (plain_stays bs both.1)
