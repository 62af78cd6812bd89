-- Triplets stay.
use Rattle.std.proofs.Common.{◌≡◌, ℕ, ◌<◌, List, [], ◌∷◌, ◌++◌, true, false, take, drop, length, get_or, refl, append_assoc}
use Rattle.std.proofs.Common.{append-nil, arith}
use Rattle.std.proofs.lemmas.Bool.{cond-true, cond-false}
use Rattle.csvw_template.specs.Expand.{kept, kept_byte, begins_triplet}

pub kept-triplet : (bs : List ℕ) → begins_triplet bs ≡ true → kept bs ≡ take 3 bs ++ kept (drop 3 bs)
unfolding kept
kept-triplet [] e = cc
kept-triplet (b ∷ []) e = cc
kept-triplet (b ∷ c ∷ []) e = cc
kept-triplet (b ∷ c ∷ d ∷ rest) e = cond-true _ _ _ e

pub kept-cons : (b : ℕ) (bs : List ℕ) → begins_triplet (b ∷ bs) ≡ false → kept (b ∷ bs) ≡ kept_byte b ++ kept bs
unfolding kept
kept-cons b [] e = refl
kept-cons b (c ∷ []) e = refl
kept-cons b (c ∷ d ∷ rest) e = cond-false _ _ _ e

pub kept-other : (bs : List ℕ) → 0 < length bs → begins_triplet bs ≡ false → kept bs ≡ kept_byte (get_or bs 0 0) ++ kept (drop 1 bs)
kept-other [] lt e = absurd (omega arith)
kept-other (b ∷ bs) lt e = kept-cons b bs e

pub kept-nil : (bs : List ℕ) → length bs ≡ 0 → kept bs ≡ []
unfolding kept
kept-nil [] e = refl
kept-nil (b ∷ bs) e = absurd (omega arith)

pub ruleset keeping = (kept-triplet, kept-other, kept-nil, append_assoc, append-nil)
