-- The set of all but the unreserved characters encodes what isn't unreserved.
use Rattle.std.proofs.Common.{◌≡◌, ℕ, zero, suc, ◌<◌, ◌≤◌, List, [], ◌∷◌, ◌++◌, Bool, true, false, not, ◌&&◌, refl, ap, ◌∙◌, ⊎_elim, arith}
use Rattle.std.proofs.Common.{if◌then◌else◌}
use Rattle.std.proofs.lemmas.Bool.{cond-true, cond-false, and_parts, cases_eq, cases_lt, not-true}
use Rattle.std.proofs.lemmas.Bool.Decides.{nat_tests}
use Rattle.percent_encoding.specs.AsciiSet.{contains, should_percent_encode}
use Rattle.percent_encoding.specs.Percent.{percent_encode}
use Rattle.percent_encoding.proofs.AsciiSetLemmas.{kept_from_outside, escaped_from_inside}
use Rattle.csvw_text.specs.Class.{is_unreserved_char}
use Rattle.csvw_iri.specs.declared.encoded.TheConstants.{BUT_UNRESERVED}
use Rattle.csvw_iri.specs.Encoded.{encoded_byte, percent_encoded}

outside_escaped : (b : ℕ) → 128 ≤ b → should_percent_encode BUT_UNRESERVED b ≡ true
unfolding should_percent_encode
outside_escaped b high = grind (arith, nat_tests)

-- what is tested of each number below
abbrev all_below : (ℕ → Bool) → ℕ → Bool
all_below test zero = true
all_below test (suc n) = test n && all_below test n

checked : (test : ℕ → Bool) (n : ℕ) → all_below test n ≡ true → (k : ℕ) → k < n → test k ≡ true
checked test zero all k below = absurd (omega arith)
checked test (suc n) all k below =
    let both = and_parts _ _ all in
    ⊎_elim (λ last. rw last both.0) (λ other. checked test n both.1 k (omega arith)) (cases_eq k n)

-- whether the set has the byte exactly where it isn't unreserved
abbrev is_told : ℕ → Bool
is_told b = if is_unreserved_char b then not (contains BUT_UNRESERVED b) else contains BUT_UNRESERVED b

pub unreserved_kept : (b : ℕ) → is_unreserved_char b ≡ true → should_percent_encode BUT_UNRESERVED b ≡ false
unreserved_kept b h =
    let ascii : b < 128 = grind (arith, nat_tests) in
    let told = rw h at (checked is_told 128 refl b ascii) in
    kept_from_outside BUT_UNRESERVED b ascii (not-true _ told)

other_escaped : (b : ℕ) → is_unreserved_char b ≡ false → should_percent_encode BUT_UNRESERVED b ≡ true
other_escaped b h = ⊎_elim (λ ascii. escaped_from_inside BUT_UNRESERVED b (rw h at (checked is_told 128 refl b ascii))) (outside_escaped b) (cases_lt b 128)

pick : (u s : Bool) (x y : List ℕ) → (u ≡ true → s ≡ false) → (u ≡ false → s ≡ true) → (if s then x else y) ≡ (if u then y else x)
pick true s x y f g = cond-false s x y (f refl)
pick false s x y f g = cond-true s x y (g refl)

-- the set encodes what isn't unreserved
pub all_but_unreserved : (text : List ℕ) → percent_encode BUT_UNRESERVED text ≡ percent_encoded text
unfolding percent_encode
all_but_unreserved [] = refl
all_but_unreserved (b ∷ bs) =
    ap (λ x. x ++ percent_encode BUT_UNRESERVED bs) (pick (is_unreserved_char b) _ _ _ (unreserved_kept b) (other_escaped b))
    ∙ ap (λ x. encoded_byte b ++ x) (all_but_unreserved bs)
