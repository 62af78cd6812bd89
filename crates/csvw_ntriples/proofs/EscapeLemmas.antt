-- A text without bytes that are escaped is written as it is. The mask of a vector says which of its bytes are escaped.
use Rattle.std.proofs.Common.{◌≡◌, ℕ, suc, ◌+◌, ◌%◌, ◌^◌, ◌≤◌, List, [], ◌∷◌, length, map, replicate, Bool, true, false, cond, ◌||◌, ◌==◌, eqb}
use Rattle.std.proofs.Common.{bit_or, refl, sym, ap, ◌∙◌, arith}
use Rattle.std.proofs.lemmas.Bool.{eqb-true}
use Rattle.std.proofs.lemmas.Bool.Decides.{nat_tests}
use Rattle.std.proofs.lemmas.List.{length-map}
use Rattle.std.proofs.lemmas.Simd.{map-map, mask_l-mod, length-chunk, zip2_splat, zip2_of_maps, none_from_empty_mask}
use Rattle.std.specs.Bool.{OnTrue}
use Rattle.std.specs.List.{list_any}
use Rattle.std.specs.Prelude.{flat_map}
use lib.Lanes.{chunk, mask_l, zip2, top}
use Rattle.csvw_ntriples.specs.Escape.{needs_escape, PlainBetween}
use Rattle.csvw_ntriples.specs.PlainCopy.{IsPlainCopy}
use Rattle.csvw_ntriples.specs.Written.{escaped}

escaped_plain : (b : ℕ) → needs_escape b ≡ false → escaped b ≡ b ∷ []
escaped_plain b h = grind (arith, nat_tests)

or_false : (a b : Bool) → (a || b) ≡ false → (a ≡ false) × (b ≡ false)
or_false true b h = cc
or_false false b h = (refl, h)

pub flat_map-escaped : (bytes : List ℕ) → list_any needs_escape bytes ≡ false → flat_map escaped bytes ≡ bytes
flat_map-escaped [] h = refl
flat_map-escaped (b ∷ bytes) h =
    let both = or_false (needs_escape b) (list_any needs_escape bytes) h in
    rw (escaped_plain b both.0, flat_map-escaped bytes both.1) refl

-- the same of bytes by their places
escaped_same : (bytes : List ℕ) → PlainBetween bytes 0 (length bytes) → flat_map escaped bytes ≡ bytes
escaped_same [] h = refl
escaped_same (b ∷ bytes) h =
    rw (escaped_plain b (h 0 (omega arith) (omega arith)), escaped_same bytes (λ k p q. h (suc k) (omega arith) (omega arith))) refl

pub escaped_on_copy : (b : Bool) (bytes room : List ℕ) → OnTrue b (IsPlainCopy bytes room) → OnTrue b (room ≡ flat_map escaped bytes)
escaped_on_copy true bytes room h = h.0 ∙ sym (escaped_same bytes h.1)
escaped_on_copy false bytes room h = tt

-- a comparison of a lane
abbrev hit : ℕ → ℕ → ℕ
hit a b = cond (eqb a b) 255 0

-- the lanes that are compared
abbrev lane : ℕ → ℕ
lane x = bit_or (bit_or (hit x 34) (hit x 92)) (bit_or (hit x 10) (hit x 13))

top_lane : (a b c d : Bool) → top 7 (bit_or (bit_or (cond a 255 0) (cond b 255 0)) (bit_or (cond c 255 0) (cond d 255 0))) ≡ (a || b || c || d)
top_lane true true true true = refl
top_lane true true true false = refl
top_lane true true false true = refl
top_lane true true false false = refl
top_lane true false true true = refl
top_lane true false true false = refl
top_lane true false false true = refl
top_lane true false false false = refl
top_lane false true true true = refl
top_lane false true true false = refl
top_lane false true false true = refl
top_lane false true false false = refl
top_lane false false true true = refl
top_lane false false true false = refl
top_lane false false false true = refl
top_lane false false false false = refl

map_same : (f g : ℕ → Bool) → ((x : ℕ) → f x ≡ g x) → (xs : List ℕ) → map f xs ≡ map g xs
map_same f g e [] = refl
map_same f g e (x ∷ xs) = ap (λ b. b ∷ map f xs) (e x) ∙ ap (λ l. g x ∷ l) (map_same f g e xs)

-- the mask of lanes has a bit for each byte that is escaped
mask_is : (v z : List ℕ) → length v ≤ 64 → z ≡ map lane v → mask_l (map (top 7) z) % 2 ^ 64 ≡ mask_l (map needs_escape v)
mask_is v z short e =
    let p = λ (x : ℕ). top 7 (lane x) in
    ap (λ l. mask_l l % 2 ^ 64) (ap (map (top 7)) e ∙ map-map (top 7) lane v) ∙ mask_l-mod (map p v) 64 (omega (arith, length-map v p, short))
    ∙ ap mask_l (map_same p needs_escape (λ x. top_lane (eqb x 34) (eqb x 92) (eqb x 10) (eqb x 13)) v)

on_true : (b : Bool) (P : Type 0) → (b ≡ true → P) → OnTrue b P
on_true true P f = f refl
on_true false P f = tt

-- the four tests of a vector of n lanes
pub plain_from_lanes : (bytes : List ℕ) (at n : ℕ) → at + n ≤ length bytes → n ≤ 64
    → OnTrue (mask_l (map (top 7) (zip2 bit_or (zip2 bit_or (zip2 hit (chunk at n bytes) (replicate n 34)) (zip2 hit (chunk at n bytes) (replicate n 92)))
    (zip2 bit_or (zip2 hit (chunk at n bytes) (replicate n 10)) (zip2 hit (chunk at n bytes) (replicate n 13))))) % 2 ^ 64 == 0)
    (PlainBetween bytes at (at + n))
plain_from_lanes bytes at n room few =
    let v = chunk at n bytes in
    let long = length-chunk at n bytes room in
    let lanes = zip2_of_maps bit_or _ _ v
    (zip2_of_maps bit_or _ _ v (zip2_splat hit v n 34 long) (zip2_splat hit v n 92 long))
    (zip2_of_maps bit_or _ _ v (zip2_splat hit v n 10 long) (zip2_splat hit v n 13 long)) in
    let mask = mask_is v _ (omega (arith, long, few)) lanes in
    on_true _ _ (λ e. none_from_empty_mask needs_escape bytes at n 0 room (sym mask ∙ eqb-true _ 0 e))
