-- The characters that begin two texts, taken off one by one.
use Rattle.std.proofs.Common.{◌≡◌, ◌∙◌, ℕ, zero, suc, ◌+◌, ◌<◌, ◌≤◌, List, [], ◌∷◌, ◌++◌, length, take, drop, get_or, sym, ap, arith, length-drop, refl}
use Rattle.std.specs.Prelude.{encode_utf8, encode_utf8_all}
use Rattle.std.proofs.lemmas.List.{take_more}
use Rattle.std.proofs.lemmas.Str.{cons_from_encodes, length-le-encodes}
use Rattle.csvw_records.specs.AtFront.{IsCommon}

get_any : (l : List ℕ) (k a b : ℕ) → k < length l → get_or l k a ≡ get_or l k b
get_any [] k a b h = absurd (omega arith)
get_any (x ∷ xs) zero a b h = refl
get_any (x ∷ xs) (suc k) a b h = get_any xs k a b (omega arith)

get_drop : (t es : List ℕ) (i c : ℕ) → drop i t ≡ c ∷ es → (i < length t) × (get_or t i 0 ≡ c)
get_drop [] es zero c e = absurd cc
get_drop [] es (suc i) c e = absurd cc
get_drop (x ∷ xs) es zero c e = (omega arith, cc)
get_drop (x ∷ xs) es (suc i) c e = let r = get_drop xs es i c e in ((let k = r.0 in omega (arith, k)), r.1)

-- the next character
pub next_char : (t left rest : List ℕ) (i c : ℕ) → left ≡ encode_utf8_all (drop i t) → left ≡ encode_utf8 c ++ rest → (i < length t) × (get_or t i 0 ≡ c)
next_char t left rest i c e f = let h = cons_from_encodes (drop i t) rest c (sym e ∙ f) in get_drop t h.0 i c h.1

-- or none
no_char : (t left : List ℕ) (i : ℕ) → left ≡ encode_utf8_all (drop i t) → length left ≡ 0 → i ≤ length t → i ≡ length t
no_char t left i e z h = omega (arith, length-le-encodes (drop i t), ap length e, z, h, length-drop i t)

pub common_all : (a t left : List ℕ) (i : ℕ) → left ≡ encode_utf8_all (drop i t) → length left ≡ 0 → i ≤ length a → i ≤ length t → take i a ≡ take i t
    → IsCommon a t i
common_all a t left i e z h k same = record { in_prefix = h; in_text = k; same = same; most = λ p q. absurd (omega (arith, q, no_char t left i e z k)) }

pub common_differs : (a t : List ℕ) (i x c : ℕ) → i < length a → (i < length t) × (get_or t i 0 ≡ c) → x ≡ get_or a i x → (c ≡ x → ⊥)
    → take i a ≡ take i t → IsCommon a t i
common_differs a t i x c h k e n same = record {
  in_prefix = omega (arith, h);
  in_text = (let w = k.0 in omega (arith, w));
  same = same;
  most = λ p q f. n (sym k.1 ∙ sym f ∙ get_any a i 0 x h ∙ sym e);
}

pub common_more : (a t : List ℕ) (i x c : ℕ) → i < length a → (i < length t) × (get_or t i 0 ≡ c) → x ≡ get_or a i x → c ≡ x → take i a ≡ take i t
    → take (i + 1) a ≡ take (i + 1) t
common_more a t i x c h k e f same = take_more a i 0 h ∙ ap (λ l. l ++ get_or a i 0 ∷ []) same
    ∙ ap (λ y. take i t ++ y ∷ []) (get_any a i 0 x h ∙ sym e ∙ sym f ∙ sym k.1) ∙ sym (take_more t i 0 k.0)

pub common_whole : (a t : List ℕ) (i : ℕ) → i ≡ length a → i ≤ length t → take i a ≡ take i t → IsCommon a t (length a)
common_whole a t i e h same = record {
  in_prefix = omega arith;
  in_text = omega (arith, e, h);
  same = ap (λ n. take n a) (sym e) ∙ same ∙ ap (λ n. take n t) e;
  most = λ p q. absurd (omega (arith, p));
}
