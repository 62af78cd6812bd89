-- The fronts of a pointer are the pointer and those of what is before its last step.
use Rattle.std.proofs.Common.{◌≡◌, ◌∙◌, ◌≢◌, ◌<◌, ℕ, zero, suc, List, [], ◌∷◌, ◌++◌, ◌||◌, ◌&&◌, Bool, true, false, cond, length, get_or, nat_eq, bytes_eq}
use Rattle.std.proofs.Common.{refl, sym, ap, arith, drop, take, String}
use Rattle.std.specs.BTreeSet.{BTreeSet, UpdatesBy, contains_text}
use Rattle.std.specs.Cmp.Lexicographic.{slice_cmp}
use Rattle.std.specs.List.{starts_with}
use Rattle.std.specs.Ordering.{nat_cmp}
use Rattle.std.specs.String.{string_bytes, string_cmp}
use Rattle.std.proofs.lemmas.Bool.Decides.{nat_tests}
use Rattle.std.proofs.lemmas.Map.Text.{btree_set_updates_text}
use Rattle.csvw_meta_faults.specs.Fronts.{is_front}

-- ---- sets of texts

cond_or : (a b : Bool) → cond a true b ≡ (a || b)
cond_or true b = refl
cond_or false b = refl

pub one_more : {Y : Type 0} (text bytes : List ℕ) (set more : BTreeSet (String Y)) → bytes ≡ text
    → UpdatesBy string_cmp (λ k. slice_cmp nat_cmp bytes (string_bytes k)) set more true
    → (p : List ℕ) → contains_text more p ≡ (bytes_eq text p || contains_text set p)
one_more text bytes set more same updates p =
    btree_set_updates_text bytes set more true updates p
    ∙ cond_or (bytes_eq bytes p) (contains_text set p)
    ∙ ap (λ bs. bytes_eq bs p || contains_text set p) same

-- ---- fronts

-- no `/` in a step
abbrev pub IsStep : List ℕ → Type 0
IsStep [] = Unit {0}
IsStep (x ∷ xs) = (nat_eq 47 x ≡ false) × IsStep xs

not_slash : (x : ℕ) → x ≢ 47 → nat_eq 47 x ≡ false
not_slash x diff = grind (arith, nat_tests)

pub step_of : (xs : List ℕ) → ((i : ℕ) → i < length xs → get_or xs i 0 ≢ 47) → IsStep xs
step_of [] h = tt
step_of (x ∷ xs) h = (not_slash x (h 0 (omega arith)), step_of xs (λ i lt. h (suc i) (omega (arith, lt))))

pub step_after : (xs : List ℕ) (k : ℕ) → ((i : ℕ) → k < i → i < length xs → get_or xs i 0 ≢ 47) → IsStep (drop (suc k) xs)
step_after [] k h = tt
step_after (x ∷ xs) zero h = step_of xs (λ i lt. h (suc i) (omega arith) (omega (arith, lt)))
step_after (x ∷ xs) (suc k) h = step_after xs k (λ i low high. h (suc i) (omega (arith, low)) (omega (arith, high)))

pub cut_at : (xs : List ℕ) (k : ℕ) → k < length xs → get_or xs k 0 ≡ 47 → xs ≡ take k xs ++ 47 ∷ drop (suc k) xs
cut_at [] k lt is = absurd (omega (arith, lt))
cut_at (x ∷ xs) zero lt is = ap (λ y. y ∷ xs) is
cut_at (x ∷ xs) (suc k) lt is = ap (λ ys. x ∷ ys) (cut_at xs k (omega (arith, lt)) is)

and_false : (a : Bool) → (a && false) ≡ false
and_false true = refl
and_false false = refl

-- a step begins with no pointer and `/`
step_no : (step p : List ℕ) → IsStep step → starts_with nat_eq step (p ++ 47 ∷ []) ≡ false
step_no [] [] h = refl
step_no [] (x ∷ p) h = refl
step_no (y ∷ ys) [] h = ap (λ b. b && starts_with nat_eq ys []) h.0
step_no (y ∷ ys) (x ∷ p) h = ap (λ b. nat_eq x y && b) (step_no ys p h.1) ∙ and_false (nat_eq x y)

spread : (a b c : Bool) → (a && (b || c)) ≡ ((a && b) || (a && c))
spread true b c = refl
spread false b c = refl

eq_turn : (x y : ℕ) → nat_eq x y ≡ nat_eq y x
eq_turn x y = grind (arith, nat_tests)

pub last_step : (front step p : List ℕ) → IsStep step → starts_with nat_eq (front ++ 47 ∷ step) (p ++ 47 ∷ []) ≡ is_front p front
last_step [] step [] h = refl
last_step [] step (x ∷ p) h = ap (λ b. nat_eq x 47 && b) (step_no step p h) ∙ and_false (nat_eq x 47)
last_step (y ∷ ys) step [] h = refl
last_step (y ∷ ys) step (x ∷ p) h =
    ap (λ b. nat_eq x y && b) (last_step ys step p h)
    ∙ (spread (nat_eq x y) (bytes_eq ys p) (starts_with nat_eq ys (p ++ 47 ∷ []))
    ∙ ap (λ b. (b && bytes_eq ys p) || (nat_eq x y && starts_with nat_eq ys (p ++ 47 ∷ []))) (eq_turn x y))

turn : (a b o : Bool) → (b || (a || o)) ≡ ((a || b) || o)
turn true true o = refl
turn true false o = refl
turn false true o = refl
turn false false o = refl

-- what a pointer adds, and then what its front adds
pub with_front : (pointer front step p : List ℕ) (old now new : Bool) → pointer ≡ front ++ 47 ∷ step → IsStep step → now ≡ (bytes_eq pointer p || old)
    → new ≡ (is_front p front || now) → new ≡ (is_front p pointer || old)
with_front pointer front step p old now new is h first rest =
    rest
    ∙ (ap (λ b. is_front p front || b) first
    ∙ (turn (bytes_eq pointer p) (is_front p front) old
    ∙ ap (λ b. (bytes_eq pointer p || b) || old) (sym (ap (λ q. starts_with nat_eq q (p ++ 47 ∷ [])) is ∙ last_step front step p h))))

-- a pointer of one step has no other front
pub sole_front : (pointer p : List ℕ) (old new : Bool) → IsStep pointer → new ≡ (bytes_eq pointer p || old) → new ≡ (is_front p pointer || old)
sole_front pointer p old new h first = first ∙ ap (λ b. b || old) (or_none (bytes_eq pointer p)) where
  or_none : (a : Bool) → a ≡ (a || starts_with nat_eq pointer (p ++ 47 ∷ []))
  or_none true = refl
  or_none false = sym (step_no pointer p h)
