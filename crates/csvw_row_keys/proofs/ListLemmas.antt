-- Results and lists.
use Rattle.std.proofs.Common.{◌≡◌, ◌∙◌, ◌+◌, ◌<◌, ◌≤◌, ◌/◌, ◌%◌, ◌^◌, ℕ, List, [], ◌∷◌, ◌++◌, sym, ap, arith, decimal, flat_map, get_or, length, map, take, if◌then◌else◌, is_ok, Result, Ok, Err, OnOk}
use Rattle.std.specs.Int.Digits.{digits_of}
use Rattle.std.proofs.lemmas.Fmt.{decimal_by_steps_wide}
use Rattle.std.proofs.lemmas.Int.Digits.{digits_of_step}
use Rattle.std.proofs.lemmas.Grind.{flat_map-append}
use Rattle.std.proofs.lemmas.List.{append-nil, map-append, take_more}

pub on_ok : {A E P Q : Type 0} (r : Result A E) → OnOk r P → (P → Q) → OnOk r Q
on_ok (Ok a) h f = f h
on_ok (Err e) h f = tt

pub on_more : {E : Type 0} {A : Type 0} (r : Result A E) (new old more text : List ℕ) → new ≡ (if is_ok r then old ++ more else old) → more ≡ text
    → OnOk r (new ≡ old ++ text)
on_more (Ok a) new old more text is same = is ∙ ap (λ t. old ++ t) same
on_more (Err e) new old more text is same = tt

-- the decimal digits of a number that is not 0
abbrev digits : ℕ → List ℕ
digits n = map (λ d. 48 + d) (digits_of 10 n)

one_digit : (m : ℕ) → m < 10 → 0 < m → (48 + m) ∷ [] ≡ digits m
one_digit m l a =
    let high : m / 10 ≡ 0 = omega arith in
    let low : m % 10 ≡ m = omega arith in
    sym (ap (map (λ d. 48 + d)) (digits_of_step 10 m (omega arith) a ∙ ap (λ k. digits_of 10 k ++ (m % 10 ∷ [])) high ∙ ap (λ k. k ∷ []) low))

more_digits : (m : ℕ) (ds : List ℕ) → 10 ≤ m → (0 < m / 10 → ds ≡ digits (m / 10)) → 0 < m → ds ++ ((48 + m % 10) ∷ []) ≡ digits m
more_digits m ds l h a =
    ap (λ x. x ++ ((48 + m % 10) ∷ [])) (h (omega arith))
    ∙ sym (map-append (λ d. 48 + d) (digits_of 10 (m / 10)) (m % 10 ∷ []))
    ∙ ap (map (λ d. 48 + d)) (sym (digits_of_step 10 m (omega arith) a))

pub decimal_digits : (n : ℕ) → 0 < n → n < 10 ^ 64 → decimal n ≡ map (λ d. 48 + d) (digits_of 10 n)
decimal_digits n some small = decimal_by_steps_wide (λ m ds. 0 < m → ds ≡ digits m) one_digit more_digits n small some

-- the texts of one element more
pub one_more : {X Y : Type 0} (f : X → List Y) (xs : List X) (i : ℕ) (x : X) → i < length xs → x ≡ get_or xs i x
    → flat_map f (take i xs) ++ f x ≡ flat_map f (take (i + 1) xs)
one_more f xs i x lt is =
    ap (λ t. flat_map f (take i xs) ++ t) (sym (append-nil (f x)))
    ∙ sym (flat_map-append f (take i xs) (x ∷ []))
    ∙ ap (flat_map f) (sym (take_more xs i x lt ∙ ap (λ y. take i xs ++ y ∷ []) (sym is)))
