-- The numbers that digits write: without the zeros around them, and which digits write one number.
use Rattle.std.proofs.Common.{◌≡◌, ◌∙◌, ℕ, zero, suc, ◌+◌, ◌-◌, ◌*◌, ◌^◌, ◌%◌, ◌<◌, ◌≤◌, ◌==◌, ◌&&◌, true, false, Bool, List, [], ◌∷◌, ◌++◌, length, replicate}
use Rattle.std.proofs.Common.{append-nil, append_assoc, length-append, arith, ap, ap₂, refl, sym, subst, if◌then◌else◌}
use Rattle.std.specs.Char.{digit_value}
use Rattle.std.specs.Str.Parse.{AllDigits, digits_value, digits_value_after}
use Rattle.std.proofs.lemmas.Grind.{common_steps}
use Rattle.std.proofs.lemmas.Int.Digits.{digits_value-lt, digits_value_push}
use Rattle.std.proofs.lemmas.Nat.{same_from_place}
use Rattle.std.proofs.lemmas.Str.Parse.{digit_from_value}
use Rattle.std.proofs.Math.Nat.{mul_assoc, mul_left_comm, pow-le-pow_right, pow-succ'}
use Rattle.csvw_double.specs.Digits.{after_zeros, before_zeros, is_empty}
use Rattle.csvw_double.proofs.StayLemmas.{IsTrimmed}
use Rattle.csvw_double.proofs.TrimLemmas.{zero_last}

-- the number of a front stands before that of the rest
spread : (n d p v : ℕ) → (n * 10 + d) * p + v ≡ n * (10 * p) + ((0 * 10 + d) * p + v)
spread n d p v = grind (arith, common_steps)

after : (n : ℕ) (cs : List ℕ) → digits_value_after 10 n cs ≡ n * 10 ^ length cs + digits_value 10 cs
after n [] = omega arith
after n (c ∷ cs) =
    let p = 10 ^ length cs in
    let first = after (n * 10 + digit_value c) cs in
    let second = after (0 * 10 + digit_value c) cs in
    let power : 10 ^ length (c ∷ cs) ≡ 10 * p = pow-succ' 10 (length cs) in
    first ∙ spread n (digit_value c) p (digits_value 10 cs) ∙ ap₂ (λ x y. n * x + y) (sym power) (sym second)

pub front_is : (c : ℕ) (cs : List ℕ) → digits_value 10 (c ∷ cs) ≡ digit_value c * 10 ^ length cs + digits_value 10 cs
front_is c cs =
    let e : 0 * 10 + digit_value c ≡ digit_value c = omega arith in
    ap (λ n. digits_value_after 10 n cs) e ∙ after (digit_value c) cs

-- zeros before digits change nothing, and zeros after them multiply by ten
pub after_value : (ds : List ℕ) → digits_value 10 (after_zeros ds) ≡ digits_value 10 ds
after_value [] = refl
after_value (c ∷ cs) = go (c == 48) refl (after_value cs)
  where
    go : (b : Bool) → (c == 48) ≡ b → digits_value 10 (after_zeros cs) ≡ digits_value 10 cs
        → digits_value 10 (if b then after_zeros cs else c ∷ cs) ≡ digits_value 10 (c ∷ cs)
    go true is rest =
        let e : c ≡ 48 = grind (arith, common_steps, is) in
        rest ∙ subst (λ d. digits_value 10 cs ≡ digits_value 10 (d ∷ cs)) (sym e) refl
    go false is rest = refl

zeros_value : (k : ℕ) (ds : List ℕ) → digits_value 10 (ds ++ replicate k 48) ≡ digits_value 10 ds * 10 ^ k
zeros_value zero ds =
    let e : digits_value 10 ds ≡ digits_value 10 ds * 10 ^ 0 = omega arith in
    ap (digits_value 10) (append-nil ds) ∙ e
zeros_value (suc k) ds =
    let joined : digits_value 10 (ds ++ 48 ∷ replicate k 48) ≡ digits_value 10 ((ds ++ 48 ∷ []) ++ replicate k 48)
    = ap (digits_value 10) (sym (append_assoc ds (48 ∷ []) (replicate k 48))) in
    let pushed : digits_value 10 (ds ++ 48 ∷ []) ≡ digits_value 10 ds * 10 = digits_value_push 10 ds 48 ∙ (omega arith) in
    joined ∙ zeros_value k (ds ++ 48 ∷ []) ∙ ap (λ n. n * 10 ^ k) pushed ∙ shifted (digits_value 10 ds) (10 ^ k) (10 ^ suc k) (pow-succ' 10 k)
  where
    shifted : (v p q : ℕ) → q ≡ 10 * p → v * 10 * p ≡ v * q
    shifted v p q is = mul_assoc v 10 p ∙ ap (λ x. v * x) (sym is)

pub before_length : (ds : List ℕ) → length (before_zeros ds) ≤ length ds
before_length [] = omega arith
before_length (c ∷ cs) = go (c == 48 && is_empty (before_zeros cs)) (before_length cs)
  where
    go : (b : Bool) → length (before_zeros cs) ≤ length cs → length (if b then [] else c ∷ before_zeros cs) ≤ length (c ∷ cs)
    go true less = omega (arith, less)
    go false less = omega (arith, less)

-- digits are those up to the last that isn't 0, and zeros
before_split : (ds : List ℕ) → ds ≡ before_zeros ds ++ replicate (length ds - length (before_zeros ds)) 48
before_split [] = refl
before_split (c ∷ cs) = go (c == 48) (before_zeros cs) refl (before_split cs) (before_length cs)
  where
    some : (n : ℕ) → suc n - 0 ≡ suc (n - 0)
    some n = omega arith

    longer : (m n : ℕ) → m ≤ n → suc n - suc m ≡ n - m
    longer m n less = omega (arith, less)

    go : (b : Bool) (rest : List ℕ) → (c == 48) ≡ b → cs ≡ rest ++ replicate (length cs - length rest) 48 → length rest ≤ length cs
        → c ∷ cs ≡ (if b && is_empty rest then [] else c ∷ rest) ++ replicate (length (c ∷ cs) - length (if b && is_empty rest then [] else c ∷ rest)) 48
    go true [] is split less =
        let e : c ≡ 48 = grind (arith, common_steps, is) in
        ap₂ (λ x (xs : List ℕ). x ∷ xs) e split ∙ ap (λ n. replicate {A = ℕ} n 48) (sym (some (length cs)))
    go true (d ∷ rest) is split less = ap (λ (xs : List ℕ). c ∷ xs) split
        ∙ ap (λ n. c ∷ d ∷ rest ++ replicate n 48) (sym (longer (length (d ∷ rest)) (length cs) less))
    go false rest is split less = ap (λ (xs : List ℕ). c ∷ xs) split ∙ ap (λ n. c ∷ rest ++ replicate n 48) (sym (longer (length rest) (length cs) less))

pub before_value : (ds : List ℕ) → digits_value 10 ds ≡ digits_value 10 (before_zeros ds) * 10 ^ (length ds - length (before_zeros ds))
before_value ds = ap (digits_value 10) (before_split ds) ∙ zeros_value (length ds - length (before_zeros ds)) (before_zeros ds)

-- a list is a front and a last element
record Ends (ds : List ℕ) : Type 0 where
  front : List ℕ
  last : ℕ
  is : ds ≡ front ++ last ∷ []

ends : (d : ℕ) (ds : List ℕ) → Ends (d ∷ ds)
ends d [] = record { front = []; last = d; is = refl }
ends d (e ∷ ds) = let rest = ends e ds in record { front = d ∷ rest.front; last = rest.last; is = ap (λ (xs : List ℕ). d ∷ xs) rest.is }

front_digits : (xs : List ℕ) (c : ℕ) → AllDigits 10 (xs ++ c ∷ []) → digit_value c < 10
front_digits [] c are = are.0
front_digits (x ∷ xs) c are = front_digits xs c are.1

-- a digit other than 0 has another value than 0
pub not_zero : (c : ℕ) → digit_value c < 10 → (c == 48) ≡ false → 0 < digit_value c
not_zero c small is = let range = digit_from_value c small in grind (arith, common_steps, is, range.0, range.1)

-- what ends with another digit than 0 is no multiple of ten
pub last_value : (ds : List ℕ) → IsTrimmed ds → 0 < digits_value 10 ds % 10
last_value [] t = absurd (omega (arith, t.some))
last_value (d ∷ ds) t =
    let e = ends d ds in
    let small = front_digits e.front e.last (subst (AllDigits 10) e.is t.are) in
    let value : digits_value 10 (d ∷ ds) ≡ digits_value 10 e.front * 10 + digit_value e.last = ap (digits_value 10) e.is
    ∙ digits_value_push 10 e.front e.last in
    by_last (e.last == 48) e.front e.last (d ∷ ds) refl e.is t.last small value
  where
    by_last : (b : Bool) (front : List ℕ) (c : ℕ) (xs : List ℕ) → (c == 48) ≡ b → xs ≡ front ++ c ∷ [] → before_zeros xs ≡ xs → digit_value c < 10
        → digits_value 10 xs ≡ digits_value 10 front * 10 + digit_value c → 0 < digits_value 10 xs % 10
    by_last true front c xs is split stays small value =
        let e : c ≡ 48 = grind (arith, common_steps, is) in
        let shorter : before_zeros xs ≡ before_zeros front = ap before_zeros (split ∙ ap (λ (x : ℕ). front ++ x ∷ []) e) ∙ zero_last front in
        let same : xs ≡ before_zeros front = sym stays ∙ shorter in
        let long : length xs ≡ length (before_zeros front) = ap length same in
        let longer : length xs ≡ length front + 1 = ap length split ∙ length-append front (c ∷ []) in
        absurd (omega (arith, long, longer, before_length front))
    by_last false front c xs is split stays small value =
        let some = not_zero c small is in
        grind (arith, common_steps, value, some, small)

-- digits of one length that write one number are the same
same_digit : (x y : ℕ) → digit_value x < 10 → digit_value y < 10 → digit_value x ≡ digit_value y → x ≡ y
same_digit x y small other same =
    let one = digit_from_value x small in
    let two = digit_from_value y other in
    grind (arith, common_steps, same, one.0, one.1, two.0, two.1)

same_places : (xs ys : List ℕ) → AllDigits 10 xs → AllDigits 10 ys → length xs ≡ length ys → digits_value 10 xs ≡ digits_value 10 ys → xs ≡ ys
same_places [] [] are others long same = refl
same_places [] (y ∷ ys) are others long same = absurd (omega (arith, long))
same_places (x ∷ xs) [] are others long same = absurd (omega (arith, long))
same_places (x ∷ xs) (y ∷ ys) are others long same =
    let shorter : length xs ≡ length ys = omega (arith, long) in
    let value : digit_value x * 10 ^ length xs + digits_value 10 xs ≡ digit_value y * 10 ^ length xs + digits_value 10 ys
    = sym (front_is x xs) ∙ same ∙ front_is y ys ∙ ap (λ n. digit_value y * 10 ^ n + digits_value 10 ys) (sym shorter) in
    let below : digits_value 10 ys < 10 ^ length xs = subst (λ n. digits_value 10 ys < 10 ^ n) (sym shorter) (digits_value-lt 10 ys others.1) in
    let parts = same_from_place (digit_value x) (digits_value 10 xs) (digit_value y) (digits_value 10 ys) (10 ^ length xs)
    (digits_value-lt 10 xs are.1) below value in
    ap₂ (λ z (zs : List ℕ). z ∷ zs) (same_digit x y are.0 others.0 parts.0) (same_places xs ys are.1 others.1 shorter parts.1)

pub at_least : (d p v : ℕ) → 0 < d → p ≤ d * p + v
at_least (suc k) p v some = grind (arith, common_steps)
at_least zero p v some = absurd (omega (arith, some))

-- digits that don't begin with 0 write at least this number
first_value : (d : ℕ) (ds : List ℕ) → IsTrimmed (d ∷ ds) → 10 ^ length ds ≤ digits_value 10 (d ∷ ds)
first_value d ds t =
    subst (λ n. 10 ^ length ds ≤ n) (sym (front_is d ds)) (at_least (digit_value d) (10 ^ length ds) (digits_value 10 ds) (not_zero d t.are.0 t.first))

not_shorter : (xs ys : List ℕ) → IsTrimmed xs → IsTrimmed ys → digits_value 10 xs ≡ digits_value 10 ys → length xs < length ys → ⊥
not_shorter xs [] t u same less = omega (arith, less)
not_shorter xs (y ∷ ys) t u same less =
    let below = digits_value-lt 10 xs t.are in
    let longer : length xs ≤ length ys = omega (arith, less) in
    let ten : 0 < 10 = omega arith in
    let most : 10 ^ length xs ≤ 10 ^ length ys = pow-le-pow_right ten longer in
    let least = first_value y ys u in
    omega (arith, below, most, least, same)

same_digits : (xs ys : List ℕ) → IsTrimmed xs → IsTrimmed ys → digits_value 10 xs ≡ digits_value 10 ys → xs ≡ ys
same_digits xs ys t u same = same_places xs ys t.are u.are long same
  where
    long : length xs ≡ length ys
    long = grind (arith, not_shorter xs ys t u same, not_shorter ys xs u t (sym same))

tenfold : (x p q : ℕ) → q ≡ 10 * p → x * q ≡ 10 * (x * p)
tenfold x p q is = ap (λ y. x * y) is ∙ mul_left_comm x 10 p

-- numbers that are no multiples of ten are equal with the same zeros behind them alone
same_zeros : (x y m n : ℕ) → 0 < x % 10 → 0 < y % 10 → x * 10 ^ m ≡ y * 10 ^ n → (x ≡ y) × (m ≡ n)
same_zeros x y zero zero some other same = (omega (arith, same), refl)
same_zeros x y zero (suc n) some other same =
    let e = tenfold y (10 ^ n) (10 ^ suc n) (pow-succ' 10 n) in
    absurd (omega (arith, same, e, some))
same_zeros x y (suc m) zero some other same =
    let e = tenfold x (10 ^ m) (10 ^ suc m) (pow-succ' 10 m) in
    absurd (omega (arith, same, e, other))
same_zeros x y (suc m) (suc n) some other same =
    let e = tenfold x (10 ^ m) (10 ^ suc m) (pow-succ' 10 m) in
    let f = tenfold y (10 ^ n) (10 ^ suc n) (pow-succ' 10 n) in
    let less : x * 10 ^ m ≡ y * 10 ^ n = omega (arith, same, e, f) in
    let rest = same_zeros x y m n some other less in
    (rest.0, ap suc rest.1)

pub record IsSame (xs ys : List ℕ) (m n : ℕ) : Type 0 where
  pub digits : xs ≡ ys
  pub zeros : m ≡ n

pub same_number : (xs ys : List ℕ) (m n : ℕ) → IsTrimmed xs → IsTrimmed ys → digits_value 10 xs * 10 ^ m ≡ digits_value 10 ys * 10 ^ n → IsSame xs ys m n
same_number xs ys m n t u same =
    let parts = same_zeros (digits_value 10 xs) (digits_value 10 ys) m n (last_value xs t) (last_value ys u) same in
    record { digits = same_digits xs ys t u parts.0; zeros = parts.1 }
