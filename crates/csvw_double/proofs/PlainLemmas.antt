-- A number in digits alone is its own canonical text, if it has no zero too many.
use Rattle.std.proofs.Common.{◌≡◌, ◌∙◌, ℕ, ◌<◌, ◌≤◌, ◌==◌, ◌&&◌, true, false, Bool, List, [], ◌∷◌, ◌++◌, length, take, drop, Some, None}
use Rattle.std.proofs.Common.{append-nil, ap, ap₂, length-append, refl, sym, subst, arith}
use Rattle.std.proofs.Common.{◌-◌, slice_index, replicate, nat_lt, zero, suc, ◌+◌, ℤ, neg_ℤ, if◌then◌else◌, pos, ◌-ℤ◌}
use Rattle.std.specs.Float.Numeral.{scan_numeral}
use Rattle.std.specs.Str.Parse.{AllDigits}
use Rattle.csvw_double.specs.Digits.{after_zeros, before_zeros, is_empty}
use Rattle.csvw_double.specs.Doubles.{is_within}
use Rattle.csvw_double.specs.Forms.{double_form, is_plain, number_of, plain_form, scientific_form, sign_form, special_form, whole_form}
use Rattle.std.proofs.lemmas.Bool.{lt-ltb}
use Rattle.std.proofs.lemmas.Int.{ints}
use Rattle.std.proofs.lemmas.Grind.{common_steps}
use Rattle.std.proofs.lemmas.List.{length-replicate, take-append-drop, take_all}
use Rattle.csvw_double.proofs.CanonicalLemmas.{form_is, number_stays}
use Rattle.csvw_double.proofs.DigitLemmas.{after_begins, trimmed}
use Rattle.csvw_double.proofs.FormLemmas.{after_digits, joined_digits}
use Rattle.csvw_double.proofs.StayLemmas.{IsTrimmed, begins, zeros_after}

-- the end of the digits stays, if they end with one that isn't 0
last_stays : (xs ys : List ℕ) → 0 < length ys → before_zeros ys ≡ ys → before_zeros (xs ++ ys) ≡ xs ++ ys
last_stays [] ys some is = is
last_stays (c ∷ cs) ys some is = go (c == 48) (cs ++ ys) (omega (arith, length-append cs ys, some)) (last_stays cs ys some is)
  where
    go : (b : Bool) (zs : List ℕ) → 0 < length zs → before_zeros zs ≡ zs → (if b && is_empty (before_zeros zs) then [] else c ∷ before_zeros zs) ≡ c ∷ zs
    go b [] some is = absurd (omega (arith, some))
    go true (z ∷ zs) some is = rw is refl
    go false (z ∷ zs) some is = rw is refl

pub taken : (xs ys : List ℕ) → take (length xs) (xs ++ ys) ≡ xs
taken [] ys = refl
taken (x ∷ xs) ys = ap (λ (zs : List ℕ). x ∷ zs) (taken xs ys)

dropped : (xs ys : List ℕ) → drop (length xs) (xs ++ ys) ≡ ys
dropped [] ys = refl
dropped (x ∷ xs) ys = dropped xs ys

begins_same : (xs ys : List ℕ) → 0 < length xs → begins (xs ++ ys) ≡ begins xs
begins_same [] ys some = absurd (omega (arith, some))
begins_same (x ∷ xs) ys some = refl

trimmed_is : (xs ys : List ℕ) → AllDigits 10 xs → AllDigits 10 ys → 0 < length xs → begins xs ≡ false → 0 < length ys → before_zeros ys ≡ ys
    → IsTrimmed (xs ++ ys)
trimmed_is xs ys first second some begin more last = record {
  are = joined_digits xs ys first second;
  some = omega (arith, length-append xs ys, some);
  first = begins_same xs ys some ∙ begin;
  last = last_stays xs ys more last;
}

pub plain_is : (xs ys : List ℕ) → 0 < length xs → 0 < length ys → plain_form (xs ++ ys) (pos (length xs)) ≡ xs ++ (46 ∷ ys)
plain_is [] ys some more = absurd (omega (arith, some))
plain_is (x ∷ xs) ys some more =
    rw (lt-ltb (length (x ∷ xs)) (length (x ∷ xs ++ ys)) (omega (arith, length-append xs ys, more)), taken xs ys, dropped xs ys) refl

both : (form : List ℕ) → (special_form form ≡ None) × (number_of form ≡ Some form) → double_form form ≡ Some form
unfolding double_form
both form h = rw (h.0, h.1) refl

-- a number that is written in digits alone
stays : (negative : Bool) (ds xs : List ℕ) (point : ℤ) → IsTrimmed ds → is_plain point ≡ true → is_within (point -ℤ pos 1) ≡ true
    → plain_form ds point ≡ xs → double_form (sign_form negative ++ xs) ≡ Some (sign_form negative ++ xs)
stays negative ds xs point t plain within is =
    let form = form_is negative ds point t.some
    ∙ ap (λ b. sign_form negative ++ (if b then plain_form ds point else scientific_form ds (point -ℤ pos 1))) plain
    ∙ ap (λ (zs : List ℕ). sign_form negative ++ zs) is in
    subst (λ form. double_form form ≡ Some form) form (both _ (number_stays negative ds point t within))

-- a number from 1 on
from_one : (negative : Bool) (ds xs : List ℕ) (n : ℕ) → IsTrimmed ds → 1 ≤ n → n ≤ 21 → plain_form ds (pos n) ≡ xs
    → double_form (sign_form negative ++ xs) ≡ Some (sign_form negative ++ xs)
from_one negative ds xs n t some near is =
    stays negative ds xs (pos n) t (grind (arith, ints, common_steps, near)) (grind (arith, ints, common_steps, near)) is

pointed : (negative : Bool) (xs ys : List ℕ) → AllDigits 10 xs → AllDigits 10 ys → 1 ≤ length xs → begins xs ≡ false → length xs ≤ 21
    → 1 ≤ length ys → before_zeros ys ≡ ys
    → double_form (sign_form negative ++ (xs ++ (46 ∷ ys))) ≡ Some (sign_form negative ++ (xs ++ (46 ∷ ys)))
pointed negative xs ys first second some begin near more last =
    from_one negative (xs ++ ys) (xs ++ (46 ∷ ys)) (length xs)
    (trimmed_is xs ys first second (omega (arith, some)) begin (omega (arith, more)) last) some near
    (plain_is xs ys (omega (arith, some)) (omega (arith, more)))

-- digits with so many zeros behind them
pub record IsPadded (ds xs : List ℕ) : Type 0 where
  pub count : ℕ
  pub is : ds ++ replicate count 48 ≡ xs

pub padded : (xs : List ℕ) → IsPadded (before_zeros xs) xs
padded [] = record { count = 0; is = refl }
padded (c ∷ cs) = go (c == 48) (before_zeros cs) refl (padded cs)
  where
    go : (b : Bool) (zs : List ℕ) → (c == 48) ≡ b → IsPadded zs cs → IsPadded (if b && is_empty zs then [] else c ∷ zs) (c ∷ cs)
    go true [] is p =
        let e : 48 ≡ c = grind (arith, common_steps, is) in
        record { count = suc p.count; is = ap₂ (λ (x : ℕ) (xs : List ℕ). x ∷ xs) e p.is }
    go true (z ∷ zs) is p = record { count = p.count; is = ap (λ (xs : List ℕ). c ∷ xs) p.is }
    go false zs is p = record { count = p.count; is = ap (λ (xs : List ℕ). c ∷ xs) p.is }

padded_form : (ds xs : List ℕ) → IsPadded ds xs → whole_form ds (length xs) ≡ xs
padded_form ds xs p =
    let long : length xs ≡ length ds + p.count = ap length (sym p.is) ∙ length-append ds (replicate p.count 48)
    ∙ ap (λ m. length ds + m) (length-replicate {A = ℕ} p.count 48) in
    let above : nat_lt (length xs) (length ds) ≡ false = grind (arith, common_steps, long) in
    let count : length xs - length ds ≡ p.count = omega (arith, long) in
    rw (above, count) p.is

pub whole_is : (ds xs : List ℕ) → 1 ≤ length xs → IsPadded ds xs → plain_form ds (pos (length xs)) ≡ xs
whole_is ds [] some p = absurd (omega (arith, some))
whole_is ds (x ∷ xs) some p = padded_form ds (x ∷ xs) p

pub some_before : (xs : List ℕ) → 1 ≤ length xs → begins xs ≡ false → 0 < length (before_zeros xs)
some_before [] some first = absurd (omega (arith, some))
some_before (c ∷ cs) some first = rw first (omega arith)

whole : (negative : Bool) (xs : List ℕ) → AllDigits 10 xs → 1 ≤ length xs → after_zeros xs ≡ xs → length xs ≤ 21
    → double_form (sign_form negative ++ xs) ≡ Some (sign_form negative ++ xs)
whole negative xs are some first near =
    let begin : begins xs ≡ false = subst (λ zs. begins zs ≡ false) first (after_begins xs) in
    let t : IsTrimmed (before_zeros xs) = subst (λ zs. IsTrimmed (before_zeros zs)) first (trimmed xs are
    (subst (λ zs. 0 < length (before_zeros zs)) (sym first) (some_before xs some begin))) in
    from_one negative (before_zeros xs) xs (length xs) t some near (whole_is (before_zeros xs) xs some (padded xs))

-- digits behind so many zeros
record IsBehind (ds xs : List ℕ) : Type 0 where
  count : ℕ
  is : replicate count 48 ++ ds ≡ xs

zeros_first : (xs : List ℕ) → IsBehind (after_zeros xs) xs
zeros_first [] = record { count = 0; is = refl }
zeros_first (c ∷ cs) = go (c == 48) refl (zeros_first cs)
  where
    go : (b : Bool) → (c == 48) ≡ b → IsBehind (after_zeros cs) cs → IsBehind (if b then after_zeros cs else c ∷ cs) (c ∷ cs)
    go true is p =
        let e : 48 ≡ c = grind (arith, common_steps, is) in
        record { count = suc p.count; is = ap₂ (λ (x : ℕ) (xs : List ℕ). x ∷ xs) e p.is }
    go false is p = record { count = 0; is = refl }

last_behind : (c : ℕ) (cs : List ℕ) → before_zeros (c ∷ cs) ≡ c ∷ cs → before_zeros cs ≡ cs
last_behind c cs is = go (c == 48 && is_empty (before_zeros cs)) is
  where
    go : (b : Bool) → (if b then [] else c ∷ before_zeros cs) ≡ c ∷ cs → before_zeros cs ≡ cs
    go true e = cc
    go false e = ap (λ (xs : List ℕ). drop 1 xs) e

last_after : (xs : List ℕ) → before_zeros xs ≡ xs → before_zeros (after_zeros xs) ≡ after_zeros xs
last_after [] last = refl
last_after (c ∷ cs) last = go (c == 48) (λ is. last_after cs is)
  where
    go : (b : Bool) → (before_zeros cs ≡ cs → before_zeros (after_zeros cs) ≡ after_zeros cs)
        → before_zeros (if b then after_zeros cs else c ∷ cs) ≡ (if b then after_zeros cs else c ∷ cs)
    go true rest = rest (last_behind c cs last)
    go false rest = last

some_after : (xs : List ℕ) → 1 ≤ length xs → before_zeros xs ≡ xs → 0 < length (after_zeros xs)
some_after xs some last = go (after_zeros xs) (zeros_first xs)
  where
    go : (ds : List ℕ) → IsBehind ds xs → 0 < length ds
    go [] p =
        let none : [] ≡ xs = sym (zeros_after p.count []) ∙ ap before_zeros (sym (append-nil (replicate p.count 48)) ∙ p.is) ∙ last in
        absurd (omega (arith, some, ap length none))
    go (d ∷ ds) p = omega arith

below_form : (ds : List ℕ) (k : ℕ) → plain_form ds (neg_ℤ (pos k)) ≡ 48 ∷ 46 ∷ (replicate k 48 ++ ds)
below_form ds zero = refl
below_form ds (suc k) = refl

-- a number below 1
fraction : (negative : Bool) (ys : List ℕ) → AllDigits 10 ys → 1 ≤ length ys → before_zeros ys ≡ ys → length ys ≤ length (after_zeros ys) + 5
    → double_form (sign_form negative ++ (48 ∷ 46 ∷ ys)) ≡ Some (sign_form negative ++ (48 ∷ 46 ∷ ys))
fraction negative ys are some last near =
    let t : IsTrimmed (after_zeros ys) = record {
      are = after_digits ys are;
      some = some_after ys some last;
      first = after_begins ys;
      last = last_after ys last;
    } in
    let p = zeros_first ys in
    let long : p.count + length (after_zeros ys) ≡ length ys = ap (λ m. m + length (after_zeros ys)) (sym (length-replicate {A = ℕ} p.count 48))
    ∙ sym (length-append (replicate p.count 48) (after_zeros ys)) ∙ ap length p.is in
    let small : p.count ≤ 5 = omega (arith, near, long) in
    stays negative (after_zeros ys) (48 ∷ 46 ∷ ys) (neg_ℤ (pos p.count)) t (grind (arith, ints, common_steps, small))
    (grind (arith, ints, common_steps, small)) (below_form (after_zeros ys) p.count ∙ ap (λ (zs : List ℕ). 48 ∷ 46 ∷ zs) p.is)

nothing : double_form (48 ∷ []) ≡ Some (48 ∷ [])
unfolding scan_numeral
nothing = both (48 ∷ []) (refl, refl)

-- the text of 0
pub zero_alone : (text : List ℕ) → length text ≡ 1 → slice_index text 0 ≡ 48 → double_form text ≡ Some text
zero_alone [] long is = absurd (omega (arith, long))
zero_alone (c ∷ []) long is = subst (λ d. double_form (d ∷ []) ≡ Some (d ∷ [])) (sym is) nothing
zero_alone (c ∷ d ∷ ds) long is = absurd (omega (arith, long))

-- a point and what is behind it
pub behind : (bs : List ℕ) → 1 ≤ length bs → slice_index bs 0 ≡ 46 → bs ≡ 46 ∷ take (length bs - 1) (drop 1 bs)
behind [] some is = absurd (omega (arith, some))
behind (c ∷ cs) some is =
    let all : take (length (c ∷ cs) - 1) cs ≡ cs = take_all (length (c ∷ cs) - 1) cs (omega arith) in
    ap₂ (λ (x : ℕ) (xs : List ℕ). x ∷ xs) is (sym all)

-- a text that is cut before its point
pub cut : (negative : Bool) (text xs bs : List ℕ) (n : ℕ) → xs ≡ take n text → bs ≡ drop n text → AllDigits 10 (take n text) → 1 ≤ length xs → length xs ≤ 21
    → after_zeros xs ≡ xs → 1 ≤ length bs → slice_index bs 0 ≡ 46 → AllDigits 10 (take (length bs - 1) (drop 1 bs))
    → 1 ≤ length (take (length bs - 1) (drop 1 bs)) → before_zeros (take (length bs - 1) (drop 1 bs)) ≡ take (length bs - 1) (drop 1 bs)
    → double_form (sign_form negative ++ text) ≡ Some (sign_form negative ++ text)
cut negative text xs bs n front back are some near first long point digits more last =
    let ys = take (length bs - 1) (drop 1 bs) in
    let is : xs ++ (46 ∷ ys) ≡ text =
    ap₂ (λ (us vs : List ℕ). us ++ vs) front (sym (behind bs long point) ∙ back) ∙ take-append-drop n text in
    subst (λ u. double_form (sign_form negative ++ u) ≡ Some (sign_form negative ++ u)) is (pointed negative xs ys (subst (AllDigits 10) (sym front) are)
    digits some (subst (λ zs. begins zs ≡ false) first (after_begins xs)) near more last)

-- a text of digits alone
pub uncut : (negative : Bool) (text xs bs : List ℕ) (n : ℕ) → xs ≡ take n text → bs ≡ drop n text → AllDigits 10 (take n text) → 1 ≤ length xs
    → length xs ≤ 21 → after_zeros xs ≡ xs → length bs < 1 → double_form (sign_form negative ++ text) ≡ Some (sign_form negative ++ text)
uncut negative text xs bs n front back are some near first none =
    let is : xs ≡ text = sym (append-nil xs) ∙ ap₂ (λ (us vs : List ℕ). us ++ vs) front (sym (empty bs none) ∙ back) ∙ take-append-drop n text in
    subst (λ u. double_form (sign_form negative ++ u) ≡ Some (sign_form negative ++ u)) is (whole negative xs (subst (AllDigits 10) (sym front) are)
    some first near)
  where
    empty : (bs : List ℕ) → length bs < 1 → bs ≡ []
    empty [] none = refl
    empty (b ∷ bs) none = absurd (omega (arith, none))

-- a 0, a point and what is behind them
below_is : (text : List ℕ) → 2 ≤ length text → slice_index text 0 ≡ 48 → slice_index text 1 ≡ 46
    → 48 ∷ 46 ∷ take (length text - 2) (drop 2 text) ≡ text
below_is [] long first second = absurd (omega (arith, long))
below_is (c ∷ []) long first second = absurd (omega (arith, long))
below_is (c ∷ d ∷ ds) long first second =
    let all : take (length (c ∷ d ∷ ds) - 2) ds ≡ ds = take_all (length (c ∷ d ∷ ds) - 2) ds (omega arith) in
    ap₂ (λ (x : ℕ) (xs : List ℕ). x ∷ xs) (sym first) (ap₂ (λ (x : ℕ) (xs : List ℕ). x ∷ xs) (sym second) all)

pub below_one : (negative : Bool) (text : List ℕ) → 2 ≤ length text → slice_index text 0 ≡ 48 → slice_index text 1 ≡ 46
    → length (take (length text - 2) (drop 2 text)) ≤ length (after_zeros (take (length text - 2) (drop 2 text))) + 5
    → AllDigits 10 (take (length text - 2) (drop 2 text)) → 1 ≤ length (take (length text - 2) (drop 2 text))
    → before_zeros (take (length text - 2) (drop 2 text)) ≡ take (length text - 2) (drop 2 text)
    → double_form (sign_form negative ++ text) ≡ Some (sign_form negative ++ text)
below_one negative text long first second near are some last =
    subst (λ u. double_form (sign_form negative ++ u) ≡ Some (sign_form negative ++ u)) (below_is text long first second)
    (fraction negative (take (length text - 2) (drop 2 text)) are some last near)
