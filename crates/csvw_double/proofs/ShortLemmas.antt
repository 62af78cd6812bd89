-- A number in digits alone, with zeros at its end: its canonical text is its front.
use Rattle.std.proofs.Common.{◌≡◌, ◌∙◌, ℕ, ◌<◌, ◌≤◌, ◌==◌, ◌&&◌, ◌^◌, true, false, Bool, List, [], ◌∷◌, ◌++◌, length, take, drop}
use Rattle.std.proofs.Common.{◌+◌, ◌-◌, slice_index, replicate, Some, None}
use Rattle.std.proofs.Common.{append-nil, ap, ap₂, append_assoc, length-append, refl, sym, subst, arith, rules, if◌then◌else◌, pos, ◌-ℤ◌}
use Rattle.std.specs.Float.Numeral.{IsWellFormed, has_digits, scan_numeral, text_of}
use Rattle.std.specs.Str.Parse.{AllDigits, digits_value}
use Rattle.std.proofs.lemmas.Float.Parse.{scan_numeral-text_of}
use Rattle.std.proofs.lemmas.Grind.{common_steps}
use Rattle.std.proofs.lemmas.Int.{ints}
use Rattle.csvw_double.specs.Digits.{after_zeros, before_zeros, is_empty}
use Rattle.csvw_double.specs.Doubles.{point_of}
use Rattle.csvw_double.specs.Forms.{double_form, is_plain, number_form, number_of, plain_form, scientific_form, sign_form, special_form}
use Rattle.csvw_double.proofs.CanonicalLemmas.{chosen, form_is, headed, signed}
use Rattle.std.proofs.lemmas.List.{take-append-drop}
use Rattle.csvw_double.proofs.DigitLemmas.{after_begins}
use Rattle.csvw_double.proofs.PlainLemmas.{behind, padded, taken, plain_is, some_before, whole_is}
use Rattle.csvw_double.proofs.StayLemmas.{begins, front_stays, plain_parts}

-- zeros at the end of the second digits, of which some are left
before_joined : (xs ys : List ℕ) → 0 < length (before_zeros ys) → before_zeros (xs ++ ys) ≡ xs ++ before_zeros ys
before_joined [] ys some = refl
before_joined (c ∷ cs) ys some =
    ap (λ (zs : List ℕ). if c == 48 && is_empty zs then [] else c ∷ zs) (before_joined cs ys some)
    ∙ go (c == 48) (cs ++ before_zeros ys) (omega (arith, length-append cs (before_zeros ys), some))
  where
    go : (b : Bool) (zs : List ℕ) → 0 < length zs → (if b && is_empty zs then [] else c ∷ zs) ≡ c ∷ zs
    go b [] some = absurd (omega (arith, some))
    go true (z ∷ zs) some = refl
    go false (z ∷ zs) some = refl

-- the second digits are zeros
before_gone : (xs ys : List ℕ) → before_zeros ys ≡ [] → before_zeros (xs ++ ys) ≡ before_zeros xs
before_gone [] ys none = none
before_gone (c ∷ cs) ys none = ap (λ (zs : List ℕ). if c == 48 && is_empty zs then [] else c ∷ zs) (before_gone cs ys none)

both : (text form : List ℕ) → special_form text ≡ None → number_of text ≡ Some form → double_form text ≡ Some form
unfolding double_form
both text form special number = rw (special, number) refl

read : (negative : Bool) (xs ys : List ℕ) → AllDigits 10 xs → AllDigits 10 ys → 1 ≤ length xs → length xs ≤ 21 → begins xs ≡ false
    → double_form (sign_form negative ++ (xs ++ (46 ∷ ys))) ≡ Some (number_form negative (before_zeros (xs ++ ys)) (pos (length xs)))
read negative xs ys first second some near begin =
    let u = xs ++ (46 ∷ ys) in
    let p = plain_parts xs true ys in
    let formed : IsWellFormed p = record {
      whole_digits = first;
      fraction_digits = second;
      exponent_digits = search rules;
      no_point = λ e. cc;
      no_exponent = λ e. refl;
      len_is = refl;
    } in
    let is : u ≡ text_of p = ap (λ (zs : List ℕ). xs ++ zs) (sym (append-nil (46 ∷ ys))) in
    let s = signed negative u (headed xs (46 ∷ ys) first (omega (arith, some))) in
    let stay = front_stays xs ys (omega (arith, some)) begin in
    let has : has_digits p ≡ true = grind (arith, common_steps, some) in
    let small : digits_value 10 [] < 10 ^ 18 = omega arith in
    let place : point_of p ≡ pos (length xs) = rw stay (omega (arith, ints, length-append xs ys)) in
    both (sign_form negative ++ u) _ s.special (chosen (sign_form negative ++ u) u (before_zeros (xs ++ ys)) p negative (pos (length xs)) s.rest
    (ap scan_numeral is ∙ scan_numeral-text_of p formed) s.sign (formed.len_is ∙ ap length (sym is)) has small (ap before_zeros stay) place
    (grind (arith, ints, common_steps, near)))

form_of : (negative : Bool) (ds xs : List ℕ) (n : ℕ) → 0 < length ds → 1 ≤ n → n ≤ 21 → plain_form ds (pos n) ≡ xs
    → number_form negative ds (pos n) ≡ sign_form negative ++ xs
form_of negative ds xs n some low near is =
    let plain : is_plain (pos n) ≡ true = grind (arith, ints, common_steps, near) in
    form_is negative ds (pos n) some
    ∙ ap (λ b. sign_form negative ++ (if b then plain_form ds (pos n) else scientific_form ds (pos n -ℤ pos 1))) plain
    ∙ ap (λ (zs : List ℕ). sign_form negative ++ zs) is

-- digits behind the point are left
some_left : (negative : Bool) (xs ys : List ℕ) → AllDigits 10 xs → AllDigits 10 ys → 1 ≤ length xs → length xs ≤ 21 → begins xs ≡ false
    → 0 < length (before_zeros ys)
    → double_form (sign_form negative ++ (xs ++ (46 ∷ ys))) ≡ Some (sign_form negative ++ (xs ++ (46 ∷ before_zeros ys)))
some_left negative xs ys first second some near begin more =
    read negative xs ys first second some near begin
    ∙ ap (λ ds. Some (number_form negative ds (pos (length xs)))) (before_joined xs ys more)
    ∙ ap (λ (form : List ℕ). Some form) (form_of negative (xs ++ before_zeros ys) _ (length xs)
    (omega (arith, length-append xs (before_zeros ys), some)) some near (plain_is xs (before_zeros ys) (omega (arith, some)) more))

-- no digit behind the point is left
none_left : (negative : Bool) (xs ys : List ℕ) → AllDigits 10 xs → AllDigits 10 ys → 1 ≤ length xs → length xs ≤ 21 → begins xs ≡ false
    → before_zeros ys ≡ []
    → double_form (sign_form negative ++ (xs ++ (46 ∷ ys))) ≡ Some (sign_form negative ++ xs)
none_left negative xs ys first second some near begin none =
    read negative xs ys first second some near begin
    ∙ ap (λ ds. Some (number_form negative ds (pos (length xs)))) (before_gone xs ys none)
    ∙ ap (λ (form : List ℕ). Some form) (form_of negative (before_zeros xs) xs (length xs) (some_before xs some begin) some near
    (whole_is (before_zeros xs) xs some (padded xs)))

-- the front without the zeros
front_is : (xs ys : List ℕ) → take (length xs + 1 + length (before_zeros ys)) (xs ++ (46 ∷ ys)) ≡ xs ++ (46 ∷ before_zeros ys)
front_is xs ys =
    let p = padded ys in
    let zs = xs ++ (46 ∷ before_zeros ys) in
    let long : length zs ≡ length xs + 1 + length (before_zeros ys) = omega (arith, length-append xs (46 ∷ before_zeros ys)) in
    let is : zs ++ replicate p.count 48 ≡ xs ++ (46 ∷ ys) = append_assoc xs (46 ∷ before_zeros ys) (replicate p.count 48)
    ∙ ap (λ (us : List ℕ). xs ++ (46 ∷ us)) p.is in
    ap₂ (λ (n : ℕ) (us : List ℕ). take n us) (sym long) (sym is) ∙ taken zs (replicate p.count 48)

-- the parts of a text that is cut before its point
text_is : (text xs bs : List ℕ) (n : ℕ) → xs ≡ take n text → bs ≡ drop n text → 1 ≤ length bs → slice_index bs 0 ≡ 46
    → xs ++ (46 ∷ take (length bs - 1) (drop 1 bs)) ≡ text
text_is text xs bs n front back long point =
    ap₂ (λ (us vs : List ℕ). us ++ vs) front (sym (behind bs long point) ∙ back) ∙ take-append-drop n text

begin_is : (xs : List ℕ) → after_zeros xs ≡ xs → begins xs ≡ false
begin_is xs first = subst (λ zs. begins zs ≡ false) first (after_begins xs)

pub kept : (negative : Bool) (text xs bs zs : List ℕ) (n : ℕ) → xs ≡ take n text → bs ≡ drop n text → AllDigits 10 (take n text) → 1 ≤ length xs
    → length xs ≤ 21 → after_zeros xs ≡ xs → 1 ≤ length bs → slice_index bs 0 ≡ 46 → AllDigits 10 (take (length bs - 1) (drop 1 bs))
    → zs ≡ before_zeros (take (length bs - 1) (drop 1 bs)) → 1 ≤ length zs
    → double_form (sign_form negative ++ text) ≡ Some (sign_form negative ++ take (length xs + 1 + length zs) text)
kept negative text xs bs zs n front back are some near first long point digits rest more =
    let ys = take (length bs - 1) (drop 1 bs) in
    let left : 0 < length (before_zeros ys) = subst (λ us. 0 < length us) rest (omega (arith, more)) in
    let e : xs ++ (46 ∷ before_zeros ys) ≡ take (length xs + 1 + length zs) (xs ++ (46 ∷ ys)) =
    sym (front_is xs ys) ∙ ap (λ us. take (length xs + 1 + length us) (xs ++ (46 ∷ ys))) (sym rest) in
    subst (λ u. double_form (sign_form negative ++ u) ≡ Some (sign_form negative ++ take (length xs + 1 + length zs) u))
    (text_is text xs bs n front back long point)
    (some_left negative xs ys (subst (AllDigits 10) (sym front) are) digits some near (begin_is xs first) left
    ∙ ap (λ us. Some (sign_form negative ++ us)) e)

pub gone : (negative : Bool) (text xs bs zs : List ℕ) (n : ℕ) → xs ≡ take n text → bs ≡ drop n text → AllDigits 10 (take n text) → 1 ≤ length xs
    → length xs ≤ 21 → after_zeros xs ≡ xs → 1 ≤ length bs → slice_index bs 0 ≡ 46 → AllDigits 10 (take (length bs - 1) (drop 1 bs))
    → zs ≡ before_zeros (take (length bs - 1) (drop 1 bs)) → length zs < 1
    → double_form (sign_form negative ++ text) ≡ Some (sign_form negative ++ take (length xs) text)
gone negative text xs bs (z ∷ zs) n front back are some near first long point digits rest none = absurd (omega (arith, none))
gone negative text xs bs [] n front back are some near first long point digits rest none =
    let ys = take (length bs - 1) (drop 1 bs) in
    subst (λ u. double_form (sign_form negative ++ u) ≡ Some (sign_form negative ++ take (length xs) u)) (text_is text xs bs n front back long point)
    (none_left negative xs ys (subst (AllDigits 10) (sym front) are) digits some near (begin_is xs first) (sym rest)
    ∙ ap (λ us. Some (sign_form negative ++ us)) (sym (taken xs (46 ∷ ys))))

pub inside : (text xs bs zs : List ℕ) (n : ℕ) → xs ≡ take n text → bs ≡ drop n text → 1 ≤ length bs → slice_index bs 0 ≡ 46
    → zs ≡ before_zeros (take (length bs - 1) (drop 1 bs)) → length xs + 1 + length zs ≤ length text
inside text xs bs zs n front back long point rest =
    let ys = take (length bs - 1) (drop 1 bs) in
    let p = padded ys in
    let first = ap length (text_is text xs bs n front back long point) in
    let second = length-append xs (46 ∷ ys) in
    let third = ap length p.is in
    let fourth = length-append (before_zeros ys) (replicate p.count 48) in
    let fifth = ap length rest in
    omega (arith, first, second, third, fourth, fifth)
