-- A text of digits with a point among them is a number of these digits, which needs no scan.
use Rattle.std.proofs.Common.{◌≡◌, ◌∙◌, ℕ, ◌^◌, ◌+◌, ◌<◌, ◌≤◌, ◌==◌, ◌&&◌, ◌||◌, ◌⊎◌, inl, inr, not, true, false, Bool, List, [], ◌∷◌, ◌++◌, length, Some, None}
use Rattle.std.proofs.Common.{append-nil, ap, ap₂, codes, refl, sym, subst, arith, rules, if◌then◌else◌, pos, ◌-ℤ◌}
use Rattle.std.specs.declared.cmp.Ordering.TheVariants.{Less, Equal, Greater}
use Rattle.std.specs.Float.Numeral.{IsWellFormed, Parts, has_digits, scan_numeral, text_of}
use Rattle.std.specs.Str.{bytes_eq}
use Rattle.std.specs.Str.Parse.{AllDigits, digits_value}
use Rattle.std.proofs.lemmas.Bool.{lt-ltb}
use Rattle.std.proofs.lemmas.Float.Parse.{scan_numeral-text_of}
use Rattle.std.proofs.lemmas.Grind.{common_steps}
use Rattle.csvw_double.specs.Digits.{after_zeros, is_empty}
use Rattle.csvw_double.specs.Doubles.{after_sign, digits_from_first, exponent_of, parts_of}
use Rattle.csvw_double.specs.Forms.{sign_form, special_form}
use Rattle.csvw_double.specs.Order.{is_read, place_of}
use Rattle.csvw_double.specs.Places.{IsPlainOf, IsSplitOf, all_of, has_value}
use Rattle.csvw_double.specs.declared.plain.Plain.{Plain}
use Rattle.csvw_double.specs.declared.order.Places.{Places}
use Rattle.csvw_double.proofs.CanonicalLemmas.{IsSigned, headed, signed}
use Rattle.csvw_double.proofs.FormLemmas.{after_digits}
use Rattle.csvw_double.proofs.StayLemmas.{plain_parts}

-- a number's text that isn't special has its place among the numbers
place_is : (text : List ℕ) → special_form text ≡ None → is_read text ≡ true → place_of text ≡ Some Equal
unfolding place_of
place_is text special read = go (bytes_eq text (codes "INF")) (bytes_eq text (codes "+INF")) (bytes_eq text (codes "-INF")) special
  where
    go : (a b c : Bool)
        → (if a then Some (codes "INF") else (if b then Some (codes "INF")
        else (if c then Some (codes "-INF") else (if bytes_eq text (codes "NaN") then Some (codes "NaN") else None)))) ≡ None
        → (if c then Some Less else (if a || b then Some Greater else (if is_read text then Some Equal else None))) ≡ Some Equal
    go true b c e = cc
    go false true c e = cc
    go false false true e = cc
    go false false false e = ap (λ b. if b then Some Equal else None) read

same : (n : ℕ) → (n == n) ≡ true
same n = grind (arith, common_steps)

read_is : (text u : List ℕ) (p : Parts) → after_sign text ≡ u → scan_numeral u ≡ p → p.len ≡ length u → has_digits p ≡ true
    → digits_value 10 p.exponent < 10 ^ 18 → is_read text ≡ true
read_is text u p rest scanned long has small =
    rw (rest, scanned, long, same (length u), has, lt-ltb (digits_value 10 p.exponent) (10 ^ 18) small) refl

-- what a text of digits is scanned as
record IsScanned (u xs ys : List ℕ) : Type 0 where
  parts : Parts
  is : scan_numeral u ≡ parts
  len : parts.len ≡ length u
  whole : parts.whole ≡ xs
  fraction : parts.fraction ≡ ys
  sign : parts.exponent_negative ≡ false
  exponent : parts.exponent ≡ []

scanned : (u xs ys : List ℕ) (p : Parts) → IsWellFormed p → u ≡ text_of p → p.whole ≡ xs → p.fraction ≡ ys → p.exponent_negative ≡ false → p.exponent ≡ []
    → IsScanned u xs ys
scanned u xs ys p formed is whole fraction sign exponent = record {
  parts = p;
  is = ap scan_numeral is ∙ scan_numeral-text_of p formed;
  len = formed.len_is ∙ ap length (sym is);
  whole = whole;
  fraction = fraction;
  sign = sign;
  exponent = exponent;
}

pointed : (xs ys : List ℕ) → AllDigits 10 xs → AllDigits 10 ys → IsScanned (xs ++ (46 ∷ ys)) xs ys
pointed xs ys first second =
    let formed : IsWellFormed (plain_parts xs true ys) = record {
      whole_digits = first;
      fraction_digits = second;
      exponent_digits = search rules;
      no_point = λ e. cc;
      no_exponent = λ e. refl;
      len_is = refl;
    } in
    scanned (xs ++ (46 ∷ ys)) xs ys (plain_parts xs true ys) formed (ap (λ (zs : List ℕ). xs ++ zs) (sym (append-nil (46 ∷ ys)))) refl refl refl refl

alone : (xs : List ℕ) → AllDigits 10 xs → IsScanned xs xs []
alone xs first =
    let formed : IsWellFormed (plain_parts xs false []) = record {
      whole_digits = first;
      fraction_digits = search rules;
      exponent_digits = search rules;
      no_point = λ e. refl;
      no_exponent = λ e. refl;
      len_is = refl;
    } in
    scanned xs xs [] (plain_parts xs false []) formed (sym (append-nil xs)) refl refl refl refl

-- zeros at the start of the first digits alone are left out
after_whole : (xs ys : List ℕ) → after_zeros (after_zeros xs ++ ys) ≡ after_zeros (xs ++ ys)
after_whole [] ys = refl
after_whole (c ∷ cs) ys = go (c == 48) refl (after_whole cs ys)
  where
    go : (b : Bool) → (c == 48) ≡ b → after_zeros (after_zeros cs ++ ys) ≡ after_zeros (cs ++ ys)
        → after_zeros ((if b then after_zeros cs else c ∷ cs) ++ ys) ≡ (if b then after_zeros (cs ++ ys) else c ∷ cs ++ ys)
    go true is rest = rest
    go false is rest = rw is refl

again : (ds : List ℕ) → after_zeros (after_zeros ds) ≡ after_zeros ds
again [] = refl
again (c ∷ cs) = go (c == 48) refl (again cs)
  where
    go : (b : Bool) → (c == 48) ≡ b → after_zeros (after_zeros cs) ≡ after_zeros cs
        → after_zeros (if b then after_zeros cs else c ∷ cs) ≡ (if b then after_zeros cs else c ∷ cs)
    go true is rest = rest
    go false is rest = rw is refl

-- the digits and the sign of what is found
record IsMade (negative : Bool) (xs ys : List ℕ) (found : Plain) : Type 0 where
  whole : found.digits.whole.now ≡ after_zeros xs
  fraction : found.digits.fraction.now ≡ ys
  sign : found.is_negative ≡ (negative && has_value (all_of found.digits))

number : (negative : Bool) (u xs ys : List ℕ) (found : Plain) → 1 ≤ length xs → AllDigits 10 xs → AllDigits 10 ys
    → IsSigned negative (sign_form negative ++ u) u → IsScanned u xs ys → IsMade negative xs ys found → IsPlainOf (sign_form negative ++ u) found
number negative u xs ys found some first second s h m =
    let text = sign_form negative ++ u in
    let has : has_digits h.parts ≡ true = rw (h.whole, h.fraction) (lt-ltb 0 (length xs + length ys) (omega (arith, some))) in
    let small : digits_value 10 h.parts.exponent < 10 ^ 18 = subst (λ (ds : List ℕ). digits_value 10 ds < 10 ^ 18) (sym h.exponent) (omega arith) in
    let parts : parts_of text ≡ h.parts = ap scan_numeral s.rest ∙ h.is in
    let all : after_zeros (all_of found.digits) ≡ after_zeros (xs ++ ys) =
    ap₂ (λ us vs. after_zeros (us ++ vs)) m.whole m.fraction ∙ after_whole xs ys in
    let from : digits_from_first (parts_of text) ≡ after_zeros (all_of found.digits) =
    ap digits_from_first parts ∙ ap₂ (λ us vs. after_zeros (us ++ vs)) h.whole h.fraction ∙ sym all in
    let scale : exponent_of h.parts -ℤ pos (length h.parts.fraction) ≡ pos 0 -ℤ pos (length ys) = rw (h.sign, h.exponent, h.fraction) refl in
    record {
      place = place_is text s.special (read_is text u h.parts s.rest h.is h.len has small);
      whole = subst (AllDigits 10) (sym m.whole) (after_digits xs first);
      fraction = subst (AllDigits 10) (sym m.fraction) second;
      first = ap after_zeros m.whole ∙ again xs ∙ sym m.whole;
      digits = from;
      scale = ap (λ p. exponent_of p -ℤ pos (length p.fraction)) parts ∙ scale ∙ ap (λ (ds : List ℕ). pos 0 -ℤ pos (length ds)) (sym m.fraction);
      sign = m.sign ∙ sym (ap₂ (λ b ds. b && not (is_empty ds)) s.sign from);
    }

-- a text of digits with a point among them
of_split : (negative : Bool) (u : List ℕ) (p : Places) (found : Plain) → IsSplitOf u p → IsMade negative p.whole.now p.fraction.now found
    → IsPlainOf (sign_form negative ++ u) found
of_split negative u p found h m = go h.is
  where
    xs : List ℕ
    xs = p.whole.now

    ys : List ℕ
    ys = p.fraction.now

    go : ((u ≡ xs) × (ys ≡ [])) ⊎ (u ≡ xs ++ (46 ∷ ys)) → IsPlainOf (sign_form negative ++ u) found
    go (inl e) =
        let head = subst (λ zs. IsSigned negative (sign_form negative ++ zs) zs) (append-nil xs)
        (signed negative (xs ++ []) (headed xs [] h.whole (omega (arith, h.some)))) in
        let scan = subst (λ zs. IsScanned xs xs zs) (sym e.1) (alone xs h.whole) in
        subst (λ zs. IsPlainOf (sign_form negative ++ zs) found) (sym e.0) (number negative xs xs ys found h.some h.whole h.fraction head scan m)
    go (inr e) =
        let head = signed negative (xs ++ (46 ∷ ys)) (headed xs (46 ∷ ys) h.whole (omega (arith, h.some))) in
        subst (λ zs. IsPlainOf (sign_form negative ++ zs) found) (sym e)
        (number negative (xs ++ (46 ∷ ys)) xs ys found h.some h.whole h.fraction head (pointed xs ys h.whole h.fraction) m)

pub plain_number : (negative : Bool) (u : List ℕ) (p : Places) (found : Plain) → IsSplitOf u p → found.digits.whole.now ≡ after_zeros p.whole.now
    → found.digits.fraction.now ≡ p.fraction.now → found.is_negative ≡ (negative && has_value (all_of found.digits))
    → IsPlainOf (sign_form negative ++ u) found
plain_number negative u p found h whole fraction sign = of_split negative u p found h record {
  whole = whole;
  fraction = fraction;
  sign = sign;
}
