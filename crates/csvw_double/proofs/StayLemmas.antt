-- A number's canonical text is read as the same number.
use Rattle.std.proofs.Common.{◌≡◌, ◌∙◌, ℕ, zero, suc, ◌+◌, ◌^◌, ◌<◌, ◌==◌, not, true, false, Bool, List, [], ◌∷◌, ◌++◌, length, take, drop, replicate}
use Rattle.std.proofs.Common.{append-nil, append_assoc, length-drop, length-take, length-append, arith, rules, ap, ap₂, refl, sym, subst, if◌then◌else◌, ℤ}
use Rattle.std.proofs.Common.{pos, neg_ℤ, ◌+ℤ◌, ◌-ℤ◌}
use Rattle.std.specs.Fmt.{decimal}
use Rattle.std.specs.Float.Numeral.{Parts, IsWellFormed, exponent_text, has_digits, text_of}
use Rattle.std.specs.Str.Parse.{AllDigits, digits_value}
use Rattle.std.proofs.lemmas.Fmt.{decimal_is_IsNumeral}
use Rattle.std.proofs.lemmas.Int.{ints}
use Rattle.std.proofs.lemmas.Grind.{common_steps}
use Rattle.std.proofs.lemmas.List.{length-replicate, take-append-drop}
use Rattle.csvw_double.proofs.FormLemmas.{joined_digits}
use Rattle.csvw_double.proofs.TrimLemmas.{zero_last}
use Rattle.csvw_double.specs.Digits.{after_zeros, before_zeros, is_empty}
use Rattle.csvw_double.specs.Doubles.{digits_of, point_of}

-- a list begins with a zero
abbrev pub begins : List ℕ → Bool
begins [] = false
begins (c ∷ cs) = c == 48

-- digits, of which the first and the last aren't 0
pub record IsTrimmed (ds : List ℕ) : Type 0 where
  pub are : AllDigits 10 ds
  pub some : 0 < length ds
  pub first : begins ds ≡ false
  pub last : before_zeros ds ≡ ds

-- a text is scanned as these parts of a number of these digits and this point
pub record IsRead (text ds : List ℕ) (point : ℤ) : Type 0 where
  pub parts : Parts
  pub formed : IsWellFormed parts
  pub is : text ≡ text_of parts
  pub has : has_digits parts ≡ true
  pub some : 0 < length parts.whole
  pub exponent : digits_value 10 parts.exponent < 10 ^ 18
  pub digits : digits_of parts ≡ ds
  pub point_is : point_of parts ≡ point

-- the parts of a number in digits alone
abbrev pub plain_parts : List ℕ → Bool → List ℕ → Parts
plain_parts whole point fraction = record {
  whole = whole;
  point = point;
  fraction = fraction;
  exponent_negative = false;
  exponent = [];
  len = length (whole ++ ((if point then 46 ∷ fraction else []) ++ []));
}

digits_taken : (n : ℕ) (ds : List ℕ) → AllDigits 10 ds → AllDigits 10 (take n ds)
digits_taken zero ds are = search rules
digits_taken (suc n) [] are = search rules
digits_taken (suc n) (d ∷ ds) are = (are.0, digits_taken n ds are.1)

digits_dropped : (n : ℕ) (ds : List ℕ) → AllDigits 10 ds → AllDigits 10 (drop n ds)
digits_dropped zero ds are = are
digits_dropped (suc n) [] are = search rules
digits_dropped (suc n) (d ∷ ds) are = digits_dropped n ds are.1

zeros_are_digits : (n : ℕ) → AllDigits 10 (replicate n 48)
zeros_are_digits zero = search rules
zeros_are_digits (suc n) = (omega arith, zeros_are_digits n)

-- zeros before digits, and after them, are left out
zeros_before : (n : ℕ) (ds : List ℕ) → after_zeros (replicate n 48 ++ ds) ≡ after_zeros ds
zeros_before zero ds = refl
zeros_before (suc n) ds = zeros_before n ds

pub zeros_after : (n : ℕ) (ds : List ℕ) → before_zeros (ds ++ replicate n 48) ≡ before_zeros ds
zeros_after zero ds = ap before_zeros (append-nil ds)
zeros_after (suc n) ds =
    ap before_zeros (sym (append_assoc ds (48 ∷ []) (replicate n 48))) ∙ zeros_after n (ds ++ 48 ∷ []) ∙ zero_last ds

pub front_stays : (ds xs : List ℕ) → 0 < length ds → begins ds ≡ false → after_zeros (ds ++ xs) ≡ ds ++ xs
front_stays [] xs some first = absurd (omega (arith, some))
front_stays (d ∷ ds) xs some first = rw first refl

trimmed_stays : (ds : List ℕ) → IsTrimmed ds → after_zeros ds ≡ ds
trimmed_stays ds t = ap after_zeros (sym (append-nil ds)) ∙ front_stays ds [] t.some t.first ∙ append-nil ds

-- a number from 1 on, with a point among its digits
pub read_inside : (n : ℕ) (ds : List ℕ) → IsTrimmed ds → 0 < n → n < length ds → IsRead (take n ds ++ (46 ∷ drop n ds)) ds (pos n)
read_inside n ds t low high = record {
  parts = plain_parts (take n ds) true (drop n ds);
  formed = record {
    whole_digits = digits_taken n ds t.are;
    fraction_digits = digits_dropped n ds t.are;
    exponent_digits = search rules;
    no_point = λ e. cc;
    no_exponent = λ e. refl;
    len_is = refl;
  };
  is = ap (λ xs. take n ds ++ xs) (sym (append-nil (46 ∷ drop n ds)));
  has = grind (arith, common_steps, low, high);
  some = omega (arith, length-take n ds, low, high);
  exponent = omega arith;
  digits = ap before_zeros (ap after_zeros (take-append-drop n ds) ∙ trimmed_stays ds t) ∙ t.last;
  point_is = rw (take-append-drop n ds, trimmed_stays ds t) (omega (arith, ints, length-drop n ds, high));
}

-- a number whose digits end before the point
pub read_before : (k : ℕ) (ds : List ℕ) → IsTrimmed ds → IsRead (ds ++ replicate k 48) ds (pos (length ds + k))
read_before k ds t = record {
  parts = plain_parts (ds ++ replicate k 48) false [];
  formed = record {
    whole_digits = joined_digits ds (replicate k 48) t.are (zeros_are_digits k);
    fraction_digits = search rules;
    exponent_digits = search rules;
    no_point = λ e. refl;
    no_exponent = λ e. refl;
    len_is = refl;
  };
  is = sym (append-nil (ds ++ replicate k 48));
  has = grind (arith, common_steps, t.some);
  some = omega (arith, length-append ds (replicate k 48), t.some);
  exponent = omega arith;
  digits = ap before_zeros (ap after_zeros (append-nil (ds ++ replicate k 48)) ∙ front_stays ds (replicate k 48) t.some t.first) ∙ zeros_after k ds ∙ t.last;
  point_is = rw (append-nil (ds ++ replicate k 48), front_stays ds (replicate k 48) t.some t.first)
      (omega (arith, ints, length-append ds (replicate k 48), length-replicate {A = ℕ} k 48));
}

below : (f l m : ℕ) → f ≡ m + l → (pos 0 -ℤ pos f) +ℤ pos l ≡ neg_ℤ (pos m)
below f l m is = omega (arith, ints, is)

-- a number below 1
pub read_below : (m : ℕ) (ds : List ℕ) → IsTrimmed ds → IsRead (48 ∷ 46 ∷ (replicate m 48 ++ ds)) ds (neg_ℤ (pos m))
read_below m ds t = record {
  parts = plain_parts (48 ∷ []) true (replicate m 48 ++ ds);
  formed = record {
    whole_digits = (omega arith, search rules);
    fraction_digits = joined_digits (replicate m 48) ds (zeros_are_digits m) t.are;
    exponent_digits = search rules;
    no_point = λ e. cc;
    no_exponent = λ e. refl;
    len_is = refl;
  };
  is = ap (λ xs. 48 ∷ 46 ∷ xs) (sym (append-nil (replicate m 48 ++ ds)));
  has = grind (arith, common_steps);
  some = omega arith;
  exponent = omega arith;
  digits = ap before_zeros (zeros_before m ds ∙ trimmed_stays ds t) ∙ t.last;
  point_is = ap (λ xs. (pos 0 -ℤ pos (length (replicate m 48 ++ ds))) +ℤ pos (length xs)) (zeros_before m ds ∙ trimmed_stays ds t)
      ∙ below (length (replicate m 48 ++ ds)) (length ds) m (omega (arith, length-append (replicate m 48) ds, length-replicate {A = ℕ} m 48));
}

-- the exponent of a number with one digit before the point
abbrev exponent_parts : List ℕ → Bool → ℕ → ℕ → Parts
exponent_parts ds negative n long = record {
  whole = take 1 ds;
  point = not (is_empty (drop 1 ds));
  fraction = drop 1 ds;
  exponent_negative = negative;
  exponent = decimal n;
  len = long;
}

no_fraction : (ds : List ℕ) → not (is_empty ds) ≡ false → ds ≡ []
no_fraction [] e = refl
no_fraction (d ∷ ds) e = cc

-- the text of the fraction and of the exponent
fraction_is : (ds xs : List ℕ) → (if is_empty ds then [] else 46 ∷ ds) ++ xs ≡ (if not (is_empty ds) then 46 ∷ ds else []) ++ xs
fraction_is [] xs = refl
fraction_is (d ∷ ds) xs = refl

exponent_is : (negative : Bool) (ds : List ℕ) → 0 < length ds → exponent_text negative ds ≡ 101 ∷ ((if negative then 45 ∷ [] else []) ++ ds)
exponent_is negative [] some = absurd (omega (arith, some))
exponent_is negative (d ∷ ds) some = refl

has_exponent : (negative : Bool) (ds : List ℕ) → 0 < length ds → ds ≡ [] → negative ≡ false
has_exponent negative [] some e = absurd (omega (arith, some))
has_exponent negative (d ∷ ds) some e = cc

-- one digit and the others
joined : (ds : List ℕ) → IsTrimmed ds → after_zeros (take 1 ds ++ drop 1 ds) ≡ ds
joined ds t = ap after_zeros (take-append-drop 1 ds) ∙ trimmed_stays ds t

others : (ds : List ℕ) → 0 < length ds → length (drop 1 ds) + 1 ≡ length ds
others [] some = absurd (omega (arith, some))
others (d ∷ ds) some = omega arith

pub read_exponent : (ds : List ℕ) (negative : Bool) (n : ℕ) (power point : ℤ) → IsTrimmed ds → n < 10 ^ 18
    → (if negative then neg_ℤ (pos n) else pos n) ≡ power → power ≡ point -ℤ pos 1
    → IsRead (take 1 ds ++ ((if is_empty (drop 1 ds) then [] else 46 ∷ drop 1 ds) ++ (101 ∷ ((if negative then 45 ∷ [] else []) ++ decimal n)))) ds point
read_exponent ds negative n power point t small is_power is_point =
    let numeral = decimal_is_IsNumeral n (omega (arith, small)) in
    let rest : (if is_empty (drop 1 ds) then [] else 46 ∷ drop 1 ds) ++ (101 ∷ ((if negative then 45 ∷ [] else []) ++ decimal n))
    ≡ (if not (is_empty (drop 1 ds)) then 46 ∷ drop 1 ds else []) ++ exponent_text negative (decimal n)
    = fraction_is (drop 1 ds) _ ∙ ap (λ xs. (if not (is_empty (drop 1 ds)) then 46 ∷ drop 1 ds else []) ++ xs) (sym (exponent_is negative
    (decimal n) numeral.0.0)) in
    let parts = exponent_parts ds negative n (length (take 1 ds ++ ((if not (is_empty (drop 1 ds)) then 46 ∷ drop 1 ds else []) ++ exponent_text negative
    (decimal n)))) in
    record {
      parts = parts;
      formed = record {
        whole_digits = digits_taken 1 ds t.are;
        fraction_digits = digits_dropped 1 ds t.are;
        exponent_digits = numeral.0.1;
        no_point = no_fraction (drop 1 ds);
        no_exponent = has_exponent negative (decimal n) numeral.0.0;
        len_is = refl;
      };
      is = ap (λ xs. take 1 ds ++ xs) rest;
      has = grind (arith, common_steps, t.some);
      some = omega (arith, length-take 1 ds, t.some);
      exponent = subst (λ m. m < 10 ^ 18) (sym numeral.1) small;
      digits = ap before_zeros (joined ds t) ∙ t.last;
      point_is = ap₂ (λ (z : ℤ) (xs : List ℕ). (z -ℤ pos (length (drop 1 ds))) +ℤ pos (length xs)) (ap (λ m. if negative then neg_ℤ
          (pos m) else pos m) numeral.1 ∙ is_power) (joined ds t)
          ∙ moved power point (length (drop 1 ds)) (length ds) is_point (others ds t.some);
    }
  where
    moved : (power point : ℤ) (f l : ℕ) → power ≡ point -ℤ pos 1 → f + 1 ≡ l → (power -ℤ pos f) +ℤ pos l ≡ point
    moved power point f l is long = omega (arith, ints, is, long)
