-- A canonical text is its own canonical text. The check doesn't find it by itself: it
-- takes the fields apart.
use Rattle.std.proofs.Common.{◌≡◌, ℕ, ◌+◌, ◌*◌, ◌/◌, ◌%◌, ◌<◌, ◌≤◌, ◌^◌, ◌==◌, ◌&&◌, Bool, true, false, cond, Option, Some, None, IfSome, nat_lt, List, [], ◌∷◌, ◌++◌}
use Rattle.std.proofs.Common.{length, drop, refl, ap, sym, subst, ◌∙◌, arith, append_assoc, append-nil}
use Rattle.std.specs.Fmt.{decimal}
use Rattle.std.specs.Str.Parse.{AllDigits}
use Rattle.std.proofs.lemmas.Bool.{and_parts}
use Rattle.std.proofs.lemmas.Bool.Decides.{nat_tests}
use Rattle.std.proofs.lemmas.Option.{same_Some}
use Rattle.csvw_duration.specs.declared.value.DurationKind.{DurationKind}
use Rattle.csvw_duration.specs.declared.value.DurationKind.TheVariants as kinds
use Rattle.csvw_duration.specs.Digits.{◌>>=◌, is_short, first_digits, digits_at, number_at, fraction_at, after_byte, at_end, with_first, trimmed}
use Rattle.csvw_duration.specs.Values.{read_field, field, months_at, minutes_at, written_second, second_at, plus_seconds, clock_fields, after_t, clock_at}
use Rattle.csvw_duration.specs.Values.{is_small, seconds_at, with_months, whole_months, fields_at, after_p, begins_with_minus, after_minus, duration_fields}
use Rattle.csvw_duration.specs.Forms.{amount, is_empty, second_text, clock_text, seconds_text, months_text, zero_text, sign_text, is_zero, value_text, small_text, duration_form}
use Rattle.csvw_duration.proofs.DigitLemmas.{digits_first}
use Rattle.csvw_duration.proofs.ReadAgain.{digits_again, number_again, read_other, none_at_byte, none_at_end, amount_field, amount_skips}

-- what the digits of a fraction keep
pub record IsFraction (ds : List ℕ) : Type 0 where
  pub digits : AllDigits 10 ds
  pub short : length ds ≤ 9
  pub trim : trimmed ds ≡ ds

-- ---- seconds

second_some : (bs : List ℕ) → 0 < length bs → second_at bs ≡ written_second bs
second_some [] h = absurd (omega (arith, h))
second_some (b ∷ bs) h = refl

long_enough : (xs ys : List ℕ) (b : ℕ) → 0 < length (xs ++ b ∷ ys)
long_enough [] ys b = omega arith
long_enough (x ∷ xs) ys b = omega arith

whole_again : (s : ℕ) → s < 10 ^ 9 → written_second (decimal s ++ 83 ∷ []) ≡ Some (s, [])
unfolding written_second
whole_again s h = rw (number_again s 83 [] h refl) refl

fraction_again : (s d : ℕ) (ds : List ℕ) → s < 10 ^ 9 → IsFraction (d ∷ ds)
    → written_second (decimal s ++ 46 ∷ ((d ∷ ds) ++ 83 ∷ [])) ≡ Some (s, d ∷ ds)
unfolding written_second
fraction_again s d ds h f =
    let a = number_again s 46 ((d ∷ ds) ++ 83 ∷ []) h refl in
    let b = digits_again (d ∷ ds) 83 [] f.digits (omega arith) f.short refl in
    rw (a, b, f.trim) refl

second_by : (b : Bool) (s : ℕ) → (s == 0) ≡ b → s < 10 ^ 9 → second_at (cond b [] (decimal s ++ 83 ∷ [])) ≡ Some (s, [])
second_by true s e h = let none : 0 ≡ s = grind (arith, nat_tests) in ap (λ (k : ℕ). Some (k, [])) none
second_by false s e h = second_some (decimal s ++ 83 ∷ []) (long_enough (decimal s) [] 83) ∙ whole_again s h

point_text : (s d : ℕ) (ds : List ℕ) → second_text s (d ∷ ds) ≡ decimal s ++ 46 ∷ ((d ∷ ds) ++ 83 ∷ [])
point_text s d ds =
    append_assoc (decimal s ++ 46 ∷ []) (d ∷ ds) (83 ∷ []) ∙ append_assoc (decimal s) (46 ∷ []) ((d ∷ ds) ++ 83 ∷ [])

second_again : (s : ℕ) (ds : List ℕ) → s < 10 ^ 9 → IsFraction ds → second_at (second_text s ds) ≡ Some (s, ds)
second_again s [] h f = second_by (s == 0) s refl h
second_again s (d ∷ ds) h f =
    ap (λ l. second_at l) (point_text s d ds)
    ∙ second_some (decimal s ++ 46 ∷ ((d ∷ ds) ++ 83 ∷ [])) (long_enough (decimal s) ((d ∷ ds) ++ 83 ∷ []) 46) ∙ fraction_again s d ds h f

second_skips : (letter s : ℕ) (ds : List ℕ) → (83 == letter) ≡ false → (46 == letter) ≡ false → s < 10 ^ 9
    → read_field letter (second_text s ds) ≡ None
second_skips letter s [] e p h =
    ap (λ l. read_field letter l) (sym (append-nil (second_text s []))) ∙ amount_skips letter 83 s [] e h refl (none_at_end letter)
second_skips letter s (d ∷ ds) e p h = ap (λ l. read_field letter l) (point_text s d ds) ∙ read_other letter 46 s _ p h refl

-- ---- hours, minutes and seconds

abbrev after_letter_t : ℕ → List ℕ → List ℕ
after_letter_t s ds = amount (s / 3600) (72 ∷ []) ++ (amount (s / 60 % 60) (77 ∷ []) ++ second_text (s % 60) ds)

minutes_again : (h m : ℕ) (st : List ℕ) → h < 10 ^ 9 → m < 10 ^ 9 → read_field 72 st ≡ None → read_field 77 st ≡ None
    → minutes_at (amount h (72 ∷ []) ++ (amount m (77 ∷ []) ++ st)) ≡ (3600 * h + 60 * m, st)
minutes_again h m st hour minute a b =
    let x = amount_field 72 h (amount m (77 ∷ []) ++ st) refl hour refl (amount_skips 72 77 m st refl minute refl a) in
    let y = amount_field 77 m st refl minute refl b in
    rw (x, y) refl

fields_of_clock : (s : ℕ) (ds : List ℕ) → s < 86_400 → IsFraction ds → clock_fields (after_letter_t s ds) ≡ Some (s, ds)
fields_of_clock s ds h f =
    let low : s % 60 < 10 ^ 9 = omega (arith, h) in
    let x = minutes_again (s / 3600) (s / 60 % 60) (second_text (s % 60) ds) (omega (arith, h)) (omega (arith, h))
    (second_skips 72 (s % 60) ds refl refl low) (second_skips 77 (s % 60) ds refl refl low) in
    let y = second_again (s % 60) ds low f in
    let sum : 3600 * (s / 3600) + 60 * (s / 60 % 60) + s % 60 ≡ s = omega arith in
    ap (λ (z : ℕ × List ℕ). plus_seconds z.0 (second_at z.1)) x ∙ ap (plus_seconds (3600 * (s / 3600) + 60 * (s / 60 % 60))) y
    ∙ ap (λ (k : ℕ). Some (k, ds)) sum

abbrev pair : ℕ → List ℕ → ℕ × List ℕ
pair s ds = (s, ds)

no_fields : clock_fields [] ≡ Some (0, [])
unfolding read_field
no_fields = refl

nothing_is : (s : ℕ) (ds : List ℕ) → Some (pair 0 []) ≡ Some (pair s ds) → ((s == 0) && is_empty ds) ≡ true
nothing_is s ds e =
    let same = same_Some (pair 0 []) (pair s ds) e in
    ap (λ (z : ℕ × List ℕ). (z.0 == 0) && is_empty z.1) (sym same)

t_some : (t : List ℕ) (s : ℕ) (ds : List ℕ) → clock_fields t ≡ Some (s, ds) → ((s == 0) && is_empty ds) ≡ false → after_t t ≡ Some (s, ds)
t_some [] s ds e some = let all = nothing_is s ds (sym no_fields ∙ e) in cc
t_some (b ∷ bs) s ds e some = e

clock_spelled : (s : ℕ) (ds : List ℕ)
    → ((84 ∷ [] ++ amount (s / 3600) (72 ∷ [])) ++ amount (s / 60 % 60) (77 ∷ [])) ++ second_text (s % 60) ds ≡ 84 ∷ after_letter_t s ds
clock_spelled s ds = ap (λ l. 84 ∷ l) (append_assoc (amount (s / 3600) (72 ∷ [])) (amount (s / 60 % 60) (77 ∷ [])) (second_text (s % 60) ds))

abbrev clock_by : Bool → ℕ → List ℕ → List ℕ
clock_by b s ds =
    cond b [] (((84 ∷ [] ++ amount (s / 3600) (72 ∷ [])) ++ amount (s / 60 % 60) (77 ∷ [])) ++ second_text (s % 60) ds)

all_zero : (s : ℕ) (ds : List ℕ) → ((s == 0) && is_empty ds) ≡ true → pair 0 [] ≡ pair s ds
all_zero s [] e = let none : 0 ≡ s = grind (arith, nat_tests) in ap (λ (k : ℕ). pair k []) none
all_zero s (d ∷ ds) e = absurd (never (s == 0) e)
  where
    never : (b : Bool) → (b && false) ≡ true → ⊥
    never true e = cc
    never false e = cc

clock_again_by : (b : Bool) (s : ℕ) (ds : List ℕ) → ((s == 0) && is_empty ds) ≡ b → s < 86_400 → IsFraction ds
    → clock_at (clock_by b s ds) ≡ Some (s, ds)
clock_again_by true s ds e h f = ap (λ (z : ℕ × List ℕ). Some z) (all_zero s ds e)
clock_again_by false s ds e h f = ap (λ l. clock_at l) (clock_spelled s ds) ∙ t_some (after_letter_t s ds) s ds (fields_of_clock s ds h f) e

clock_again : (s : ℕ) (ds : List ℕ) → s < 86_400 → IsFraction ds → clock_at (clock_text s ds) ≡ Some (s, ds)
clock_again s ds h f = clock_again_by ((s == 0) && is_empty ds) s ds refl h f

clock_skips_by : (b : Bool) (letter s : ℕ) (ds : List ℕ) → read_field letter (clock_by b s ds) ≡ None
clock_skips_by true letter s ds = none_at_end letter
clock_skips_by false letter s ds = ap (λ l. read_field letter l) (clock_spelled s ds) ∙ none_at_byte letter 84 (after_letter_t s ds) refl

clock_skips : (letter s : ℕ) (ds : List ℕ) → read_field letter (clock_text s ds) ≡ None
clock_skips letter s ds = clock_skips_by ((s == 0) && is_empty ds) letter s ds

-- ---- days and months

seconds_again : (s : ℕ) (ds : List ℕ) → s < 86_400 * 10 ^ 9 → IsFraction ds → seconds_at (seconds_text s ds) ≡ Some (s, ds)
seconds_again s ds h f =
    let x = amount_field 68 (s / 86_400) (clock_text (s % 86_400) ds) refl (omega (arith, h)) refl (clock_skips 68 (s % 86_400) ds) in
    let y = clock_again (s % 86_400) ds (omega arith) f in
    let sum : 86_400 * (s / 86_400) + s % 86_400 ≡ s = omega arith in
    ap (λ (z : ℕ × List ℕ). plus_seconds (86_400 * z.0) (clock_at z.1)) x ∙ ap (plus_seconds (86_400 * (s / 86_400))) y
    ∙ ap (λ (k : ℕ). Some (k, ds)) sum

seconds_skips : (letter s : ℕ) (ds : List ℕ) → (68 == letter) ≡ false → s < 86_400 * 10 ^ 9 → read_field letter (seconds_text s ds) ≡ None
seconds_skips letter s ds e h =
    amount_skips letter 68 (s / 86_400) (clock_text (s % 86_400) ds) e (omega (arith, h)) refl (clock_skips letter (s % 86_400) ds)

months_again : (m : ℕ) (rest : List ℕ) → m < 12 * 10 ^ 9 → read_field 89 rest ≡ None → read_field 77 rest ≡ None
    → months_at (months_text m ++ rest) ≡ (m, rest)
months_again m rest h a b =
    let low : m % 12 < 10 ^ 9 = omega arith in
    let x = amount_field 89 (m / 12) (amount (m % 12) (77 ∷ []) ++ rest) refl (omega (arith, h)) refl (amount_skips 89 77 (m % 12) rest refl low refl a) in
    let y = amount_field 77 (m % 12) rest refl low refl b in
    let sum : 12 * (m / 12) + m % 12 ≡ m = omega arith in
    ap (λ l. months_at l) (append_assoc (amount (m / 12) (89 ∷ [])) (amount (m % 12) (77 ∷ [])) rest)
    ∙ rw (x, y) (ap (λ (k : ℕ). (k, rest)) sum)

-- ---- the fields of each kind

-- what a duration of a kind lacks
abbrev OfKind : DurationKind → ℕ × ℕ × List ℕ → Type 0
OfKind kinds.Any x = Unit {0}
OfKind kinds.YearMonth x = (x.1 ≡ 0) × (x.2 ≡ [])
OfKind kinds.DayTime x = x.0 ≡ 0

record IsValue (kind : DurationKind) (x : ℕ × ℕ × List ℕ) : Type 0 where
  pub fraction : IsFraction x.2
  pub of_kind : OfKind kind x

fields_again : (kind : DurationKind) (m s : ℕ) (ds : List ℕ) → m < 12 * 10 ^ 9 → s < 86_400 * 10 ^ 9 → IsFraction ds → OfKind kind (m, s, ds)
    → fields_at kind (months_text m ++ seconds_text s ds) ≡ Some (m, s, ds)
fields_again kinds.Any m s ds hm hs f k =
    let x = months_again m (seconds_text s ds) hm (seconds_skips 89 s ds refl hs) (seconds_skips 77 s ds refl hs) in
    ap (λ (z : ℕ × List ℕ). with_months z.0 (seconds_at z.1)) x ∙ ap (with_months m) (seconds_again s ds hs f)
fields_again kinds.YearMonth m s ds hm hs f k =
    let x = months_again m (seconds_text s ds) hm (seconds_skips 89 s ds refl hs) (seconds_skips 77 s ds refl hs) in
    ap (λ z. whole_months z) x ∙ rw (k.0, k.1) refl
fields_again kinds.DayTime m s ds hm hs f k = rw k (ap (with_months 0) (seconds_again s ds hs f))

abbrev triple : ℕ → ℕ → List ℕ → ℕ × ℕ × List ℕ
triple m s ds = (m, s, ds)

nothing_at : (kind : DurationKind) → fields_at kind [] ≡ Some (0, 0, [])
unfolding read_field
nothing_at kinds.Any = refl
nothing_at kinds.YearMonth = refl
nothing_at kinds.DayTime = refl

p_some : (kind : DurationKind) (t : List ℕ) (m s : ℕ) (ds : List ℕ) → fields_at kind t ≡ Some (m, s, ds) → is_zero (m, s, ds) ≡ false
    → after_p kind t ≡ Some (m, s, ds)
p_some kind [] m s ds e some =
    let same = same_Some (triple 0 0 []) (triple m s ds) (sym (nothing_at kind) ∙ e) in
    let zero : is_zero (m, s, ds) ≡ true = ap (λ (z : ℕ × ℕ × List ℕ). is_zero z) (sym same) in
    cc
p_some kind (b ∷ bs) m s ds e some = e

sign_again : (kind : DurationKind) (minus : Bool) (t : List ℕ)
    → duration_form kind (sign_text minus ++ t) ≡ after_p kind t >>= small_text kind minus
sign_again kind true t = refl
sign_again kind false t = refl

zero_again : (kind : DurationKind) → duration_form kind (zero_text kind) ≡ Some (zero_text kind)
unfolding read_field written_second
zero_again kinds.Any = refl
zero_again kinds.YearMonth = refl
zero_again kinds.DayTime = refl

small_is : (m s : ℕ) (ds : List ℕ) → m < 12 * 10 ^ 9 → s < 86_400 * 10 ^ 9 → is_small (m, s, ds) ≡ true
small_is m s ds hm hs = grind (arith, nat_tests)

abbrev text_by : Bool → DurationKind → Bool → ℕ → ℕ → List ℕ → List ℕ
text_by b kind minus m s ds = cond b (zero_text kind) ((sign_text minus ++ months_text m) ++ seconds_text s ds)

value_by : (b : Bool) (kind : DurationKind) (minus : Bool) (m s : ℕ) (ds : List ℕ) → is_zero (m, s, ds) ≡ b → m < 12 * 10 ^ 9 → s < 86_400 * 10 ^ 9
    → IsFraction ds → OfKind kind (m, s, ds) → duration_form kind (text_by b kind minus m s ds) ≡ Some (text_by b kind minus m s ds)
value_by true kind minus m s ds e hm hs f k = zero_again kind
value_by false kind minus m s ds e hm hs f k =
    let t = months_text m ++ seconds_text s ds in
    let again = p_some kind t m s ds (fields_again kind m s ds hm hs f k) e in
    ap (λ l. duration_form kind l) (append_assoc (sign_text minus) (months_text m) (seconds_text s ds)) ∙ sign_again kind minus t
    ∙ ap (λ (o : Option (ℕ × ℕ × List ℕ)). o >>= small_text kind minus) again
    ∙ rw (small_is m s ds hm hs) (ap (λ b. Some (text_by b kind minus m s ds)) e)

-- the canonical text of a value is its own
value_again : (kind : DurationKind) (minus : Bool) (x : ℕ × ℕ × List ℕ) → is_small x ≡ true → IsValue kind x
    → duration_form kind (value_text kind minus x) ≡ Some (value_text kind minus x)
value_again kind minus x small v =
    let low = and_parts (nat_lt x.0 12_000_000_000) (nat_lt x.1 86_400_000_000_000) small in
    value_by (is_zero x) kind minus x.0 x.1 x.2 refl (is_less low.0) (is_less low.1) v.fraction v.of_kind
  where
    is_less : {n limit : ℕ} → nat_lt n limit ≡ true → n < limit
    is_less h = grind (arith, nat_tests)

-- ---- the value of a text

trim_one : (b : Bool) (d : ℕ) → (d == 48) ≡ b → trimmed (cond b [] (d ∷ [])) ≡ cond b [] (d ∷ [])
trim_one true d e = refl
trim_one false d e = rw e refl

trim_first : (d : ℕ) (es : List ℕ) → trimmed es ≡ es → trimmed (with_first d es) ≡ with_first d es
trim_first d [] h = trim_one (d == 48) d refl
trim_first d (e ∷ es) h = ap (λ l. with_first d l) h

trim_again : (ds : List ℕ) → trimmed (trimmed ds) ≡ trimmed ds
trim_again [] = refl
trim_again (d ∷ ds) = trim_first d (trimmed ds) (trim_again ds)

one_digit : (b : Bool) (d : ℕ) → AllDigits 10 (d ∷ []) → AllDigits 10 (cond b [] (d ∷ [])) × (length (cond b [] (d ∷ [])) ≤ 1)
one_digit true d h = (tt, omega arith)
one_digit false d h = (h, omega arith)

first_digit : (d : ℕ) (es ds : List ℕ) → AllDigits 10 (d ∷ ds) → AllDigits 10 es × (length es ≤ length ds)
    → AllDigits 10 (with_first d es) × (length (with_first d es) ≤ length (d ∷ ds))
first_digit d [] ds h t = let one = one_digit (d == 48) d (h.0, tt) in (one.0, omega (arith, one.1))
first_digit d (e ∷ es) ds h t = ((h.0, t.0), omega (arith, t.1))

trim_digits : (ds : List ℕ) → AllDigits 10 ds → AllDigits 10 (trimmed ds) × (length (trimmed ds) ≤ length ds)
trim_digits [] h = (tt, omega arith)
trim_digits (d ∷ ds) h = first_digit d (trimmed ds) ds h (trim_digits ds h.1)

abbrev IsShort : List ℕ × List ℕ → Type 0
IsShort x = AllDigits 10 x.0 × (length x.0 ≤ 9)

trimmed_is : (ds : List ℕ) → AllDigits 10 ds × (length ds ≤ 9) → IsFraction (trimmed ds)
trimmed_is ds h =
    let t = trim_digits ds h.0 in
    record { digits = t.0; short = omega (arith, t.1, h.1); trim = trim_again ds }

short_by : (b : Bool) (ds rest : List ℕ) → AllDigits 10 ds → is_short (length ds) ≡ b → IfSome (cond b (Some (ds, rest)) None) IsShort
short_by true ds rest h e = (h, grind (arith, nat_tests))
short_by false ds rest h e = tt

digits_kept : (bs : List ℕ) → IfSome (digits_at bs) IsShort
digits_kept bs = short_by (is_short (length (first_digits bs))) (first_digits bs) (drop (length (first_digits bs)) bs) (digits_first bs) refl

point_kept : (b : Bool) (bs cs : List ℕ) → IfSome (cond b (digits_at bs) (Some ([], cs))) IsShort
point_kept true bs cs = digits_kept bs
point_kept false bs cs = (tt, omega arith)

fraction_kept : (bs : List ℕ) → IfSome (fraction_at bs) IsShort
fraction_kept [] = (tt, omega arith)
fraction_kept (b ∷ bs) = point_kept (b == 46) bs (b ∷ bs)

abbrev Kept : ℕ × List ℕ → Type 0
Kept y = IsFraction y.1

end_kept : (n : ℕ) (ds : List ℕ) → IsFraction ds → (o : Option (Unit {0})) → IfSome (o >>= (λ end. Some (n, ds))) Kept
end_kept n ds f None = tt
end_kept n ds f (Some end) = f

letter_kept : (n : ℕ) (ds : List ℕ) → IsFraction ds → (o : Option (List ℕ))
    → IfSome (o >>= (λ rest. at_end rest >>= (λ end. Some (n, ds)))) Kept
letter_kept n ds f None = tt
letter_kept n ds f (Some rest) = end_kept n ds f (at_end rest)

parts_kept : (n : ℕ) (o : Option (List ℕ × List ℕ)) → IfSome o IsShort
    → IfSome (o >>= (λ f. after_byte 83 f.1 >>= (λ rest. at_end rest >>= (λ end. Some (n, trimmed f.0))))) Kept
parts_kept n None h = tt
parts_kept n (Some f) h = letter_kept n (trimmed f.0) (trimmed_is f.0 h) (after_byte 83 f.1)

number_kept : (o : Option (ℕ × List ℕ))
    → IfSome (o >>= (λ n. fraction_at n.1 >>= (λ f. after_byte 83 f.1 >>= (λ rest. at_end rest >>= (λ end. Some (n.0, trimmed f.0)))))) Kept
number_kept None = tt
number_kept (Some n) = parts_kept n.0 (fraction_at n.1) (fraction_kept n.1)

written_kept : (bs : List ℕ) → IfSome (written_second bs) Kept
unfolding written_second
written_kept bs = number_kept (number_at bs)

no_fraction : IsFraction []
no_fraction = record { digits = tt; short = omega arith; trim = refl }

second_kept : (bs : List ℕ) → IfSome (second_at bs) Kept
second_kept [] = no_fraction
second_kept (b ∷ bs) = written_kept (b ∷ bs)

plus_kept : (n : ℕ) (o : Option (ℕ × List ℕ)) → IfSome o Kept → IfSome (plus_seconds n o) Kept
plus_kept n None h = tt
plus_kept n (Some x) h = h

t_kept : (bs : List ℕ) → IfSome (after_t bs) Kept
t_kept [] = tt
t_kept (b ∷ bs) = plus_kept (minutes_at (b ∷ bs)).0 _ (second_kept (minutes_at (b ∷ bs)).1)

clock_kept_by : (b : Bool) (bs : List ℕ) → IfSome (cond b (after_t bs) None) Kept
clock_kept_by true bs = t_kept bs
clock_kept_by false bs = tt

clock_kept : (bs : List ℕ) → IfSome (clock_at bs) Kept
clock_kept [] = no_fraction
clock_kept (b ∷ bs) = clock_kept_by (b == 84) bs

seconds_kept : (bs : List ℕ) → IfSome (seconds_at bs) Kept
seconds_kept bs = plus_kept (86_400 * (field 68 bs).0) _ (clock_kept (field 68 bs).1)

any_kept : (m : ℕ) (o : Option (ℕ × List ℕ)) → IfSome o Kept → IfSome (with_months m o) (IsValue kinds.Any)
any_kept m None h = tt
any_kept m (Some x) h = record { fraction = h; of_kind = tt }

day_time_kept : (o : Option (ℕ × List ℕ)) → IfSome o Kept → IfSome (with_months 0 o) (IsValue kinds.DayTime)
day_time_kept None h = tt
day_time_kept (Some x) h = record { fraction = h; of_kind = refl }

year_month_kept : (m : ℕ) (bs : List ℕ) → IfSome (whole_months (m, bs)) (IsValue kinds.YearMonth)
year_month_kept m [] = record { fraction = no_fraction; of_kind = (refl, refl) }
year_month_kept m (b ∷ bs) = tt

fields_kept : (kind : DurationKind) (bs : List ℕ) → IfSome (fields_at kind bs) (IsValue kind)
fields_kept kinds.Any bs = any_kept (months_at bs).0 _ (seconds_kept (months_at bs).1)
fields_kept kinds.YearMonth bs = year_month_kept (months_at bs).0 (months_at bs).1
fields_kept kinds.DayTime bs = day_time_kept _ (seconds_kept bs)

p_kept : (kind : DurationKind) (bs : List ℕ) → IfSome (after_p kind bs) (IsValue kind)
p_kept kind [] = tt
p_kept kind (b ∷ bs) = fields_kept kind (b ∷ bs)

value_kept : (kind : DurationKind) (o : Option (List ℕ)) → IfSome (o >>= after_p kind) (IsValue kind)
value_kept kind None = tt
value_kept kind (Some bs) = p_kept kind bs

-- ---- the law

from_small : (kind : DurationKind) (minus : Bool) (x : ℕ × ℕ × List ℕ) (form : List ℕ) (b : Bool) → is_small x ≡ b → IsValue kind x
    → cond b (Some (value_text kind minus x)) None ≡ Some form → duration_form kind form ≡ Some form
from_small kind minus x form false small v e = cc
from_small kind minus x form true small v e =
    let same = same_Some (value_text kind minus x) form e in
    subst (λ (t : List ℕ). duration_form kind t ≡ Some t) same (value_again kind minus x small v)

from_value : (kind : DurationKind) (minus : Bool) (o : Option (ℕ × ℕ × List ℕ)) (form : List ℕ) → IfSome o (IsValue kind)
    → o >>= small_text kind minus ≡ Some form → duration_form kind form ≡ Some form
from_value kind minus None form v e = cc
from_value kind minus (Some x) form v e = from_small kind minus x form (is_small x) refl v e

pub same_duration : (kind : DurationKind) (text form : List ℕ) → duration_form kind text ≡ Some form → duration_form kind form ≡ Some form
same_duration kind text form e =
    from_value kind (begins_with_minus text) (duration_fields kind text) form (value_kept kind (after_byte 80 (after_minus text))) e
