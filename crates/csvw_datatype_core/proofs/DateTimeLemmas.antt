-- Digits are ASCII, with and without the zeros at their end, and a text is one moment at most.
use Rattle.std.proofs.Common.{◌≡◌, ℕ, zero, suc, ◌+◌, ◌≤◌, ◌==◌, Bool, true, false, cond, Option, Some, None, MatchOption, IfSome, option_and_then, List, [], ◌∷◌, ◌++◌}
use Rattle.std.proofs.Common.{length, take, drop, min, nat_le, refl, sym, ap, subst, ◌∙◌, arith, ℤ, pos}
use Rattle.std.specs.Char.{is_ascii_digit}
use Rattle.std.specs.Str.{IsAscii}
use Rattle.std.proofs.lemmas.Bool.Decides.{nat_tests}
use Rattle.std.proofs.Math.Seq.{take-length}
use Rattle.std.proofs.lemmas.List.{take_all, drop_all, length-take}
use Rattle.std.specs.List.{prefix_len}
use Rattle.csvw_datatype_core.specs.declared.moment.MomentFormat.{MomentFormat}
use Rattle.csvw_datatype_core.specs.declared.moment.MomentFormat.TheVariants.{Seconds}
use Rattle.csvw_datatype_core.specs.declared.date_time.DateTime.{DateTime}
use Rattle.csvw_datatype_core.specs.declared.date_time.DateTime.TheVariants as values
use Rattle.csvw_datatype_core.specs.declared.date_time.Zone.{Zone}
use Rattle.csvw_datatype_core.specs.declared.date_time.Zone.TheVariants as zones
use Rattle.csvw_datatype_core.specs.Fields.{◌>>=◌}
use Rattle.csvw_datatype_core.specs.LexicalDates.{IsMomentNumber}
use Rattle.csvw_datatype_core.specs.Moments.{ReadsMoment}
use Rattle.csvw_datatype_core.specs.Values.{moment_value}
use Rattle.csvw_datatype_core.specs.DateParts.{digit_count}
use Rattle.csvw_datatype_core.specs.DateTimes.{fraction_at, with_first, trimmed, zone_at, local, placed, placed_by, parts_of, date_time_value}
use Rattle.csvw_datatype_core.proofs.AsciiLemmas.{AllAscii, is_ascii}
use Rattle.csvw_datatype_core.proofs.MomentLemmas.{moment_in_range, moment_given, one_moment}

-- ---- digits

digit_first : (n b : ℕ) (bs : List ℕ) (is_digit : Bool) → is_ascii_digit b ≡ is_digit → suc n ≤ digit_count (b ∷ bs)
    → (n ≤ digit_count bs → AllAscii (take n bs)) → AllAscii (b ∷ take n bs)
unfolding AllAscii
digit_first n b bs true e h rest =
    let count = prefix_len is_ascii_digit bs in
    let more : suc n ≤ length (take (1 + count) (b ∷ bs)) = rw e at h in
    (grind (arith, nat_tests), rest (omega (arith, more, length-take (1 + count) (b ∷ bs), length-take count bs)))
digit_first n b bs false e h rest =
    let none : suc n ≤ 0 = rw e at h in absurd (omega (arith, none))

-- the items below the first one that isn't a digit are ASCII
digits_below : (n : ℕ) (bs : List ℕ) → n ≤ digit_count bs → AllAscii (take n bs)
unfolding AllAscii
digits_below zero bs h = tt
digits_below (suc n) [] h = tt
digits_below (suc n) (b ∷ bs) h = digit_first n b bs (is_ascii_digit b) refl h (λ k. digits_below n bs k)

pub digits_ascii : (bs : List ℕ) → IsAscii (take (digit_count bs) bs)
digits_ascii bs = is_ascii (take (digit_count bs) bs) (digits_below (digit_count bs) bs (omega arith))

front_ascii : (xs ys : List ℕ) → IsAscii (xs ++ ys) → AllAscii xs
unfolding AllAscii
front_ascii [] ys h = tt
front_ascii (x ∷ xs) ys h = (h 0, front_ascii xs ys (λ i. h (suc i)))

pub front_is_ascii : (xs ys : List ℕ) → IsAscii (xs ++ ys) → IsAscii xs
front_is_ascii xs ys h = is_ascii xs (front_ascii xs ys h)

-- a zero at the end is left out
pub trimmed_zero : (ds : List ℕ) → trimmed (ds ++ (48 ∷ [])) ≡ trimmed ds
trimmed_zero [] = refl
trimmed_zero (d ∷ ds) = ap (λ l. with_first d l) (trimmed_zero ds)

-- another digit at the end stays
with_more : (d c : ℕ) (ds : List ℕ) → with_first d (ds ++ (c ∷ [])) ≡ d ∷ (ds ++ (c ∷ []))
with_more d c [] = refl
with_more d c (e ∷ es) = refl

pub trimmed_other : (c : ℕ) (ds : List ℕ) → (c == 48) ≡ false → trimmed (ds ++ (c ∷ [])) ≡ ds ++ (c ∷ [])
trimmed_other c [] h = rw h refl
trimmed_other c (d ∷ ds) h = ap (λ l. with_first d l) (trimmed_other c ds h) ∙ with_more d c ds

-- ---- the second

-- two answers of one text are the same
pub same_moment : (f : MomentFormat) (text : List ℕ) (o p : Option ℤ)
    → MatchOption o ((m : ℤ) → ReadsMoment f text m → ⊥) (ReadsMoment f text)
    → MatchOption p ((m : ℤ) → ReadsMoment f text m → ⊥) (ReadsMoment f text) → o ≡ p
same_moment f text None None h k = refl
same_moment f text None (Some b) h k = absurd (h b k)
same_moment f text (Some a) None h k = absurd (k a h)
same_moment f text (Some a) (Some b) h k = ap (λ z. Some z) (one_moment f text a b h k)

pub is_value : (text : List ℕ) (o : Option ℤ) → MatchOption o ((m : ℤ) → ReadsMoment Seconds text m → ⊥) (ReadsMoment Seconds text)
    → o ≡ moment_value Seconds text
is_value text o h = same_moment Seconds text o (moment_value Seconds text) h (moment_given Seconds text)

pub in_range : (text : List ℕ) (o : Option ℤ) → MatchOption o ((m : ℤ) → ReadsMoment Seconds text m → ⊥) (ReadsMoment Seconds text)
    → IfSome o IsMomentNumber
in_range text None h = tt
in_range text (Some m) h = moment_in_range Seconds text m h

-- ---- a whole second without a zone is the one that is read

second_of : DateTime → ℤ
second_of (values.Second moment) = moment
second_of (values.Written text) = pos 0

same_second : (a b : ℤ) → Some (values.Second a) ≡ Some (values.Second b) → a ≡ b
unfolding second_of
same_second a b e =
    let f : Option DateTime → ℤ = λ o. cond_second o in ap f e
  where
    cond_second : Option DateTime → ℤ
    cond_second None = pos 0
    cond_second (Some v) = second_of v

local_in_range : (m : ℤ) (ds : List ℕ) (moment : ℤ) → IsMomentNumber m → Some (local m ds) ≡ Some (values.Second moment) → IsMomentNumber moment
local_in_range m [] moment range e = subst (λ z. IsMomentNumber z) (same_second m moment e) range
local_in_range m (d ∷ ds) moment range e = cc

never_in_utc : (b : Bool) (text : List ℕ) (moment : ℤ) → cond b (Some (values.Written text)) None ≡ Some (values.Second moment) → ⊥
never_in_utc true text moment e = cc
never_in_utc false text moment e = cc

pub placed_in_range : (zone : Zone) (m : ℤ) (ds : List ℕ) (minutes : Option ℤ) (moment : ℤ) → IsMomentNumber m
    → placed zone m ds minutes ≡ Some (values.Second moment) → IsMomentNumber moment
placed_in_range zone m ds (Some minutes) moment range e = absurd (never_in_utc _ _ moment e)
placed_in_range zones.Optional m ds None moment range e = local_in_range m ds moment range e
placed_in_range zones.Required m ds None moment range e = cc

after_zone : (zone : Zone) (m : ℤ) (ds : List ℕ) (o : Option (Option ℤ)) (moment : ℤ) → IsMomentNumber m
    → option_and_then (placed_by zone) (o >>= (λ minutes. Some (m, ds, minutes))) ≡ Some (values.Second moment) → IsMomentNumber moment
after_zone zone m ds None moment range e = cc
after_zone zone m ds (Some minutes) moment range e = placed_in_range zone m ds minutes moment range e

after_fraction : (zone : Zone) (m : ℤ) (o : Option (List ℕ × List ℕ)) (moment : ℤ) → IsMomentNumber m
    → option_and_then (placed_by zone) (o >>= (λ fraction. zone_at fraction.1 >>= (λ minutes. Some (m, trimmed fraction.0, minutes))))
    ≡ Some (values.Second moment) → IsMomentNumber moment
after_fraction zone m None moment range e = cc
after_fraction zone m (Some fraction) moment range e = after_zone zone m (trimmed fraction.0) (zone_at fraction.1) moment range e

after_second : (zone : Zone) (o : Option ℤ) (rest : List ℕ) (moment : ℤ) → IfSome o IsMomentNumber
    → option_and_then (placed_by zone)
    (o >>= (λ m. fraction_at rest >>= (λ fraction. zone_at fraction.1 >>= (λ minutes. Some (m, trimmed fraction.0, minutes)))))
    ≡ Some (values.Second moment) → IsMomentNumber moment
after_second zone None rest moment range e = cc
after_second zone (Some m) rest moment range e = after_fraction zone m (fraction_at rest) moment range e

pub second_in_range : (zone : Zone) (text : List ℕ) (moment : ℤ) → date_time_value zone text ≡ Some (values.Second moment) → IsMomentNumber moment
unfolding parts_of
second_in_range zone text moment e =
    let front = take 19 text in
    after_second zone (moment_value Seconds front) (drop 19 text) moment (in_range front (moment_value Seconds front) (moment_given Seconds front)) e

-- ---- a text that has to have a zone is no second without one

pub never_placed : (m : ℤ) (ds : List ℕ) (minutes : Option ℤ) (moment : ℤ) → placed zones.Required m ds minutes ≡ Some (values.Second moment) → ⊥
never_placed m ds (Some minutes) moment e = never_in_utc _ _ moment e
never_placed m ds None moment e = cc

never_at_zone : (m : ℤ) (ds : List ℕ) (o : Option (Option ℤ)) (moment : ℤ)
    → option_and_then (placed_by zones.Required) (o >>= (λ minutes. Some (m, ds, minutes))) ≡ Some (values.Second moment) → ⊥
never_at_zone m ds None moment e = cc
never_at_zone m ds (Some minutes) moment e = never_placed m ds minutes moment e

never_at_fraction : (m : ℤ) (o : Option (List ℕ × List ℕ)) (moment : ℤ)
    → option_and_then (placed_by zones.Required) (o >>= (λ fraction. zone_at fraction.1 >>= (λ minutes. Some (m, trimmed fraction.0, minutes))))
    ≡ Some (values.Second moment) → ⊥
never_at_fraction m None moment e = cc
never_at_fraction m (Some fraction) moment e = never_at_zone m (trimmed fraction.0) (zone_at fraction.1) moment e

never_at_second : (o : Option ℤ) (rest : List ℕ) (moment : ℤ)
    → option_and_then (placed_by zones.Required)
    (o >>= (λ m. fraction_at rest >>= (λ fraction. zone_at fraction.1 >>= (λ minutes. Some (m, trimmed fraction.0, minutes)))))
    ≡ Some (values.Second moment) → ⊥
never_at_second None rest moment e = cc
never_at_second (Some m) rest moment e = never_at_fraction m (fraction_at rest) moment e

pub never_local : (text : List ℕ) (moment : ℤ) → date_time_value zones.Required text ≡ Some (values.Second moment) → ⊥
unfolding parts_of
never_local text moment e = never_at_second (moment_value Seconds (take 19 text)) (drop 19 text) moment e

-- ---- the first bytes of a text

front_by : (n : ℕ) (bs : List ℕ) (b : Bool) → nat_le (length bs) n ≡ b → take (min (length bs) n) bs ≡ take n bs
front_by n bs true e =
    let all : min (length bs) n ≡ length bs = grind (arith, nat_tests) in
    ap (λ k. take k bs) all ∙ take-length bs ∙ sym (take_all n bs (grind (arith, nat_tests)))
front_by n bs false e = let some : min (length bs) n ≡ n = grind (arith, nat_tests) in ap (λ k. take k bs) some

pub front_is : (n : ℕ) (bs : List ℕ) → take (min (length bs) n) bs ≡ take n bs
front_is n bs = front_by n bs (nat_le (length bs) n) refl

back_by : (n : ℕ) (bs : List ℕ) (b : Bool) → nat_le (length bs) n ≡ b → drop (min (length bs) n) bs ≡ drop n bs
back_by n bs true e =
    let all : min (length bs) n ≡ length bs = grind (arith, nat_tests) in
    ap (λ k. drop k bs) all ∙ drop_all (length bs) bs (omega arith) ∙ sym (drop_all n bs (grind (arith, nat_tests)))
back_by n bs false e = let some : min (length bs) n ≡ n = grind (arith, nat_tests) in ap (λ k. drop k bs) some

pub back_is : (n : ℕ) (bs : List ℕ) → drop (min (length bs) n) bs ≡ drop n bs
back_is n bs = back_by n bs (nat_le (length bs) n) refl

-- what is found in turn is the parts of the text
pub parts_found : (bs front back rest ds kept : List ℕ) (m : ℤ) (minutes : Option ℤ) → front ≡ take 19 bs → back ≡ drop 19 bs
    → Some m ≡ moment_value Seconds front → Some (ds, rest) ≡ fraction_at back → Some minutes ≡ zone_at rest → kept ≡ trimmed ds
    → Some (m, kept, minutes) ≡ parts_of bs
unfolding parts_of
parts_found bs front back rest ds kept m minutes f b second fraction zone digits =
    let e : moment_value Seconds (take 19 bs) ≡ Some m = ap (λ l. moment_value Seconds l) (sym f) ∙ sym second in
    let g : fraction_at (drop 19 bs) ≡ Some (ds, rest) = ap (λ l. fraction_at l) (sym b) ∙ sym fraction in
    rw (e, g, sym zone, digits) refl
