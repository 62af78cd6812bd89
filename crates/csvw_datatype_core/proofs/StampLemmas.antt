-- What a text begins with is read in two parts if it has a space, and each value has a text of its own. The search doesn't split the text.
use Rattle.std.proofs.Common.{◌≡◌, ℕ, suc, ◌+◌, ◌==◌, Bool, true, false, cond, if◌then◌else◌, Option, Some, None, MatchOption, IfSome, option_and_then}
use Rattle.std.proofs.Common.{List, [], ◌∷◌, ◌++◌, length, take, drop, refl, sym, ap, subst, ◌∙◌, arith, ℤ}
use Rattle.std.specs.Prelude.{option_map, nat_le}
use Rattle.std.proofs.lemmas.Option.{same_Some}
use Rattle.csvw_datatype_core.specs.declared.date.DateFormat.{DateFormat}
use Rattle.csvw_datatype_core.specs.declared.time.TimeFormat.{TimeFormat}
use Rattle.csvw_datatype_core.specs.declared.moment.MomentFormat.{MomentFormat}
use Rattle.csvw_datatype_core.specs.declared.moment.MomentFormat.TheVariants.{Spaced}
use Rattle.csvw_datatype_core.specs.declared.date_time.DateTime.TheVariants as values
use Rattle.csvw_datatype_core.specs.declared.date_time.Zone.{Zone}
use Rattle.csvw_datatype_core.specs.declared.date_time.Zone.TheVariants as zones
use Rattle.csvw_datatype_core.specs.declared.stamp_format.StampFormat.{StampFormat}
use Rattle.csvw_datatype_core.specs.DateTimes.{fraction_at, placed_by, date_time_value}
use Rattle.csvw_datatype_core.specs.Fields.{◌>>=◌}
use Rattle.csvw_datatype_core.specs.JoinedMoments.{ReadsJoined}
use Rattle.csvw_datatype_core.specs.LexicalDates.{IsMomentNumber}
use Rattle.csvw_datatype_core.specs.Moments.{ReadsMoment}
use Rattle.csvw_datatype_core.specs.Values.{at_space, date_value, joined_value, moment_value, parts_value, spaced_value, time_value, together}
use Rattle.csvw_datatype_core.specs.Stamps.{time_len, spaced_len, moment_len, moment_in, moment_at, within, fraction_within, ending_at, stamp_parts, stamp_value}
use Rattle.csvw_datatype_core.proofs.DateTimeLemmas.{placed_in_range, never_placed}
use Rattle.csvw_datatype_core.proofs.MomentLemmas.{moment_given, moment_in_range}
use Rattle.csvw_datatype_core.proofs.OneDateTime.{AreDigits, IsKept, are_kept, kept_again, fraction_digits, placed_again}
use Rattle.csvw_datatype_core.proofs.OneValue.{one_joined}
use Rattle.csvw_datatype_core.proofs.SpacedLemmas.{spelled_at}
use Rattle.csvw_datatype_core.proofs.ValueLemmas.{joined_given}

-- ---- a moment with a `T`

same_joined : (f : MomentFormat) (text : List ℕ) (o p : Option ℤ)
    → MatchOption o ((m : ℤ) → ReadsJoined f text m → ⊥) (ReadsJoined f text)
    → MatchOption p ((m : ℤ) → ReadsJoined f text m → ⊥) (ReadsJoined f text) → o ≡ p
same_joined f text None None h k = refl
same_joined f text None (Some b) h k = absurd (h b k)
same_joined f text (Some a) None h k = absurd (k a h)
same_joined f text (Some a) (Some b) h k = ap (λ z. Some z) (one_joined f text a b h k)

pub joined_is : (f : MomentFormat) (text : List ℕ) (o : Option ℤ) → MatchOption o ((m : ℤ) → ReadsJoined f text m → ⊥) (ReadsJoined f text)
    → o ≡ joined_value f text
joined_is f text o h = same_joined f text o (joined_value f text) h (joined_given f text)

-- ---- a moment with a space

abbrev onto_front : ℕ → Option (List ℕ × List ℕ) → Option (List ℕ × List ℕ)
onto_front b o = option_map (λ x. (b ∷ x.0, x.1)) o

abbrev without_first : List ℕ → List ℕ
without_first [] = []
without_first (b ∷ bs) = bs

abbrev inner : List ℕ × List ℕ → List ℕ × List ℕ
inner x = (without_first x.0, x.1)

again_by : (x : ℕ) (a b c : List ℕ) (same : Bool) (o : Option (List ℕ × List ℕ)) → (x == 32) ≡ same
    → (o ≡ Some (a, b) → at_space (a ++ (32 ∷ c)) ≡ Some (a, c))
    → (if same then Some ([], a ++ (32 ∷ b)) else onto_front x o) ≡ Some (x ∷ a, b)
    → (if same then Some ([], a ++ (32 ∷ c)) else onto_front x (at_space (a ++ (32 ∷ c)))) ≡ Some (x ∷ a, c)
again_by x a b c true o is more h =
    let none : List ℕ = [] in
    let same : (none, a ++ (32 ∷ b)) ≡ (x ∷ a, b) = same_Some (none, a ++ (32 ∷ b)) (x ∷ a, b) h in
    let never : none ≡ x ∷ a = ap (λ (z : List ℕ × List ℕ). z.0) same in
    cc
again_by x a b c false None is more h = cc
again_by x a b c false (Some y) is more h =
    let same : (x ∷ y.0, y.1) ≡ (x ∷ a, b) = same_Some (x ∷ y.0, y.1) (x ∷ a, b) h in
    let parts : (y.0, y.1) ≡ (a, b) = ap inner same in
    ap (λ o. onto_front x o) (more (ap (λ z. Some z) parts))

-- another text after the same first space
space_again : (a b c : List ℕ) → at_space (a ++ (32 ∷ b)) ≡ Some (a, b) → at_space (a ++ (32 ∷ c)) ≡ Some (a, c)
space_again [] b c h = refl
space_again (x ∷ a) b c h = again_by x a b c (x == 32) (at_space (a ++ (32 ∷ b))) refl (space_again a b c) h

take_cut : (a b : List ℕ) (n : ℕ) → take (length a + (1 + n)) (a ++ (32 ∷ b)) ≡ a ++ (32 ∷ take n b)
take_cut [] b n = let one : 0 + (1 + n) ≡ suc n = omega arith in ap (λ k. take k (32 ∷ b)) one
take_cut (x ∷ a) b n =
    let more : length (x ∷ a) + (1 + n) ≡ suc (length a + (1 + n)) = omega arith in
    ap (λ k. take k (x ∷ (a ++ (32 ∷ b)))) more ∙ ap (λ l. x ∷ l) (take_cut a b n)

drop_cut : (a b : List ℕ) (n : ℕ) → drop (length a + (1 + n)) (a ++ (32 ∷ b)) ≡ drop n b
drop_cut [] b n = let one : 0 + (1 + n) ≡ suc n = omega arith in ap (λ k. drop k (32 ∷ b)) one
drop_cut (x ∷ a) b n =
    let more : length (x ∷ a) + (1 + n) ≡ suc (length a + (1 + n)) = omega arith in
    ap (λ k. drop k (x ∷ (a ++ (32 ∷ b)))) more ∙ drop_cut a b n

abbrev with_rest : List ℕ → Option ℤ → Option (ℤ × List ℕ)
with_rest rest o = option_map (λ m. (m, rest)) o

spaced_is : (d : DateFormat) (t : TimeFormat) (bs a b : List ℕ) → Some (a, b) ≡ at_space bs
    → with_rest (drop (time_len t) b) (together (date_value d a) (time_value t (take (time_len t) b))) ≡ moment_at (Spaced d t) bs
unfolding spaced_value
spaced_is d t bs a b h =
    let k = time_len t in
    let n = length a + (1 + k) in
    let spelled = spelled_at bs a b (sym h) in
    let cut : at_space (take n bs) ≡ Some (a, take k b) =
    ap (λ (l : List ℕ). at_space (take n l)) spelled ∙ ap at_space (take_cut a b k)
    ∙ space_again a b (take k b) (sym (ap at_space spelled) ∙ sym h) in
    let rest : drop n bs ≡ drop k b = ap (λ (l : List ℕ). drop n l) spelled ∙ drop_cut a b k in
    ap (λ (l : List ℕ). with_rest l (together (date_value d a) (time_value t (take k b)))) (sym rest)
    ∙ ap (λ o. with_rest (drop n bs) (parts_value d t o)) (sym cut)
    ∙ ap (λ o. moment_in (Spaced d t) (spaced_len t o) bs) h

pub spaced_found : (d : DateFormat) (t : TimeFormat) (bs a b front rest : List ℕ) (day : Option ℤ) (second : Option ℕ)
    → Some (a, b) ≡ at_space bs → front ≡ take (time_len t) b → rest ≡ drop (time_len t) b → day ≡ date_value d a
    → second ≡ time_value t front → with_rest rest (together day second) ≡ moment_at (Spaced d t) bs
spaced_found d t bs a b front rest day second at f r is_day is_second =
    ap (λ (l : List ℕ). with_rest l (together day second)) r
    ∙ ap (λ o. with_rest (drop (time_len t) b) (together o second)) is_day
    ∙ ap (λ o. with_rest (drop (time_len t) b) (together (date_value d a) o)) (is_second ∙ ap (λ (l : List ℕ). time_value t l) f)
    ∙ spaced_is d t bs a b at

pub no_space_found : (d : DateFormat) (t : TimeFormat) (bs : List ℕ) → None ≡ at_space bs → None ≡ moment_at (Spaced d t) bs
unfolding spaced_value
no_space_found d t bs h = ap (λ o. moment_in (Spaced d t) (spaced_len t o) bs) h

-- ---- the moment is in the years 0001 to 9999, and the digits are trimmed

mapped : (f : MomentFormat) (text rest : List ℕ) (o : Option ℤ) → MatchOption o ((m : ℤ) → ReadsMoment f text m → ⊥) (ReadsMoment f text)
    → IfSome (with_rest rest o) (λ x. IsMomentNumber x.0)
mapped f text rest None h = tt
mapped f text rest (Some m) h = moment_in_range f text m h

range_at : (f : MomentFormat) (n : ℕ) (bs : List ℕ) → IfSome (moment_in f n bs) (λ x. IsMomentNumber x.0)
range_at f n bs = mapped f (take n bs) (drop n bs) (moment_value f (take n bs)) (moment_given f (take n bs))

pub moment_range : (f : MomentFormat) (bs : List ℕ) (m : ℤ) (rest : List ℕ) → Some (m, rest) ≡ moment_at f bs → IsMomentNumber m
moment_range f bs m rest e =
    let P : Option (ℤ × List ℕ) → Type 0 = λ o. IfSome o (λ x. IsMomentNumber x.0) in
    subst P (sym e) (range_at f (moment_len f bs) bs)

pub bind_some : {A B : Type 0} (o : Option A) (g : A → Option B) (P : A → Type 0) (Q : B → Type 0) → IfSome o P
    → ((x : A) → P x → IfSome (g x) Q) → IfSome (o >>= g) Q
bind_some None g P Q p h = tt
bind_some (Some x) g P Q p h = h x p

pub any_some : {A : Type 0} (o : Option A) → IfSome o (λ x. Unit {0})
any_some None = tt
any_some (Some x) = tt

abbrev pub SomeDigits : List ℕ × List ℕ → Type 0
SomeDigits x = AreDigits x.0

within_digits : (b : Bool) (x : List ℕ × List ℕ) → SomeDigits x → IfSome (cond b (Some x) None) SomeDigits
within_digits true x h = h
within_digits false x h = tt

pub digits_within : (most : ℕ) (bs : List ℕ) → IfSome (fraction_within most bs) SomeDigits
digits_within most bs =
    bind_some (fraction_at bs) (within most) SomeDigits SomeDigits (fraction_digits bs) (λ x h. within_digits (nat_le (length x.0) most) x h)

abbrev pub AreParts : ℤ × List ℕ × Option ℤ → Type 0
AreParts x = IsMomentNumber x.0 × IsKept x.1

pub are_parts : (f : StampFormat) (bs : List ℕ) → IfSome (stamp_parts f bs) AreParts
unfolding stamp_parts
are_parts f bs =
    bind_some (moment_at f.moment bs) _ (λ x. IsMomentNumber x.0) AreParts (range_at f.moment (moment_len f.moment bs) bs)
    (λ x range. bind_some (fraction_within f.digits x.1) _ SomeDigits AreParts (digits_within f.digits x.1)
    (λ y digits. bind_some (ending_at f.zone y.1) _ (λ z. Unit {0}) AreParts (any_some (ending_at f.zone y.1))
    (λ minutes u. (range, (are_kept y.0 digits, kept_again y.0)))))

-- ---- the laws

second_by : (zone : Zone) (o : Option (ℤ × List ℕ × Option ℤ)) (moment : ℤ) → IfSome o AreParts
    → option_and_then (placed_by zone) o ≡ Some (values.Second moment) → IsMomentNumber moment
second_by zone None moment h e = cc
second_by zone (Some x) moment h e = placed_in_range zone x.0 x.1 x.2 moment h.0 e

pub second_in_range : (f : StampFormat) (zone : Zone) (text : List ℕ) (moment : ℤ) → stamp_value f zone text ≡ Some (values.Second moment)
    → IsMomentNumber moment
second_in_range f zone text moment e = second_by zone (stamp_parts f text) moment (are_parts f text) e

never_by : (o : Option (ℤ × List ℕ × Option ℤ)) (moment : ℤ)
    → option_and_then (placed_by zones.Required) o ≡ Some (values.Second moment) → ⊥
never_by None moment e = cc
never_by (Some x) moment e = never_placed x.0 x.1 x.2 moment e

pub never_local : (f : StampFormat) (text : List ℕ) (moment : ℤ) → stamp_value f zones.Required text ≡ Some (values.Second moment) → ⊥
never_local f text moment e = never_by (stamp_parts f text) moment e

written_by : (zone : Zone) (o : Option (ℤ × List ℕ × Option ℤ)) (form : List ℕ) → IfSome o AreParts
    → option_and_then (placed_by zone) o ≡ Some (values.Written form) → date_time_value zone form ≡ Some (values.Written form)
written_by zone None form h e = cc
written_by zone (Some x) form h e = placed_again zone x.0 x.1 x.2 form h.0 h.1 e

pub written_again : (f : StampFormat) (zone : Zone) (text form : List ℕ) → stamp_value f zone text ≡ Some (values.Written form)
    → date_time_value zone form ≡ Some (values.Written form)
written_again f zone text form e = written_by zone (stamp_parts f text) form (are_parts f text) e
