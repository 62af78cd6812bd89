-- The test for variables agrees with the grammar, because one pass over the text decides both.
use Rattle.std.proofs.Common.{◌≡◌, ℕ, ◌-◌, List, [], ◌∷◌, ◌++◌, Bool, true, false, cond, not, ◌&&◌, ◌||◌, ◌==◌, length, refl, ap, sym, ◌∙◌}
use Rattle.std.proofs.Common.{arith, All, flat_map, ⊎_elim, if◌then◌else◌, true≢false}
use Rattle.std.specs.List.{slice_split, list_all, onto_first}
use Rattle.std.proofs.lemmas.Bool.{cond_both, cond-true, cond-false, cases_Bool, and_parts}
use Rattle.std.proofs.lemmas.Bool.Decides.{nat_tests}
use Rattle.std.proofs.lemmas.List.Elements.{All-head, All-tail, All-nil, All-cons}
use Rattle.csvw_template.specs.Name.{is_hex, is_name_byte, IsVarchar, IsName, further}
use Rattle.csvw_meta.specs.DeclaredName.{is_dot, are_varchars, is_piece, is_variable}

-- ---- the pieces between the dots, in one pass

-- one pass: whether the piece has a byte already, and how many digits of a triplet are still to come
abbrev walk : Bool → ℕ → List ℕ → Bool
walk begun digits [] = begun && digits == 0
walk begun digits (b ∷ bs) =
    cond (is_dot b) ((begun && digits == 0) && walk false 0 bs)
    (if digits == 0 then (if b == 37 then walk true 2 bs else is_name_byte b && walk true 0 bs) else is_hex b && walk true (digits - 1) bs)

abbrev first_piece : List (List ℕ) → List ℕ
first_piece [] = []
first_piece (piece ∷ pieces) = piece

abbrev further_pieces : List (List ℕ) → List (List ℕ)
further_pieces [] = []
further_pieces (piece ∷ pieces) = pieces

-- what is left of a piece, and the pieces after it
abbrev fits : Bool → ℕ → List (List ℕ) → Bool
fits begun digits pieces =
    ((begun || not (length (first_piece pieces) == 0)) && are_varchars digits (first_piece pieces)) && list_all is_piece (further_pieces pieces)

abbrev IsParted : List (List ℕ) → Type 0
IsParted pieces = list_all is_piece pieces ≡ fits false 0 pieces

parted_onto : (b : ℕ) (pieces : List (List ℕ)) → IsParted (onto_first b pieces)
parted_onto b [] = refl
parted_onto b (piece ∷ pieces) = refl

parted : (text : List ℕ) → IsParted (slice_split is_dot text)
parted [] = refl
parted (b ∷ bs) =
    cond_both (is_dot b) ([] ∷ slice_split is_dot bs) (onto_first b (slice_split is_dot bs)) IsParted (λ e. refl) (λ e. parted_onto b (slice_split is_dot bs))

and_true : (x : Bool) → (x && true) ≡ x
and_true true = refl
and_true false = refl

and_assoc : (x y z : Bool) → ((x && y) && z) ≡ (x && (y && z))
and_assoc true y z = refl
and_assoc false y z = refl

-- a test after each side of a choice
choice_and : (c x y z : Bool) → (cond c x y && z) ≡ cond c (x && z) (y && z)
choice_and true x y z = refl
choice_and false x y z = refl

-- the pass over the rest of a piece of which one byte was read
inner : (digits b : ℕ) (piece : List ℕ) (z : Bool) → (are_varchars digits (b ∷ piece) && z)
    ≡ (if digits == 0 then (if b == 37 then are_varchars 2 piece && z else is_name_byte b && (are_varchars 0 piece && z))
    else is_hex b && (are_varchars (digits - 1) piece && z))
inner digits b piece z =
    choice_and (digits == 0) (if b == 37 then are_varchars 2 piece else is_name_byte b && are_varchars 0 piece) (is_hex b && are_varchars (digits - 1) piece) z
    ∙ ap (λ x. cond (digits == 0) x ((is_hex b && are_varchars (digits - 1) piece) && z)) (
    choice_and (b == 37) (are_varchars 2 piece) (is_name_byte b && are_varchars 0 piece) z
    ∙ ap (λ x. cond (b == 37) (are_varchars 2 piece && z) x) (and_assoc (is_name_byte b) (are_varchars 0 piece) z)
    )
    ∙ ap (λ x. cond (digits == 0) (if b == 37 then are_varchars 2 piece && z else is_name_byte b && (are_varchars 0 piece && z)) x)
    (and_assoc (is_hex b) (are_varchars (digits - 1) piece) z)

not_empty : (begun : Bool) (b : ℕ) (piece : List ℕ) → (begun || not (length (b ∷ piece) == 0)) ≡ true
not_empty true b piece = refl
not_empty false b piece = let e : (length (b ∷ piece) == 0) ≡ false = grind (arith, nat_tests) in ap not e

onto : (begun : Bool) (digits b : ℕ) (pieces : List (List ℕ)) → fits begun digits (onto_first b pieces)
    ≡ (if digits == 0 then (if b == 37 then fits true 2 pieces else is_name_byte b && fits true 0 pieces) else is_hex b && fits true (digits - 1) pieces)
onto begun digits b [] = ap (λ x. (x && are_varchars digits (b ∷ [])) && true) (not_empty begun b []) ∙ inner digits b [] true
onto begun digits b (piece ∷ pieces) =
    ap (λ x. (x && are_varchars digits (b ∷ piece)) && list_all is_piece pieces) (not_empty begun b piece) ∙ inner digits b piece (list_all is_piece pieces)

begun_only : (begun : Bool) → (begun || false) ≡ begun
begun_only true = refl
begun_only false = refl

walked : (begun : Bool) (digits : ℕ) (text : List ℕ) → fits begun digits (slice_split is_dot text) ≡ walk begun digits text
walked begun digits [] = and_true ((begun || false) && digits == 0) ∙ ap (λ x. x && digits == 0) (begun_only begun)
walked begun digits (b ∷ bs) =
    let pieces = slice_split is_dot bs in
    let last : fits begun digits ([] ∷ pieces) ≡ ((begun && digits == 0) && walk false 0 bs) =
    ap (λ x. (x && digits == 0) && list_all is_piece pieces) (begun_only begun) ∙ ap (λ x. (begun && digits == 0) && x) (parted bs ∙ walked false 0 bs) in
    let more : fits begun digits (onto_first b pieces)
    ≡ (if digits == 0 then (if b == 37 then walk true 2 bs else is_name_byte b && walk true 0 bs) else is_hex b && walk true (digits - 1) bs) =
    onto begun digits b pieces
    ∙ ap (λ x. cond (digits == 0) (if b == 37 then x else is_name_byte b && fits true 0 pieces) (is_hex b && fits true (digits - 1) pieces)) (walked true 2 bs)
    ∙ ap (λ x. cond (digits == 0) (if b == 37 then walk true 2 bs else is_name_byte b && x) (is_hex b && fits true (digits - 1) pieces)) (walked true 0 bs)
    ∙ ap (λ x. cond (digits == 0) (if b == 37 then walk true 2 bs else is_name_byte b && walk true 0 bs) (is_hex b && x)) (walked true (digits - 1) bs) in
    through (is_dot b) ([] ∷ pieces) (onto_first b pieces) last more
  where
    through : (c : Bool) (x y : List (List ℕ)) {p q : Bool} → fits begun digits x ≡ p → fits begun digits y ≡ q
        → fits begun digits (cond c x y) ≡ cond c p q
    through true x y e f = e
    through false x y e f = f

variable_walks : (text : List ℕ) → is_variable text ≡ walk false 0 text
unfolding is_variable
variable_walks text = parted text ∙ walked false 0 text

-- ---- a name passes

hex_no_dot : (b : ℕ) → is_hex b ≡ true → is_dot b ≡ false
hex_no_dot b h = grind (arith, nat_tests)

letter_no_dot : (b : ℕ) → is_name_byte b ≡ true → is_dot b ≡ false
letter_no_dot b h = grind (arith, nat_tests)

letter_no_percent : (b : ℕ) → is_name_byte b ≡ true → (b == 37) ≡ false
letter_no_percent b h = grind (arith, nat_tests)

letter_walks : (begun : Bool) (b : ℕ) (rest : List ℕ) → is_name_byte b ≡ true → walk begun 0 (b ∷ rest) ≡ walk true 0 rest
letter_walks begun b rest h =
    cond-false _ _ _ (letter_no_dot b h) ∙ cond-false _ _ _ (letter_no_percent b h) ∙ ap (λ x. x && walk true 0 rest) h

high_walks : (b : ℕ) (rest : List ℕ) → is_hex b ≡ true → walk true 2 (b ∷ rest) ≡ walk true 1 rest
high_walks b rest h = cond-false _ _ _ (hex_no_dot b h) ∙ ap (λ x. x && walk true 1 rest) h

low_walks : (b : ℕ) (rest : List ℕ) → is_hex b ≡ true → walk true 1 (b ∷ rest) ≡ walk true 0 rest
low_walks b rest h = cond-false _ _ _ (hex_no_dot b h) ∙ ap (λ x. x && walk true 0 rest) h

varchar_walks : (begun : Bool) (v rest : List ℕ) → IsVarchar v → walk begun 0 (v ++ rest) ≡ walk true 0 rest
varchar_walks begun [] rest h = absurd h
varchar_walks begun (b ∷ []) rest h = letter_walks begun b rest h
varchar_walks begun (b ∷ h ∷ []) rest none = absurd none
varchar_walks begun (b ∷ h ∷ l ∷ []) rest is =
    ap (λ x. walk begun 0 (x ∷ h ∷ l ∷ rest)) is.0 ∙ high_walks h (l ∷ rest) is.1 ∙ low_walks l rest is.2
varchar_walks begun (b ∷ h ∷ l ∷ c ∷ more) rest none = absurd none

abbrev IsFurther : Bool × List ℕ → Type 0
IsFurther v = IsVarchar v.1

further_walk : (vs : List (Bool × List ℕ)) → All IsFurther vs → walk true 0 (flat_map further vs) ≡ true
further_walk [] h = refl
further_walk ((true, v) ∷ vs) h = varchar_walks false v (flat_map further vs) (All-head IsFurther _ vs h) ∙ further_walk vs (All-tail IsFurther _ vs h)
further_walk ((false, v) ∷ vs) h = varchar_walks true v (flat_map further vs) (All-head IsFurther _ vs h) ∙ further_walk vs (All-tail IsFurther _ vs h)

pub variable_of : (text : List ℕ) → IsName text → is_variable text ≡ true
variable_of text n =
    variable_walks text ∙ ap (walk false 0) n.spelled ∙ varchar_walks false n.first (flat_map further n.others) n.is_varchar
    ∙ further_walk n.others n.are_varchars

-- ---- what passes is a name

-- varchars, with or without dots before them
record IsRest (text : List ℕ) : Type 0 where
  pub others : List (Bool × List ℕ)
  pub are_varchars : All IsFurther others
  pub spelled : text ≡ flat_map further others

-- the last digit of a triplet, and then varchars
record IsLow (text : List ℕ) : Type 0 where
  pub low : ℕ
  pub more : List ℕ
  pub is_hex : is_hex low ≡ true
  pub rest : IsRest more
  pub spelled : text ≡ low ∷ more

-- both digits of a triplet, and then varchars
record IsHigh (text : List ℕ) : Type 0 where
  pub high : ℕ
  pub more : List ℕ
  pub is_hex : is_hex high ≡ true
  pub rest : IsLow more
  pub spelled : text ≡ high ∷ more

-- what a text is, by the place at which the pass over it begins
record IsRead (text : List ℕ) : Type 0 where
  pub name : walk false 0 text ≡ true → IsName text
  pub rest : walk true 0 text ≡ true → IsRest text
  pub low : walk true 1 text ≡ true → IsLow text
  pub high : walk true 2 text ≡ true → IsHigh text

nothing_read : IsRead []
nothing_read = record {
  name = λ e. absurd (true≢false (sym e));
  rest = λ e. record { others = []; are_varchars = All-nil IsFurther; spelled = refl };
  low = λ e. absurd (true≢false (sym e));
  high = λ e. absurd (true≢false (sym e));
}

-- a letter, and what follows
with_letter : (b : ℕ) (bs : List ℕ) → is_name_byte b ≡ true → IsRest bs → IsName (b ∷ bs)
with_letter b bs h r = record {
  first = b ∷ [];
  others = r.others;
  is_varchar = h;
  are_varchars = r.are_varchars;
  spelled = ap (λ x. b ∷ x) r.spelled;
}

-- a triplet, and what follows
with_triplet : (b : ℕ) (bs : List ℕ) → b ≡ 37 → IsHigh bs → IsName (b ∷ bs)
with_triplet b bs e h = record {
  first = b ∷ h.high ∷ h.rest.low ∷ [];
  others = h.rest.rest.others;
  is_varchar = (e, h.is_hex, h.rest.is_hex);
  are_varchars = h.rest.rest.are_varchars;
  spelled = ap (λ x. b ∷ x) (h.spelled ∙ ap (λ x. h.high ∷ x) (h.rest.spelled ∙ ap (λ x. h.rest.low ∷ x) h.rest.rest.spelled));
}

begun_at : (b : ℕ) (bs : List ℕ) → IsRead bs → (if b == 37 then walk true 2 bs else is_name_byte b && walk true 0 bs) ≡ true → IsName (b ∷ bs)
begun_at b bs r e =
    ⊎_elim (λ (p : (b == 37) ≡ true).
    let same : b ≡ 37 = grind (arith, nat_tests) in
    with_triplet b bs same (r.high (sym (cond-true _ _ _ p) ∙ e)))
    (λ (p : (b == 37) ≡ false).
    let both = and_parts _ _ (sym (cond-false _ _ _ p) ∙ e) in
    with_letter b bs both.0 (r.rest both.1))
    (cases_Bool (b == 37))

as_rest : (text : List ℕ) → IsName text → IsRest text
as_rest text n = record {
  others = (false, n.first) ∷ n.others;
  are_varchars = All-cons IsFurther (false, n.first) n.others n.is_varchar n.are_varchars;
  spelled = n.spelled;
}

behind_dot : (b : ℕ) (bs : List ℕ) → is_dot b ≡ true → IsName bs → IsRest (b ∷ bs)
behind_dot b bs p n =
    let same : b ≡ 46 = grind (arith, nat_tests) in
    record {
      others = (true, n.first) ∷ n.others;
      are_varchars = All-cons IsFurther (true, n.first) n.others n.is_varchar n.are_varchars;
      spelled = ap (λ x. x ∷ bs) same ∙ ap (λ x. 46 ∷ x) n.spelled;
    }

name_at : (b : ℕ) (bs : List ℕ) → IsRead bs → walk false 0 (b ∷ bs) ≡ true → IsName (b ∷ bs)
name_at b bs r e =
    ⊎_elim (λ (p : is_dot b ≡ true). absurd (true≢false (sym (sym (cond-true _ _ _ p) ∙ e))))
    (λ (p : is_dot b ≡ false). begun_at b bs r (sym (cond-false _ _ _ p) ∙ e)) (cases_Bool (is_dot b))

rest_at : (b : ℕ) (bs : List ℕ) → IsRead bs → walk true 0 (b ∷ bs) ≡ true → IsRest (b ∷ bs)
rest_at b bs r e =
    ⊎_elim (λ (p : is_dot b ≡ true). behind_dot b bs p (r.name (sym (cond-true _ _ _ p) ∙ e)))
    (λ (p : is_dot b ≡ false). as_rest (b ∷ bs) (begun_at b bs r (sym (cond-false _ _ _ p) ∙ e))) (cases_Bool (is_dot b))

low_at : (b : ℕ) (bs : List ℕ) → IsRead bs → walk true 1 (b ∷ bs) ≡ true → IsLow (b ∷ bs)
low_at b bs r e =
    ⊎_elim (λ (p : is_dot b ≡ true). absurd (true≢false (sym (sym (cond-true _ _ _ p) ∙ e))))
    (λ (p : is_dot b ≡ false).
    let both = and_parts _ _ (sym (cond-false _ _ _ p) ∙ e) in
    record { low = b; more = bs; is_hex = both.0; rest = r.rest both.1; spelled = refl })
    (cases_Bool (is_dot b))

high_at : (b : ℕ) (bs : List ℕ) → IsRead bs → walk true 2 (b ∷ bs) ≡ true → IsHigh (b ∷ bs)
high_at b bs r e =
    ⊎_elim (λ (p : is_dot b ≡ true). absurd (true≢false (sym (sym (cond-true _ _ _ p) ∙ e))))
    (λ (p : is_dot b ≡ false).
    let both = and_parts _ _ (sym (cond-false _ _ _ p) ∙ e) in
    record { high = b; more = bs; is_hex = both.0; rest = r.low both.1; spelled = refl })
    (cases_Bool (is_dot b))

reading : (text : List ℕ) → IsRead text
reading [] = nothing_read
reading (b ∷ bs) =
    let r = reading bs in
    record { name = name_at b bs r; rest = rest_at b bs r; low = low_at b bs r; high = high_at b bs r }

pub name_of : (text : List ℕ) → is_variable text ≡ true → IsName text
name_of text e = (reading text).name (sym (variable_walks text) ∙ e)
