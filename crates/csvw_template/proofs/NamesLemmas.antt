-- The pass over a text finds whether it is a list of names, and whether a modifier follows them.
use Rattle.std.proofs.Common.{◌≡◌, ℕ, List, [], ◌∷◌, ◌++◌, Bool, true, false, cond, Option, Some, None, refl, ap, sym, subst, ◌∙◌, flat_map}
use Rattle.std.proofs.Common.{append_assoc, append-nil, arith, All, ◌==◌, ◌||◌}
use Rattle.std.specs.List.{slice_split}
use Rattle.std.proofs.lemmas.Bool.{cond_both, cond-true, cond-false}
use Rattle.std.proofs.lemmas.Bool.Decides.{nat_tests}
use Rattle.std.proofs.lemmas.List.Elements.{All-head, All-tail, All-nil, All-cons, All-append, All-same, All-weaker}
use Rattle.std.proofs.lemmas.List.Splits.{slice_split_none, slice_split_at}
use Rattle.csvw_template.specs.declared.names.Place.{Place}
use Rattle.csvw_template.specs.declared.names.Place.TheVariants.{Front, Char, Dot, Percent, Digit}
use Rattle.csvw_template.specs.declared.names.Kind.{Kind}
use Rattle.csvw_template.specs.declared.names.Kind.TheVariants.{Names, Higher, Bad}
use Rattle.csvw_template.specs.Grammar.{is_modifier}
use Rattle.csvw_template.specs.Name.{is_hex, is_name_byte, IsVarchar, IsName, AreNames, further, after_comma, listed}
use Rattle.csvw_template.specs.Reading.{varchar_step, step, kind, is_comma}

-- the begin of a varchar
abbrev pub Begins : ℕ → Type 0
Begins b = (is_name_byte b || b == 37) ≡ true

pub letter_begins : (b : ℕ) → is_name_byte b ≡ true → Begins b
letter_begins b h = rw h refl

pub percent_begins : (b : ℕ) → b ≡ 37 → Begins b
percent_begins b e = rw e refl

letter_step : (b : ℕ) → is_name_byte b ≡ true → varchar_step b ≡ Some Char
letter_step b h =
    let e : (b == 37) ≡ false = grind (arith, nat_tests) in
    cond-false _ _ _ e ∙ cond-true _ _ _ h

at_char : (b : ℕ) (rest : List ℕ) → Begins b → kind (Some Char) (b ∷ rest) ≡ kind (varchar_step b) rest
at_char b rest h =
    let m : is_modifier b ≡ false = grind (arith, nat_tests) in
    let dot : (b == 46) ≡ false = grind (arith, nat_tests) in
    let comma : (b == 44) ≡ false = grind (arith, nat_tests) in
    cond-false _ _ _ m ∙ ap (λ s. kind s rest) (cond-false _ _ _ dot ∙ cond-false _ _ _ comma)

-- where a varchar may begin
abbrev MayBegin : Place → Type 0
MayBegin p = (b : ℕ) (rest : List ℕ) → Begins b → kind (Some p) (b ∷ rest) ≡ kind (varchar_step b) rest

varchar : (p : Place) → MayBegin p → (v rest : List ℕ) → IsVarchar v → kind (Some p) (v ++ rest) ≡ kind (Some Char) rest
varchar p enter [] rest h = absurd h
varchar p enter (b ∷ []) rest h = enter b rest (letter_begins b h) ∙ ap (λ s. kind s rest) (letter_step b h)
varchar p enter (b ∷ h ∷ []) rest none = absurd none
varchar p enter (b ∷ h ∷ l ∷ []) rest is =
    let e : (b == 37) ≡ true = rw is.0 refl in
    enter b (h ∷ l ∷ rest) (percent_begins b is.0)
    ∙ ap (λ s. kind s (h ∷ l ∷ rest)) (cond-true _ _ _ e)
    ∙ ap (λ s. kind s (l ∷ rest)) (cond-true _ _ _ is.1)
    ∙ ap (λ s. kind s rest) (cond-true _ _ _ is.2)
varchar p enter (b ∷ h ∷ l ∷ c ∷ more) rest none = absurd none

others_pass : (vs : List (Bool × List ℕ)) (rest : List ℕ) → All (λ (v : Bool × List ℕ). IsVarchar v.1) vs
    → kind (Some Char) (flat_map further vs ++ rest) ≡ kind (Some Char) rest
others_pass [] rest h = refl
others_pass ((true, v) ∷ vs) rest h =
    let P : Bool × List ℕ → Type 0 = λ w. IsVarchar w.1 in
    ap (λ x. kind (Some Char) (46 ∷ x)) (append_assoc v (flat_map further vs) rest)
    ∙ varchar Dot (λ b r _. refl) v (flat_map further vs ++ rest) (All-head P _ vs h) ∙ others_pass vs rest (All-tail P _ vs h)
others_pass ((false, v) ∷ vs) rest h =
    let P : Bool × List ℕ → Type 0 = λ w. IsVarchar w.1 in
    ap (λ x. kind (Some Char) x) (append_assoc v (flat_map further vs) rest)
    ∙ varchar Char at_char v (flat_map further vs ++ rest) (All-head P _ vs h) ∙ others_pass vs rest (All-tail P _ vs h)

name_passes : (name rest : List ℕ) → IsName name → kind (Some Front) (name ++ rest) ≡ kind (Some Char) rest
name_passes name rest n =
    ap (λ x. kind (Some Front) (x ++ rest)) n.spelled ∙ ap (λ x. kind (Some Front) x) (append_assoc n.first (flat_map further n.others) rest)
    ∙ varchar Front (λ b r _. refl) n.first (flat_map further n.others ++ rest) n.is_varchar ∙ others_pass n.others rest n.are_varchars

later_pass : (names : List (List ℕ)) (rest : List ℕ) → All IsName names → kind (Some Char) (flat_map after_comma names ++ rest) ≡ kind (Some Char) rest
later_pass [] rest h = refl
later_pass (name ∷ names) rest h =
    ap (λ x. kind (Some Char) (44 ∷ x)) (append_assoc name (flat_map after_comma names) rest)
    ∙ name_passes name (flat_map after_comma names ++ rest) (All-head IsName name names h) ∙ later_pass names rest (All-tail IsName name names h)

-- behind a list of names the pass stands where a name may end
pub names_pass : (names : List (List ℕ)) (rest : List ℕ) → AreNames names → kind (Some Front) (listed names ++ rest) ≡ kind (Some Char) rest
names_pass [] rest h = absurd h
names_pass (name ∷ names) rest h =
    ap (λ x. kind (Some Front) x) (append_assoc name (flat_map after_comma names) rest)
    ∙ name_passes name (flat_map after_comma names ++ rest) h.0 ∙ later_pass names rest h.1

-- the bytes of names
abbrev pub IsNameChar : ℕ → Type 0
IsNameChar b = (is_name_byte b || b == 37 || b == 46) ≡ true

letter_char : (b : ℕ) → is_name_byte b ≡ true → IsNameChar b
letter_char b h = rw h refl

hex_char : (b : ℕ) → is_hex b ≡ true → IsNameChar b
hex_char b h = grind (arith, nat_tests)

percent_char : (b : ℕ) → b ≡ 37 → IsNameChar b
percent_char b e = rw e refl

one_char : (b : ℕ) → IsNameChar b → All IsNameChar (b ∷ [])
one_char b h = All-cons IsNameChar b [] h (All-nil IsNameChar)

varchar_chars : (v : List ℕ) → IsVarchar v → All IsNameChar v
varchar_chars [] h = absurd h
varchar_chars (b ∷ []) h = one_char b (letter_char b h)
varchar_chars (b ∷ h ∷ []) none = absurd none
varchar_chars (b ∷ h ∷ l ∷ []) is =
    All-cons IsNameChar b (h ∷ l ∷ []) (percent_char b is.0) (All-cons IsNameChar h (l ∷ []) (hex_char h is.1) (one_char l (hex_char l is.2)))
varchar_chars (b ∷ h ∷ l ∷ c ∷ more) none = absurd none

others_chars : (vs : List (Bool × List ℕ)) → All (λ (v : Bool × List ℕ). IsVarchar v.1) vs → All IsNameChar (flat_map further vs)
others_chars [] h = All-nil IsNameChar
others_chars ((true, v) ∷ vs) h =
    let P : Bool × List ℕ → Type 0 = λ w. IsVarchar w.1 in
    All-cons IsNameChar 46 (v ++ flat_map further vs) refl
    (All-append IsNameChar v (flat_map further vs) (varchar_chars v (All-head P _ vs h)) (others_chars vs (All-tail P _ vs h)))
others_chars ((false, v) ∷ vs) h =
    let P : Bool × List ℕ → Type 0 = λ w. IsVarchar w.1 in
    All-append IsNameChar v (flat_map further vs) (varchar_chars v (All-head P _ vs h)) (others_chars vs (All-tail P _ vs h))

pub name_chars : (name : List ℕ) → IsName name → All IsNameChar name
name_chars name n =
    All-same IsNameChar name _ n.spelled
    (All-append IsNameChar n.first (flat_map further n.others) (varchar_chars n.first n.is_varchar) (others_chars n.others n.are_varchars))

no_comma : (name : List ℕ) → IsName name → All (λ b. is_comma b ≡ false) name
no_comma name n = All-weaker IsNameChar (λ b. is_comma b ≡ false) (λ b h. grind (arith, nat_tests)) name (name_chars name n)

-- a list is cut at its commas into its names
pub split_listed : (names : List (List ℕ)) → AreNames names → slice_split is_comma (listed names) ≡ names
split_listed [] h = absurd h
split_listed (name ∷ []) h = ap (slice_split is_comma) (append-nil name) ∙ slice_split_none is_comma name (no_comma name h.0)
split_listed (name ∷ next ∷ names) h =
    slice_split_at is_comma name 44 (next ++ flat_map after_comma names) (no_comma name h.0) refl
    ∙ ap (λ x. name ∷ x) (split_listed (next ∷ names) (All-head IsName next names h.1, All-tail IsName next names h.1))

-- What is left of a list of names, by the place where the pass stands.
pub record IsTail (text : List ℕ) : Type 0 where
  pub others : List (Bool × List ℕ)
  pub names : List (List ℕ)
  pub are_varchars : All (λ (v : Bool × List ℕ). IsVarchar v.1) others
  pub are_names : All IsName names
  pub spelled : text ≡ flat_map further others ++ flat_map after_comma names

pub record IsBegun (text : List ℕ) : Type 0 where
  pub first : List ℕ
  pub rest : List ℕ
  pub is_varchar : IsVarchar first
  pub tail : IsTail rest
  pub spelled : text ≡ first ++ rest

abbrev IsAfterPercent : List ℕ → Type 0
IsAfterPercent text = (h : ℕ) × (l : ℕ) × (rest : List ℕ) × (text ≡ h ∷ l ∷ rest) × (is_hex h ≡ true) × (is_hex l ≡ true) × IsTail rest

abbrev IsAfterDigit : List ℕ → Type 0
IsAfterDigit text = (l : ℕ) × (rest : List ℕ) × (text ≡ l ∷ rest) × (is_hex l ≡ true) × IsTail rest

abbrev IsLeft : Place → List ℕ → Type 0
IsLeft Front text = IsBegun text
IsLeft Char text = IsTail text
IsLeft Dot text = IsBegun text
IsLeft Percent text = IsAfterPercent text
IsLeft Digit text = IsAfterDigit text

-- what the pass says of a text
abbrev Says : Place → List ℕ → Kind → Type 0
Says p text Names = IsLeft p text
Says p text Higher = (front : List ℕ) × (b : ℕ) × (more : List ℕ) × (text ≡ front ++ b ∷ more) × (is_modifier b ≡ true) × IsLeft p front
Says p text Bad = Unit {0}

lift : (p q : Place) (b : ℕ) (bs : List ℕ) (k : Kind) → ((t : List ℕ) → IsLeft q t → IsLeft p (b ∷ t)) → Says q bs k → Says p (b ∷ bs) k
lift p q b bs Names f s = f bs s
lift p q b bs Higher f s = (b ∷ s.0, s.1, s.2, ap (λ x. b ∷ x) s.3, s.4, f s.0 s.5)
lift p q b bs Bad f s = tt

end : IsTail []
end = record {
  others = [];
  names = [];
  are_varchars = All-nil (λ (v : Bool × List ℕ). IsVarchar v.1);
  are_names = All-nil IsName;
  spelled = refl;
}

-- one varchar more in front
with_varchar : (dotted : Bool) (v rest : List ℕ) → IsVarchar v → IsTail rest → IsTail (further (dotted, v) ++ rest)
with_varchar dotted v rest is t = record {
  others = (dotted, v) ∷ t.others;
  names = t.names;
  are_varchars = All-cons (λ (w : Bool × List ℕ). IsVarchar w.1) (dotted, v) t.others is t.are_varchars;
  are_names = t.are_names;
  spelled = ap (λ x. further (dotted, v) ++ x) t.spelled ∙ sym (append_assoc (further (dotted, v)) (flat_map further t.others) (flat_map after_comma t.names));
}

after_dot : (t : List ℕ) → IsBegun t → IsTail (46 ∷ t)
after_dot t g = let P : List ℕ → Type 0 = λ x. IsTail (46 ∷ x) in subst P (sym g.spelled) (with_varchar true g.first g.rest g.is_varchar g.tail)

name_of : (t : List ℕ) (g : IsBegun t) → IsName (g.first ++ flat_map further g.tail.others)
name_of t g = record { first = g.first; others = g.tail.others; is_varchar = g.is_varchar; are_varchars = g.tail.are_varchars; spelled = refl }

begun_spelled : (t : List ℕ) (g : IsBegun t) → t ≡ (g.first ++ flat_map further g.tail.others) ++ flat_map after_comma g.tail.names
begun_spelled t g =
    g.spelled ∙ ap (λ x. g.first ++ x) g.tail.spelled ∙ sym (append_assoc g.first (flat_map further g.tail.others) (flat_map after_comma g.tail.names))

after_a_comma : (t : List ℕ) → IsBegun t → IsTail (44 ∷ t)
after_a_comma t g = record {
  others = [];
  names = (g.first ++ flat_map further g.tail.others) ∷ g.tail.names;
  are_varchars = All-nil (λ (v : Bool × List ℕ). IsVarchar v.1);
  are_names = All-cons IsName _ g.tail.names (name_of t g) g.tail.are_names;
  spelled = ap (λ x. 44 ∷ x) (begun_spelled t g);
}

letter_begun : (b : ℕ) → is_name_byte b ≡ true → (t : List ℕ) → IsTail t → IsBegun (b ∷ t)
letter_begun b h t tail = record { first = b ∷ []; rest = t; is_varchar = h; tail = tail; spelled = refl }

letter_tail : (b : ℕ) → is_name_byte b ≡ true → (t : List ℕ) → IsTail t → IsTail (b ∷ t)
letter_tail b h t tail = with_varchar false (b ∷ []) t h tail

percent_begun : (b : ℕ) → b ≡ 37 → (t : List ℕ) → IsAfterPercent t → IsBegun (b ∷ t)
percent_begun b e t s = record {
  first = b ∷ s.0 ∷ s.1 ∷ [];
  rest = s.2;
  is_varchar = (e, s.4, s.5);
  tail = s.6;
  spelled = ap (λ x. b ∷ x) s.3;
}

percent_tail : (b : ℕ) → b ≡ 37 → (t : List ℕ) → IsAfterPercent t → IsTail (b ∷ t)
percent_tail b e t s =
    let P : List ℕ → Type 0 = λ x. IsTail (b ∷ x) in
    subst P (sym s.3) (with_varchar false (b ∷ s.0 ∷ s.1 ∷ []) s.2 (e, s.4, s.5) s.6)

pub is_same : (b c : ℕ) → (b == c) ≡ true → b ≡ c
is_same b c e = grind (arith, nat_tests)

-- Whatever the pass says is so.
pub says : (text : List ℕ) (p : Place) → Says p text (kind (Some p) text)
says [] Front = tt
says [] Char = end
says [] Dot = tt
says [] Percent = tt
says [] Digit = tt
says (b ∷ bs) Front =
    cond_both (b == 37) (Some Percent) (cond (is_name_byte b) (Some Char) None) (λ s. Says Front (b ∷ bs) (kind s bs))
    (λ e. lift Front Percent b bs _ (percent_begun b (is_same b 37 e)) (says bs Percent))
    (λ _. cond_both (is_name_byte b) (Some Char) None (λ s. Says Front (b ∷ bs) (kind s bs))
    (λ h. lift Front Char b bs _ (letter_begun b h) (says bs Char)) (λ _. tt))
says (b ∷ bs) Dot =
    cond_both (b == 37) (Some Percent) (cond (is_name_byte b) (Some Char) None) (λ s. Says Dot (b ∷ bs) (kind s bs))
    (λ e. lift Dot Percent b bs _ (percent_begun b (is_same b 37 e)) (says bs Percent))
    (λ _. cond_both (is_name_byte b) (Some Char) None (λ s. Says Dot (b ∷ bs) (kind s bs))
    (λ h. lift Dot Char b bs _ (letter_begun b h) (says bs Char)) (λ _. tt))
says (b ∷ bs) Char =
    let P : Option Place → Type 0 = λ s. Says Char (b ∷ bs) (kind s bs) in
    cond_both (is_modifier b) Higher (kind (step Char b) bs) (Says Char (b ∷ bs)) (λ m. ([], b, bs, refl, m, end))
    (λ _. cond_both (b == 46) (Some Dot) (cond (b == 44) (Some Front) (varchar_step b)) P
    (λ e. lift Char Dot b bs _ (λ t g. rw (is_same b 46 e) (after_dot t g)) (says bs Dot))
    (λ _. cond_both (b == 44) (Some Front) (varchar_step b) P
    (λ e. lift Char Front b bs _ (λ t g. rw (is_same b 44 e) (after_a_comma t g)) (says bs Front))
    (λ _. cond_both (b == 37) (Some Percent) (cond (is_name_byte b) (Some Char) None) P
    (λ e. lift Char Percent b bs _ (percent_tail b (is_same b 37 e)) (says bs Percent))
    (λ _. cond_both (is_name_byte b) (Some Char) None P (λ h. lift Char Char b bs _ (letter_tail b h) (says bs Char)) (λ _. tt)))))
says (b ∷ bs) Percent =
    cond_both (is_hex b) (Some Digit) None (λ s. Says Percent (b ∷ bs) (kind s bs))
    (λ h. lift Percent Digit b bs _ (λ t s. (b, s.0, s.1, ap (λ x. b ∷ x) s.2, h, s.3, s.4)) (says bs Digit)) (λ _. tt)
says (b ∷ bs) Digit =
    cond_both (is_hex b) (Some Char) None (λ s. Says Digit (b ∷ bs) (kind s bs))
    (λ h. lift Digit Char b bs _ (λ t tail. (b, t, refl, h, tail)) (says bs Char)) (λ _. tt)

-- a text that is left at the front is a list of names
abbrev pub IsListed : List ℕ → Type 0
IsListed text = (names : List (List ℕ)) × AreNames names × (text ≡ listed names)

listed_from : (text : List ℕ) → IsBegun text → IsListed text
listed_from text g = ((g.first ++ flat_map further g.tail.others) ∷ g.tail.names, (name_of text g, g.tail.are_names), begun_spelled text g)

-- the same, said of the whole text after an operator
abbrev pub Tells : List ℕ → Kind → Type 0
Tells text Names = IsListed text
Tells text Higher = (front : List ℕ) × (b : ℕ) × (more : List ℕ) × (text ≡ front ++ b ∷ more) × (is_modifier b ≡ true) × IsListed front
Tells text Bad = Unit {0}

tells_from : (text : List ℕ) (k : Kind) → Says Front text k → Tells text k
tells_from text Names s = listed_from text s
tells_from text Higher s = (s.0, s.1, s.2, s.3, s.4, listed_from s.0 s.5)
tells_from text Bad s = tt

pub tells : (text : List ℕ) → Tells text (kind (Some Front) text)
tells text = tells_from text _ (says text Front)
