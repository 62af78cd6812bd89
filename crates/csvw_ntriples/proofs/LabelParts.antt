-- A label has one origin.
use Rattle.std.proofs.Common.{◌≡◌, ◌<◌, ◌%◌, ◌/◌, ◌^◌, ℕ, zero, suc, List, [], ◌∷◌, ◌++◌, refl, sym, ap, ◌∙◌, arith, true, false, Bool, cond}
use Rattle.std.proofs.Common.{append_assoc, append-nil, subst, length, Option, Some, None}
use Rattle.std.proofs.lemmas.Bool.Decides.{nat_tests}
use Rattle.std.proofs.lemmas.Bool.{and_parts}
use Rattle.std.proofs.lemmas.Fmt.{decimal_injective, decimal_nonempty}
use Rattle.std.specs.Prelude.{◌==◌}
use Rattle.std.specs.List.{list_all}
use Rattle.std.specs.Fmt.{decimal, digits, digits_onto, digit_glyph}
use Rattle.csvw_text.specs.Class.{is_digit_char}
use Rattle.csvw_ntriples.specs.Written.{label}
use Rattle.csvw_ntriples.specs.Writable.{IsOrigin}
use Rattle.csvw_triples_core.specs.declared.origin.Origin.{Origin}
use Rattle.csvw_triples_core.specs.declared.origin.Origin.TheVariants.{Group, Table, Row, Subject, Entry, Note}

glyph_is_digit : (d : ℕ) → d < 10 → is_digit_char (digit_glyph false d) ≡ true
glyph_is_digit d h = grind (arith, nat_tests)

chosen_digits : (b : Bool) (x y : List ℕ) → list_all is_digit_char x ≡ true → list_all is_digit_char y ≡ true → list_all is_digit_char (cond b x y) ≡ true
chosen_digits true x y p q = p
chosen_digits false x y p q = q

onto_digits : (k n : ℕ) (acc : List ℕ) → list_all is_digit_char acc ≡ true → list_all is_digit_char (digits_onto k 10 false n acc) ≡ true
onto_digits zero n acc h = h
onto_digits (suc k) n acc h =
    let small : n % 10 < 10 = omega arith in
    let more : list_all is_digit_char (digit_glyph false (n % 10) ∷ acc) ≡ true = rw (glyph_is_digit (n % 10) small) h in
    chosen_digits (n / 10 == 0) (digit_glyph false (n % 10) ∷ acc) (digits_onto k 10 false (n / 10) (digit_glyph false (n % 10) ∷ acc)) more
    (onto_digits k (n / 10) (digit_glyph false (n % 10) ∷ acc) more)

decimal_is_digits : (n : ℕ) → list_all is_digit_char (decimal n) ≡ true
unfolding digits
decimal_is_digits n = onto_digits 64 n [] refl

-- no digit begins the text
abbrev Stops : List ℕ → Type 0
Stops [] = Unit {0}
Stops (c ∷ cs) = is_digit_char c ≡ false

digits_then : (xs ys a b : List ℕ) → list_all is_digit_char xs ≡ true → list_all is_digit_char ys ≡ true → Stops a → Stops b → xs ++ a ≡ ys ++ b
    → (xs ≡ ys) × (a ≡ b)
digits_then [] [] a b h k f g e = (refl, e)
digits_then [] (y ∷ ys) [] b h k f g e = cc
digits_then [] (y ∷ ys) (c ∷ a) b h k f g e =
    let both = and_parts (is_digit_char y) (list_all is_digit_char ys) k in let same : c ≡ y = cc in
    let wrong : is_digit_char y ≡ false = subst (λ x. is_digit_char x ≡ false) same f in let t = both.0 in cc
digits_then (x ∷ xs) [] a [] h k f g e = cc
digits_then (x ∷ xs) [] a (c ∷ b) h k f g e =
    let both = and_parts (is_digit_char x) (list_all is_digit_char xs) h in let same : c ≡ x = cc in
    let wrong : is_digit_char x ≡ false = subst (λ z. is_digit_char z ≡ false) same g in let t = both.0 in cc
digits_then (x ∷ xs) (y ∷ ys) a b h k f g e =
    let p = and_parts (is_digit_char x) (list_all is_digit_char xs) h in let q = and_parts (is_digit_char y) (list_all is_digit_char ys) k in
    let tails : xs ++ a ≡ ys ++ b = cc in
    let rest = digits_then xs ys a b p.1 q.1 f g tails in let r = rest.0 in
    let front : (x ∷ xs) ≡ (y ∷ ys) = cc in (front, rest.1)

-- a letter, or a letter and a number
abbrev Part : Type 0
Part = ℕ × Option ℕ

abbrev number : Option ℕ → List ℕ
number None = []
number (Some n) = decimal n

abbrev spell : List Part → List ℕ
spell [] = []
spell (p ∷ ps) = p.0 ∷ number p.1 ++ spell ps

abbrev Fits64 : Option ℕ → Type 0
Fits64 None = Unit {0}
Fits64 (Some n) = n < 2 ^ 64

abbrev Fine : List Part → Type 0
Fine [] = Unit {0}
Fine (p ∷ ps) = (is_digit_char p.0 ≡ false) × Fits64 p.1 × Fine ps

Stops-spell : (ps : List Part) → Fine ps → Stops (spell ps)
Stops-spell [] f = tt
Stops-spell (p ∷ ps) f = f.0

number_is_digits : (o : Option ℕ) → list_all is_digit_char (number o) ≡ true
number_is_digits None = refl
number_is_digits (Some n) = decimal_is_digits n

not_empty : (n : ℕ) → [] ≡ decimal n → n < 2 ^ 64 → ⊥
not_empty n e f = let k = ap length e in let h = decimal_nonempty n f in absurd (omega arith)

number_once : (a b : Option ℕ) → Fits64 a → Fits64 b → number a ≡ number b → a ≡ b
number_once None None f g e = refl
number_once None (Some n) f g e = absurd (not_empty n e g)
number_once (Some m) None f g e = absurd (not_empty m (sym e) f)
number_once (Some m) (Some n) f g e = ap Some (decimal_injective m n f g e)

spell_once : (ps qs : List Part) → Fine ps → Fine qs → spell ps ≡ spell qs → ps ≡ qs
spell_once [] [] f g e = refl
spell_once [] (q ∷ qs) f g e = cc
spell_once (p ∷ ps) [] f g e = cc
spell_once ((c, m) ∷ ps) ((d, n) ∷ qs) f g e =
    let letter : c ≡ d = cc in
    let tails : number m ++ spell ps ≡ number n ++ spell qs = cc in
    let parts = digits_then (number m) (number n) (spell ps) (spell qs) (number_is_digits m) (number_is_digits n) (Stops-spell ps f.2)
    (Stops-spell qs g.2) tails in
    let same : m ≡ n = number_once m n f.1 g.1 parts.0 in
    let rest : ps ≡ qs = spell_once ps qs f.2 g.2 parts.1 in
    cc

parts : Origin → List Part
parts Group = (103, None) ∷ []
parts (Table t) = (116, Some t) ∷ []
parts (Row t r) = (116, Some t) ∷ (114, Some r) ∷ []
parts (Subject t r) = (116, Some t) ∷ (114, Some r) ∷ (115, None) ∷ []
parts (Entry t r c k) = (116, Some t) ∷ (114, Some r) ∷ (99, Some c) ∷ (105, Some k) ∷ []
parts (Note n) = (97, Some n) ∷ []

-- the origin of the parts
back : List Part → Origin
back ((c, Some t) ∷ []) = cond (c == 116) (Table t) (Note t)
back ((c, Some t) ∷ (d, Some r) ∷ []) = Row t r
back ((c, Some t) ∷ (d, Some r) ∷ (e, None) ∷ []) = Subject t r
back ((c, Some t) ∷ (d, Some r) ∷ (e, Some m) ∷ (f, Some k) ∷ []) = Entry t r m k
back _ = Group

back-parts : (o : Origin) → back (parts o) ≡ o
unfolding back parts
back-parts Group = refl
back-parts (Table t) = refl
back-parts (Row t r) = refl
back-parts (Subject t r) = refl
back-parts (Entry t r c k) = refl
back-parts (Note n) = refl

spell-parts : (o : Origin) → label o ≡ spell (parts o)
unfolding parts
spell-parts Group = refl
spell-parts (Table t) = simp append-nil
spell-parts (Row t r) = simp (append_assoc, append-nil)
spell-parts (Subject t r) = simp (append_assoc, append-nil)
spell-parts (Entry t r c k) = simp (append_assoc, append-nil)
spell-parts (Note n) = simp append-nil

Fine-parts : (o : Origin) → IsOrigin o → Fine (parts o)
unfolding parts
Fine-parts Group h = (refl, tt, tt)
Fine-parts (Table t) h = (refl, h, tt)
Fine-parts (Row t r) h = (refl, h.0, (refl, h.1, tt))
Fine-parts (Subject t r) h = (refl, h.0, (refl, h.1, (refl, tt, tt)))
Fine-parts (Entry t r c k) h = (refl, h.0, (refl, h.1, (refl, h.2, (refl, h.3, tt))))
Fine-parts (Note n) h = (refl, h, tt)

pub labels_differ : (o p : Origin) → IsOrigin o → IsOrigin p → label o ≡ label p → o ≡ p
labels_differ o p f g e =
    sym (back-parts o) ∙ (ap back (spell_once (parts o) (parts p) (Fine-parts o f) (Fine-parts p g) (sym (spell-parts o) ∙ (e ∙ spell-parts p))) ∙ back-parts p)
