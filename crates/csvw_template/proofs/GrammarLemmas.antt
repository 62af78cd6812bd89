-- The parts that are read spell the text, and a fault that is read is the first.
use Rattle.std.proofs.Common.{◌≡◌, ℕ, ◌<◌, List, [], ◌∷◌, ◌++◌, false, Result, Ok, Err, length, refl, ap, sym, subst, ◌∙◌, append_assoc, append-nil}
use Rattle.std.proofs.Common.{arith, ◌||◌, flat_map, All, ◌⊎◌, ⊎_elim, inl, inr}
use Rattle.std.specs.List.{slice_split, onto_first, list_any}
use Rattle.std.proofs.lemmas.Bool.{cond-true, cond-false}
use Rattle.std.proofs.lemmas.Bool.Decides.{nat_tests}
use Rattle.std.proofs.lemmas.List.Elements.{All-head, All-tail, All-nil, All-cons, All-append, All-weaker}
use Rattle.std.proofs.lemmas.List.Folds.{list_any_none}
use Rattle.csvw_template.specs.declared.fault.TemplateFault.{TemplateFault}
use Rattle.csvw_template.specs.declared.fault.TemplateFault.TheVariants.{BadTemplate, TemplateLevel}
use Rattle.csvw_template.specs.declared.part.Operator.{Operator}
use Rattle.csvw_template.specs.declared.part.Operator.TheVariants.{Simple, Reserved, Fragment}
use Rattle.csvw_template.specs.declared.part.Part.{Part}
use Rattle.csvw_template.specs.declared.part.Part.TheVariants.{Literal, Expression}
use Rattle.csvw_template.specs.Fault.{◌>>=◌}
use Rattle.csvw_template.specs.Name.{IsName, AreNames, listed, after_comma}
use Rattle.csvw_template.specs.Grammar.{is_open, is_close, HasNoBrace, mark, spelling, IsLiteral, AreParts, IsTemplate, IsEndOrOpen, BeginsBad}
use Rattle.csvw_template.specs.Grammar.{closes_none, not_closed, no_expression, BeginsHigher, higher, IsFirst}
use Rattle.csvw_template.specs.Reading.{Parts, expression, literal, outside, opened, all_opened, of_pieces}
use Rattle.csvw_template.proofs.NamesLemmas.{IsNameChar, name_chars}
use Rattle.csvw_template.proofs.ExpressionLemmas.{expression_read, higher_refused, bad_refused}
use Rattle.csvw_template.proofs.PiecesLemmas.{HasNoClose, no_open, no_close, IsCut, cut, onto, split_onto, closes, opened_of}

-- the reading, of a whole text and of what follows a `{`
abbrev pub whole : List ℕ → Parts
whole text = of_pieces (slice_split is_open text)

abbrev inside : List ℕ → Parts
inside text = all_opened (slice_split is_open text)

abbrev pub with_part : Part → Parts → Parts
with_part p r = r >>= λ ps. Ok (p ∷ ps)

abbrev with_parts : List Part → Parts → Parts
with_parts front r = r >>= λ ps. Ok (front ++ ps)

none_more : (r : Parts) → with_parts [] r ≡ r
none_more (Ok ps) = refl
none_more (Err e) = refl

one_more : (p : Part) (front : List Part) (r : Parts) → with_part p (with_parts front r) ≡ with_parts (p ∷ front) r
one_more p front (Ok ps) = refl
one_more p front (Err e) = refl

-- an expression, what stands behind it and the other pieces, in either order
pub regroup : (x : Result Part TemplateFault) (o g : Parts)
    → ((x >>= λ e. o >>= λ es. Ok (e ∷ es)) >>= λ a. g >>= λ es. Ok (a ++ es)) ≡ (x >>= λ e. with_part e (o >>= λ a. g >>= λ es. Ok (a ++ es)))
regroup (Err f) o g = refl
regroup (Ok e) (Err f) g = refl
regroup (Ok e) (Ok a) (Err f) = refl
regroup (Ok e) (Ok a) (Ok es) = refl

-- From the grammar to the reading.

at_brace : (rest : List ℕ) → whole (123 ∷ rest) ≡ inside rest
at_brace rest = none_more (inside rest)

closed_pieces : (inner rest : List ℕ) (ps : List (List ℕ)) → HasNoClose inner → IsCut rest ps
    → all_opened (onto inner (onto_first 125 ps)) ≡ (expression inner >>= λ e. with_part e (of_pieces ps))
closed_pieces inner rest [] h c = absurd c
closed_pieces inner rest (p ∷ ps) h c =
    ap (λ x. x >>= λ a. all_opened ps >>= λ es. Ok (a ++ es)) (opened_of inner p h) ∙ regroup (expression inner) (outside p) (all_opened ps)

at_closed : (inner rest : List ℕ) → HasNoBrace inner → inside (inner ++ 125 ∷ rest) ≡ (expression inner >>= λ e. with_part e (whole rest))
at_closed inner rest h =
    ap all_opened (split_onto inner (125 ∷ rest) (no_open inner h)) ∙ closed_pieces inner rest _ (no_close inner h) (cut rest)

unclosed : (inner : List ℕ) (ps : List (List ℕ)) → HasNoClose inner → all_opened ((inner ++ []) ∷ ps) ≡ Err BadTemplate
unclosed inner ps h =
    let none : list_any is_close (inner ++ []) ≡ false = ap (list_any is_close) (append-nil inner) ∙ list_any_none is_close inner h in
    let opens : opened (inner ++ []) ≡ Err BadTemplate = cond-false _ _ _ none in
    ap (λ (x : Parts). x >>= λ a. all_opened ps >>= λ es. Ok (a ++ es)) opens

at_unclosed : (inner more : List ℕ) → HasNoBrace inner → IsEndOrOpen more → inside (inner ++ more) ≡ Err BadTemplate
at_unclosed inner [] h e = ap all_opened (split_onto inner [] (no_open inner h)) ∙ unclosed inner [] (no_close inner h)
at_unclosed inner (b ∷ more) h e =
    ap (λ x. inside (inner ++ x ∷ more)) e
    ∙ ap all_opened (split_onto inner (123 ∷ more) (no_open inner h)) ∙ unclosed inner (slice_split is_open more) (no_close inner h)

stray_pieces : (front rest : List ℕ) (ps : List (List ℕ)) → HasNoClose front → IsCut rest ps → of_pieces (onto front (onto_first 125 ps)) ≡ Err BadTemplate
stray_pieces front rest [] h c = absurd c
stray_pieces front rest (p ∷ ps) h c =
    let out : outside (front ++ 125 ∷ p) ≡ Err BadTemplate = cond-true _ _ _ (closes front p h) in
    ap (λ (x : Parts). x >>= λ a. all_opened ps >>= λ es. Ok (a ++ es)) out

at_stray : (front rest : List ℕ) → HasNoBrace front → whole (front ++ 125 ∷ rest) ≡ Err BadTemplate
at_stray front rest h = ap of_pieces (split_onto front (125 ∷ rest) (no_open front h)) ∙ stray_pieces front rest _ (no_close front h) (cut rest)

literal_of : (text : List ℕ) → 0 < length text → literal text ≡ Literal text ∷ []
literal_of [] l = absurd (omega (arith, l))
literal_of (b ∷ bs) l = refl

outside_of : (text : List ℕ) → IsLiteral text → outside (text ++ []) ≡ Ok (Literal text ∷ [])
outside_of text h =
    let ok : List Part → Parts = λ ps. Ok ps in
    ap outside (append-nil text) ∙ cond-false _ _ _ (list_any_none is_close text (no_close text h.1)) ∙ ap ok (literal_of text h.0)

-- the end, or a brace
abbrev IsBound : List ℕ → Type 0
IsBound [] = Unit {0}
IsBound (b ∷ rest) = (b ≡ 123) ⊎ (b ≡ 125)

behind : (text : List ℕ) (ps : List (List ℕ)) → IsLiteral text → of_pieces ((text ++ []) ∷ ps) ≡ with_part (Literal text) (all_opened ps)
behind text ps h = ap (λ (x : Parts). x >>= λ a. all_opened ps >>= λ es. Ok (a ++ es)) (outside_of text h)

at_literal : (text rest : List ℕ) → IsLiteral text → IsBound rest → whole (text ++ rest) ≡ with_part (Literal text) (whole rest)
at_literal text [] h b = ap of_pieces (split_onto text [] (no_open text h.1)) ∙ behind text [] h
at_literal text (b ∷ rest) h bound =
    ⊎_elim
    (λ (e : b ≡ 123).
    ap (λ x. whole (text ++ x ∷ rest)) e
    ∙ ap of_pieces (split_onto text (123 ∷ rest) (no_open text h.1)) ∙ behind text (slice_split is_open rest) h
    ∙ ap (with_part (Literal text)) (sym (at_brace rest)) ∙ ap (λ x. with_part (Literal text) (whole (x ∷ rest))) (sym e))
    (λ (e : b ≡ 125).
    ap (λ x. whole (text ++ x ∷ rest)) e ∙ at_stray text rest h.1
    ∙ ap (with_part (Literal text)) (sym (at_stray [] rest (All-nil (λ b. (is_open b || is_close b) ≡ false))))
    ∙ ap (λ x. with_part (Literal text) (whole (x ∷ rest))) (sym e))
    bound

mark_clean : (operator : Operator) → HasNoBrace (mark operator)
mark_clean Simple = All-nil (λ b. (is_open b || is_close b) ≡ false)
mark_clean Reserved = All-cons (λ b. (is_open b || is_close b) ≡ false) 43 [] refl (All-nil (λ b. (is_open b || is_close b) ≡ false))
mark_clean Fragment = All-cons (λ b. (is_open b || is_close b) ≡ false) 35 [] refl (All-nil (λ b. (is_open b || is_close b) ≡ false))

name_clean : (name : List ℕ) → IsName name → HasNoBrace name
name_clean name n = All-weaker IsNameChar (λ b. (is_open b || is_close b) ≡ false) (λ b h. grind (arith, nat_tests)) name (name_chars name n)

later_clean : (names : List (List ℕ)) → All IsName names → HasNoBrace (flat_map after_comma names)
later_clean [] h = All-nil (λ b. (is_open b || is_close b) ≡ false)
later_clean (name ∷ names) h =
    let P : ℕ → Type 0 = λ b. (is_open b || is_close b) ≡ false in
    All-cons P 44 (name ++ flat_map after_comma names) refl
    (All-append P name (flat_map after_comma names) (name_clean name (All-head IsName name names h)) (later_clean names (All-tail IsName name names h)))

names_clean : (names : List (List ℕ)) → AreNames names → HasNoBrace (listed names)
names_clean [] h = absurd h
names_clean (name ∷ names) h =
    All-append (λ b. (is_open b || is_close b) ≡ false) name (flat_map after_comma names) (name_clean name h.0) (later_clean names h.1)

inner_clean : (operator : Operator) (names : List (List ℕ)) → AreNames names → HasNoBrace (mark operator ++ listed names)
inner_clean operator names h =
    All-append (λ b. (is_open b || is_close b) ≡ false) (mark operator) (listed names) (mark_clean operator) (names_clean names h)

-- an expression in front, spelled
in_front : (inner a b : List ℕ) → (inner ++ 125 ∷ []) ++ a ++ b ≡ inner ++ 125 ∷ (a ++ b)
in_front inner a b = append_assoc (inner ++ 125 ∷ []) a b ∙ append_assoc inner (125 ∷ []) (a ++ b)

at_expression : (operator : Operator) (names : List (List ℕ)) (parts : List Part) (rest : List ℕ) → AreNames names
    → whole (spelling (Expression operator names ∷ parts) ++ rest) ≡ with_part (Expression operator names) (whole (spelling parts ++ rest))
at_expression operator names parts rest h =
    let inner = mark operator ++ listed names in
    ap (λ x. whole (123 ∷ x)) (in_front inner (spelling parts) rest)
    ∙ at_brace (inner ++ 125 ∷ (spelling parts ++ rest)) ∙ at_closed inner (spelling parts ++ rest) (inner_clean operator names h)
    ∙ ap (λ (x : Result Part TemplateFault). x >>= λ e. with_part e (whole (spelling parts ++ rest)))
    (expression_read inner (Expression operator names) (h, refl))

-- parts that spell a front are read before the rest
front_read : (parts : List Part) (rest : List ℕ) → AreParts parts → IsBound rest → whole (spelling parts ++ rest) ≡ with_parts parts (whole rest)
front_read [] rest h b = sym (none_more (whole rest))
front_read (Literal text ∷ []) rest h b =
    ap (λ x. whole (x ++ rest)) (append-nil text) ∙ at_literal text rest h b
front_read (Literal text ∷ Literal more ∷ parts) rest h b = absurd h
front_read (Literal text ∷ Expression operator names ∷ parts) rest h b =
    let next = Expression operator names ∷ parts in
    ap whole (append_assoc text (spelling next) rest)
    ∙ at_literal text (spelling next ++ rest) h.0 (inl refl)
    ∙ ap (with_part (Literal text)) (front_read (Expression operator names ∷ parts) rest h.1 b) ∙ one_more (Literal text) next (whole rest)
front_read (Expression operator names ∷ parts) rest h b =
    at_expression operator names parts rest h.0
    ∙ ap (with_part (Expression operator names)) (front_read parts rest h.1 b) ∙ one_more (Expression operator names) parts (whole rest)

pub template_read : (text : List ℕ) (parts : List Part) → IsTemplate text parts → whole text ≡ Ok parts
template_read text parts h =
    let ok : List Part → Parts = λ ps. Ok ps in
    ap whole (h.1 ∙ sym (append-nil (spelling parts))) ∙ front_read parts [] h.0 tt ∙ ap ok (append-nil parts)

-- a fault behind a template is told
first_told : (text front rest : List ℕ) (parts : List Part) (f : TemplateFault)
    → IsTemplate front parts → text ≡ front ++ rest → IsBound rest → whole rest ≡ Err f → whole text ≡ Err f
first_told text front rest parts f h split b e =
    ap whole (split ∙ ap (λ x. x ++ rest) h.1) ∙ front_read parts rest h.0 b ∙ ap (with_parts parts) e

bad_bound : (rest : List ℕ) → BeginsBad rest → IsBound rest
bad_bound rest (closes_none more e) = subst IsBound (sym e) (inr refl)
bad_bound rest (not_closed inner more h m e) = subst IsBound (sym e) (inl refl)
bad_bound rest (no_expression inner more h a b e) = subst IsBound (sym e) (inl refl)

bad_here : (rest : List ℕ) → BeginsBad rest → whole rest ≡ Err BadTemplate
bad_here rest (closes_none more e) = ap whole e ∙ at_stray [] more (All-nil (λ b. (is_open b || is_close b) ≡ false))
bad_here rest (not_closed inner more h m e) = ap whole e ∙ at_brace (inner ++ more) ∙ at_unclosed inner more h m
bad_here rest (no_expression inner more h a b e) =
    ap whole e ∙ at_brace (inner ++ 125 ∷ more) ∙ at_closed inner more h
    ∙ ap (λ (x : Result Part TemplateFault). x >>= λ p. with_part p (whole more)) (bad_refused inner a b)

higher_bound : (rest : List ℕ) → BeginsHigher rest → IsBound rest
higher_bound rest (higher inner more h x e) = subst IsBound (sym e) (inl refl)

higher_here : (rest : List ℕ) → BeginsHigher rest → whole rest ≡ Err TemplateLevel
higher_here rest (higher inner more h x e) =
    ap whole e ∙ at_brace (inner ++ 125 ∷ more) ∙ at_closed inner more h
    ∙ ap (λ (x : Result Part TemplateFault). x >>= λ p. with_part p (whole more)) (higher_refused inner x)

pub bad_told : (text : List ℕ) → IsFirst BeginsBad text → whole text ≡ Err BadTemplate
bad_told text f = first_told text f.front f.rest f.parts BadTemplate f.is_template f.split (bad_bound f.rest f.begins) (bad_here f.rest f.begins)

pub higher_told : (text : List ℕ) → IsFirst BeginsHigher text → whole text ≡ Err TemplateLevel
higher_told text f = first_told text f.front f.rest f.parts TemplateLevel f.is_template f.split (higher_bound f.rest f.begins) (higher_here f.rest f.begins)
