-- The result of `expression`: an expression, one of a higher level, or neither.
use Rattle.std.proofs.Common.{◌≡◌, ℕ, List, [], ◌∷◌, ◌++◌, true, false, Some, Result, Ok, Err, refl, ap, sym, subst, ◌∙◌, append_assoc, append-nil}
use Rattle.std.proofs.Common.{arith, ◌==◌, flat_map}
use Rattle.std.specs.List.{slice_split}
use Rattle.std.proofs.lemmas.Bool.{cond_both, cond-true, cond-false}
use Rattle.std.proofs.lemmas.Bool.Decides.{nat_tests}
use Rattle.csvw_template.specs.declared.fault.TemplateFault.{TemplateFault}
use Rattle.csvw_template.specs.declared.fault.TemplateFault.TheVariants.{Memory, TooLong, BadTemplate, TemplateLevel}
use Rattle.csvw_template.specs.declared.part.Operator.{Operator}
use Rattle.csvw_template.specs.declared.part.Operator.TheVariants.{Simple, Reserved, Fragment}
use Rattle.csvw_template.specs.declared.part.Part.{Part}
use Rattle.csvw_template.specs.declared.part.Part.TheVariants.{Literal, Expression}
use Rattle.csvw_template.specs.declared.names.Place.TheVariants.{Char}
use Rattle.csvw_template.specs.declared.names.Kind.{Kind}
use Rattle.csvw_template.specs.declared.names.Kind.TheVariants.{Names, Higher, Bad}
use Rattle.csvw_template.specs.Grammar.{mark, is_modifier, is_level_operator, IsExpression, IsHigher, by_operator, by_modifier}
use Rattle.csvw_template.specs.Name.{IsVarchar, AreNames, listed, further, after_comma}
use Rattle.csvw_template.specs.Reading.{kind, kind_of, is_comma, by_kind, of_operator, expression}
use Rattle.csvw_template.proofs.NamesLemmas.{Begins, letter_begins, percent_begins, is_same, names_pass, split_listed, Tells, tells}

abbrev Answer : Type 0
Answer = Result Part TemplateFault

tells_kind : (text : List ℕ) → Tells text (kind_of text)
unfolding kind_of
tells_kind text = tells text

kind-names : (names : List (List ℕ)) (rest : List ℕ) → AreNames names → kind_of (listed names ++ rest) ≡ kind (Some Char) rest
unfolding kind_of
kind-names names rest h = names_pass names rest h

names_read : (operator : Operator) (names : List (List ℕ)) → AreNames names → of_operator operator (listed names) ≡ Ok (Expression operator names)
names_read operator names h =
    ap (λ k. by_kind k operator (listed names)) (ap kind_of (sym (append-nil (listed names))) ∙ kind-names names [] h)
    ∙ ap (λ ns. let r : Answer = Ok (Expression operator ns) in r) (split_listed names h)

higher_read : (operator : Operator) (names : List (List ℕ)) (b : ℕ) (more : List ℕ)
    → AreNames names → is_modifier b ≡ true → of_operator operator (listed names ++ b ∷ more) ≡ Err TemplateLevel
higher_read operator names b more h m =
    ap (λ k. by_kind k operator (listed names ++ b ∷ more)) (kind-names names (b ∷ more) h ∙ cond-true _ _ _ m)

-- the text begins as a name does
abbrev Opens : List ℕ → Type 0
Opens [] = ⊥
Opens (b ∷ rest) = Begins b

opens_front : (v a b c : List ℕ) → IsVarchar v → Opens (((v ++ a) ++ b) ++ c)
opens_front [] a b c h = absurd h
opens_front (x ∷ []) a b c h = letter_begins x h
opens_front (x ∷ y ∷ []) a b c none = absurd none
opens_front (x ∷ y ∷ z ∷ []) a b c is = percent_begins x is.0
opens_front (x ∷ y ∷ z ∷ w ∷ more) a b c none = absurd none

names_open : (names : List (List ℕ)) (rest : List ℕ) → AreNames names → Opens (listed names ++ rest)
names_open [] rest h = absurd h
names_open (name ∷ names) rest h =
    let n = h.0 in
    let P : List ℕ → Type 0 = λ x. Opens ((x ++ flat_map after_comma names) ++ rest) in
    subst P (sym n.spelled) (opens_front n.first (flat_map further n.others) (flat_map after_comma names) rest n.is_varchar)

simple : (text : List ℕ) → Opens text → expression text ≡ of_operator Simple text
simple [] h = absurd h
simple (b ∷ rest) h =
    let plus : (b == 43) ≡ false = grind (arith, nat_tests) in
    let hash : (b == 35) ≡ false = grind (arith, nat_tests) in
    let level : is_level_operator b ≡ false = grind (arith, nat_tests) in
    cond-false _ _ _ plus ∙ cond-false _ _ _ hash ∙ cond-false _ _ _ level

marked : (operator : Operator) (text : List ℕ) → Opens text → expression (mark operator ++ text) ≡ of_operator operator text
marked Simple text h = simple text h
marked Reserved text h = refl
marked Fragment text h = refl

-- the part is the expression that stands there
abbrev pub IsOf : List ℕ → Part → Type 0
IsOf inner (Literal text) = ⊥
IsOf inner (Expression operator names) = AreNames names × (inner ≡ mark operator ++ listed names)

listed_opens : (names : List (List ℕ)) → AreNames names → Opens (listed names)
listed_opens names h = subst Opens (append-nil (listed names)) (names_open names [] h)

pub expression_read : (inner : List ℕ) (p : Part) → IsOf inner p → expression inner ≡ Ok p
expression_read inner (Literal text) h = absurd h
expression_read inner (Expression operator names) h =
    ap expression h.1 ∙ marked operator (listed names) (listed_opens names h.0) ∙ names_read operator names h.0

pub higher_refused : (inner : List ℕ) → IsHigher inner → expression inner ≡ Err TemplateLevel
higher_refused inner (by_operator b more level e) =
    let plus : (b == 43) ≡ false = grind (arith, nat_tests) in
    let hash : (b == 35) ≡ false = grind (arith, nat_tests) in
    ap expression e ∙ (cond-false _ _ _ plus ∙ cond-false _ _ _ hash ∙ cond-true _ _ _ level)
higher_refused inner (by_modifier operator names b more h m e) =
    ap expression (e ∙ append_assoc (mark operator) (listed names) (b ∷ more))
    ∙ marked operator (listed names ++ b ∷ more) (names_open names (b ∷ more) h) ∙ higher_read operator names b more h m

-- what an answer says of what stands between braces
abbrev pub Answers : List ℕ → Result Part TemplateFault → Type 0
Answers inner (Ok p) = IsOf inner p
Answers inner (Err Memory) = ⊥
Answers inner (Err TooLong) = ⊥
Answers inner (Err BadTemplate) = Unit {0}
Answers inner (Err TemplateLevel) = IsHigher inner

of_kind : (operator : Operator) (text : List ℕ) (k : Kind) → Tells text k → Answers (mark operator ++ text) (by_kind k operator text)
of_kind operator text Names (names, are_names, is_listed) =
    let same : slice_split is_comma text ≡ names = ap (slice_split is_comma) is_listed ∙ split_listed names are_names in
    (subst AreNames (sym same) are_names, ap (λ x. mark operator ++ x) (is_listed ∙ ap listed (sym same)))
of_kind operator text Higher (front, b, more, split, is_modifier, (names, are_names, is_listed)) =
    by_modifier operator names b more are_names is_modifier
    (ap (λ x. mark operator ++ x) (split ∙ ap (λ x. x ++ b ∷ more) is_listed) ∙ sym (append_assoc (mark operator) (listed names) (b ∷ more)))
of_kind operator text Bad t = tt

pub answers : (inner : List ℕ) → Answers inner (expression inner)
answers [] = tt
answers (b ∷ rest) =
    cond_both (b == 43) (of_operator Reserved rest) _ (Answers (b ∷ rest))
    (λ e. let P : ℕ → Type 0 = λ x. Answers (x ∷ rest) (of_operator Reserved rest) in
    subst P (sym (is_same b 43 e)) (of_kind Reserved rest _ (tells_kind rest)))
    (λ _. cond_both (b == 35) (of_operator Fragment rest) _ (Answers (b ∷ rest))
    (λ e. let P : ℕ → Type 0 = λ x. Answers (x ∷ rest) (of_operator Fragment rest) in
    subst P (sym (is_same b 35 e)) (of_kind Fragment rest _ (tells_kind rest)))
    (λ _. cond_both (is_level_operator b) (Err TemplateLevel) (of_operator Simple (b ∷ rest)) (Answers (b ∷ rest))
    (λ level. by_operator b rest level refl)
    (λ _. of_kind Simple (b ∷ rest) _ (tells_kind (b ∷ rest)))))

abbrev IsLevelAnswer : Answer → Type 0
IsLevelAnswer (Ok p) = ⊥
IsLevelAnswer (Err Memory) = ⊥
IsLevelAnswer (Err TooLong) = ⊥
IsLevelAnswer (Err BadTemplate) = ⊥
IsLevelAnswer (Err TemplateLevel) = Unit {0}

abbrev IsFine : Answer → Type 0
IsFine (Ok p) = Unit {0}
IsFine (Err e) = ⊥

pub bad_is_no_expression : (inner : List ℕ) → expression inner ≡ Err BadTemplate → ¬ IsExpression inner
bad_is_no_expression inner e x = subst IsFine (sym (expression_read inner (Expression x.operator x.names) (x.are_names, x.spelled)) ∙ e) tt

pub bad_is_not_higher : (inner : List ℕ) → expression inner ≡ Err BadTemplate → ¬ IsHigher inner
bad_is_not_higher inner e h = subst IsLevelAnswer (sym (higher_refused inner h) ∙ e) tt

refused : (inner : List ℕ) → ¬ IsExpression inner → ¬ IsHigher inner → (r : Answer) → Answers inner r → r ≡ Err BadTemplate
refused inner none low (Ok (Literal text)) a = absurd a
refused inner none low (Ok (Expression operator names)) a = absurd (none (record { operator = operator; names = names; are_names = a.0; spelled = a.1 }))
refused inner none low (Err Memory) a = absurd a
refused inner none low (Err TooLong) a = absurd a
refused inner none low (Err BadTemplate) a = refl
refused inner none low (Err TemplateLevel) a = absurd (low a)

pub bad_refused : (inner : List ℕ) → ¬ IsExpression inner → ¬ IsHigher inner → expression inner ≡ Err BadTemplate
bad_refused inner none low = refused inner none low (expression inner) (answers inner)
