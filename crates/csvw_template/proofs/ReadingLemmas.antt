-- The parts that are read are those of the grammar.
use Rattle.std.proofs.Common.{◌≡◌, ℕ, ◌<◌, ◌≤◌, List, [], ◌∷◌, ◌++◌, true, false, Result, Ok, Err, length, refl, ap, sym, subst, ◌∙◌, append_assoc}
use Rattle.std.proofs.Common.{append-nil, arith, flat_map, All, ⊎_elim, inl, inr, nat_lt, count_by}
use Rattle.std.specs.List.{slice_split, list_any}
use Rattle.std.proofs.lemmas.Bool.{cond_both, cond-false, cases_Bool, or_cases}
use Rattle.std.proofs.lemmas.Bool.Decides.{nat_tests}
use Rattle.std.proofs.lemmas.List.Elements.{All-head, All-tail}
use Rattle.csvw_template.specs.declared.fault.TemplateFault.{TemplateFault}
use Rattle.csvw_template.specs.declared.fault.TemplateFault.TheVariants.{Memory, TooLong, BadTemplate, TemplateLevel}
use Rattle.csvw_template.specs.declared.part.Operator.{Operator}
use Rattle.csvw_template.specs.declared.part.Part.{Part}
use Rattle.csvw_template.specs.declared.part.Part.TheVariants.{Literal, Expression}
use Rattle.csvw_template.specs.Fault.{◌>>=◌}
use Rattle.csvw_template.specs.Name.{listed}
use Rattle.csvw_template.specs.Grammar.{is_open, is_close, HasNoBrace, mark, spelling, AreParts, IsTemplate, IsEndOrOpen, BeginsBad, closes_none}
use Rattle.csvw_template.specs.Grammar.{not_closed, no_expression, BeginsHigher, higher, IsFirst, IsWithin, IsPast, IsTheReading}
use Rattle.csvw_template.specs.Reading.{Parts, expression, literal, outside, opened, all_opened, of_pieces, is_past, template}
use Rattle.csvw_template.proofs.ExpressionLemmas.{IsOf, Answers, answers, bad_is_no_expression, bad_is_not_higher}
use Rattle.csvw_template.proofs.PiecesLemmas.{HasNoOpen, no_brace, no_open_left, no_open_right, after_open, IsCut, cut, opened_of, closed}
use Rattle.csvw_template.proofs.PiecesLemmas.{lacks_close, or_left, or_right}
use Rattle.csvw_template.proofs.GrammarLemmas.{whole, regroup, with_part, template_read, bad_told, higher_told}

-- what an answer says of a text
abbrev Found : List ℕ → Parts → Type 0
Found text (Ok parts) = IsTemplate text parts
Found text (Err Memory) = ⊥
Found text (Err TooLong) = ⊥
Found text (Err BadTemplate) = IsFirst BeginsBad text
Found text (Err TemplateLevel) = IsFirst BeginsHigher text

-- no literal stands first
abbrev StartsOpen : List Part → Type 0
StartsOpen [] = Unit {0}
StartsOpen (Literal text ∷ parts) = ⊥
StartsOpen (Expression operator names ∷ parts) = Unit {0}

abbrev IsFirstOpen : (List ℕ → Type 0) → List ℕ → Type 0
IsFirstOpen Begins text = (f : IsFirst Begins text) × StartsOpen f.parts

-- the same of a text that is empty or begins with `{`
abbrev FoundOpen : List ℕ → Parts → Type 0
FoundOpen text (Ok parts) = IsTemplate text parts × StartsOpen parts
FoundOpen text (Err Memory) = ⊥
FoundOpen text (Err TooLong) = ⊥
FoundOpen text (Err BadTemplate) = IsFirstOpen BeginsBad text
FoundOpen text (Err TemplateLevel) = IsFirstOpen BeginsHigher text

are_joined : (front : List ℕ) (parts : List Part) → HasNoBrace front → AreParts parts → StartsOpen parts → AreParts (literal front ++ parts)
are_joined [] parts h a s = a
are_joined (b ∷ bs) [] h a s = (omega arith, h)
are_joined (b ∷ bs) (Literal text ∷ parts) h a s = absurd s
are_joined (b ∷ bs) (Expression operator names ∷ parts) h a s = ((omega arith, h), a)

joined_spelled : (front : List ℕ) (parts : List Part) → spelling (literal front ++ parts) ≡ front ++ spelling parts
joined_spelled [] parts = refl
joined_spelled (b ∷ bs) parts = refl

literal_first : (Begins : List ℕ → Type 0) (front text : List ℕ) → HasNoBrace front → IsFirstOpen Begins text → IsFirst Begins (front ++ text)
literal_first Begins front text h x =
    let f = x.0 in
    record {
      front = front ++ f.front;
      rest = f.rest;
      parts = literal front ++ f.parts;
      is_template = (are_joined front f.parts h f.is_template.0 x.1, ap (λ y. front ++ y) f.is_template.1 ∙ sym (joined_spelled front f.parts));
      begins = f.begins;
      split = ap (λ y. front ++ y) f.split ∙ sym (append_assoc front f.front f.rest);
    }

-- a literal in front
literal_found : (front text : List ℕ) (r : Parts) → HasNoBrace front → FoundOpen text r → Found (front ++ text) (r >>= λ ps. Ok (literal front ++ ps))
literal_found front text (Ok parts) h ((are_parts, spelled), opens) =
    (are_joined front parts h are_parts opens, ap (λ y. front ++ y) spelled ∙ sym (joined_spelled front parts))
literal_found front text (Err Memory) h x = absurd x
literal_found front text (Err TooLong) h x = absurd x
literal_found front text (Err BadTemplate) h x = literal_first BeginsBad front text h x
literal_found front text (Err TemplateLevel) h x = literal_first BeginsHigher front text h x

-- a `}` that closes none
stray_found : (front rest : List ℕ) → HasNoBrace front → IsFirst BeginsBad (front ++ 125 ∷ rest)
stray_found front rest h = record {
  front = front;
  rest = 125 ∷ rest;
  parts = literal front;
  is_template = (
    subst AreParts (append-nil (literal front)) (are_joined front [] h tt tt),
    sym (append-nil front) ∙ (sym (joined_spelled front []) ∙ ap spelling (append-nil (literal front))),
  );
  begins = closes_none rest refl;
  split = refl;
}

-- what stands outside braces, and the rest
outside_found : (piece text : List ℕ) (g : Parts) → HasNoOpen piece → FoundOpen text g
    → Found (piece ++ text) (outside piece >>= λ o. g >>= λ es. Ok (o ++ es))
outside_found piece text g h x =
    let P : Parts → Type 0 = λ r. Found (piece ++ text) (r >>= λ o. g >>= λ es. Ok (o ++ es)) in
    cond_both (list_any is_close piece) (Err BadTemplate) (Ok (literal piece)) P
    (λ e.
    let c = closed piece e in
    let clean = no_brace c.inner (no_open_left c.inner (125 ∷ c.rest) (subst HasNoOpen c.split h)) c.lacks in
    subst (IsFirst BeginsBad) (sym (ap (λ y. y ++ text) c.split ∙ append_assoc c.inner (125 ∷ c.rest) text)) (stray_found c.inner (c.rest ++ text) clean))
    (λ e. literal_found piece text g (no_brace piece h (lacks_close piece e)) x)

abbrev Total : Result Part TemplateFault → Parts → Parts
Total x r = x >>= λ e. with_part e r

-- an expression in front
expression_spelled : (inner rest : List ℕ) (operator : Operator) (names : List (List ℕ)) (parts : List Part)
    → inner ≡ mark operator ++ listed names → rest ≡ spelling parts → 123 ∷ (inner ++ 125 ∷ rest) ≡ spelling (Expression operator names ∷ parts)
expression_spelled inner rest operator names parts e f =
    ap (λ x. 123 ∷ (x ++ 125 ∷ rest)) e ∙ ap (λ x. 123 ∷ ((mark operator ++ listed names) ++ 125 ∷ x)) f
    ∙ ap (λ x. 123 ∷ x) (sym (append_assoc (mark operator ++ listed names) (125 ∷ []) (spelling parts)))

expression_first : (Begins : List ℕ → Type 0) (inner text : List ℕ) (p : Part) → IsOf inner p → IsFirst Begins text
    → IsFirstOpen Begins (123 ∷ (inner ++ 125 ∷ text))
expression_first Begins inner text (Literal t) is f = absurd is
expression_first Begins inner text (Expression operator names) is f = (
  record {
    front = 123 ∷ (inner ++ 125 ∷ f.front);
    rest = f.rest;
    parts = Expression operator names ∷ f.parts;
    is_template = ((is.0, f.is_template.0), expression_spelled inner f.front operator names f.parts is.1 f.is_template.1);
    begins = f.begins;
    split = ap (λ y. 123 ∷ (inner ++ 125 ∷ y)) f.split ∙ ap (λ y. 123 ∷ y) (sym (append_assoc inner (125 ∷ f.front) f.rest));
  },
  tt,
)

expression_found : (inner text : List ℕ) (p : Part) (r : Parts) → IsOf inner p → Found text r → FoundOpen (123 ∷ (inner ++ 125 ∷ text)) (with_part p r)
expression_found inner text (Literal t) r is f = absurd is
expression_found inner text (Expression operator names) (Ok parts) is f =
    (((is.0, f.0), expression_spelled inner text operator names parts is.1 f.1), tt)
expression_found inner text (Expression operator names) (Err Memory) is f = absurd f
expression_found inner text (Expression operator names) (Err TooLong) is f = absurd f
expression_found inner text (Expression operator names) (Err BadTemplate) is f = expression_first BeginsBad inner text (Expression operator names) is f
expression_found inner text (Expression operator names) (Err TemplateLevel) is f = expression_first BeginsHigher inner text (Expression operator names) is f

-- a fault at the very front
at_front : (Begins : List ℕ → Type 0) (text : List ℕ) → Begins text → IsFirstOpen Begins text
at_front Begins text b = (record { front = []; rest = text; parts = []; is_template = (tt, refl); begins = b; split = refl }, tt)

braces_found : (inner text : List ℕ) (r : Parts) (x : Result Part TemplateFault) → HasNoBrace inner → expression inner ≡ x → Answers inner x → Found text r
    → FoundOpen (123 ∷ (inner ++ 125 ∷ text)) (Total x r)
braces_found inner text r (Ok p) h e a f = expression_found inner text p r a f
braces_found inner text r (Err Memory) h e a f = absurd a
braces_found inner text r (Err TooLong) h e a f = absurd a
braces_found inner text r (Err BadTemplate) h e a f =
    at_front BeginsBad _ (no_expression inner text h (bad_is_no_expression inner e) (bad_is_not_higher inner e) refl)
braces_found inner text r (Err TemplateLevel) h e a f = at_front BeginsHigher _ (higher inner text h a refl)

-- one piece after its `{`, and the others
piece_found : (piece text : List ℕ) (g : Parts) → HasNoOpen piece → IsEndOrOpen text → FoundOpen text g
    → FoundOpen (123 ∷ (piece ++ text)) (opened piece >>= λ a. g >>= λ es. Ok (a ++ es))
piece_found piece text g h end f =
    ⊎_elim
    (λ (e : list_any is_close piece ≡ true).
    let c = closed piece e in
    let open_free = subst HasNoOpen c.split h in
    let clean = no_brace c.inner (no_open_left c.inner (125 ∷ c.rest) open_free) c.lacks in
    let tail = no_open_right (c.inner ++ 125 ∷ []) c.rest (subst HasNoOpen (sym (append_assoc c.inner (125 ∷ []) c.rest)) open_free) in
    let r : Parts = outside c.rest >>= λ a. g >>= λ es. Ok (a ++ es) in
    let answer : (opened piece >>= λ a. g >>= λ es. Ok (a ++ es)) ≡ Total (expression c.inner) r =
    ap (λ (x : Parts). x >>= λ a. g >>= λ es. Ok (a ++ es)) (ap opened c.split ∙ opened_of c.inner c.rest c.lacks)
    ∙ regroup (expression c.inner) (outside c.rest) g in
    let spelled : 123 ∷ (c.inner ++ 125 ∷ (c.rest ++ text)) ≡ 123 ∷ (piece ++ text) =
    ap (λ x. 123 ∷ x) (sym (ap (λ x. x ++ text) c.split ∙ append_assoc c.inner (125 ∷ c.rest) text)) in
    let found = braces_found c.inner (c.rest ++ text) r (expression c.inner) clean refl (answers c.inner) (outside_found c.rest text g tail f) in
    let P : Parts → Type 0 = λ x. FoundOpen (123 ∷ (piece ++ text)) x in
    let Q : List ℕ → Type 0 = λ x. FoundOpen x (Total (expression c.inner) r) in
    subst P (sym answer) (subst Q spelled found))
    (λ (e : list_any is_close piece ≡ false).
    let refuses : opened piece ≡ Err BadTemplate = cond-false _ _ _ e in
    let answer : (opened piece >>= λ a. g >>= λ es. Ok (a ++ es)) ≡ Err BadTemplate = ap (λ (x : Parts). x >>= λ a. g >>= λ es. Ok (a ++ es)) refuses in
    let P : Parts → Type 0 = λ x. FoundOpen (123 ∷ (piece ++ text)) x in
    subst P (sym answer) (at_front BeginsBad _ (not_closed piece text (no_brace piece h (lacks_close piece e)) end refl)))
    (cases_Bool (list_any is_close piece))

ends_or_opens : (ps : List (List ℕ)) → IsEndOrOpen (flat_map after_open ps)
ends_or_opens [] = tt
ends_or_opens (p ∷ ps) = refl

pieces_found : (ps : List (List ℕ)) → All HasNoOpen ps → FoundOpen (flat_map after_open ps) (all_opened ps)
pieces_found [] h = ((tt, refl), tt)
pieces_found (p ∷ ps) h =
    piece_found p (flat_map after_open ps) (all_opened ps) (All-head HasNoOpen p ps h) (ends_or_opens ps) (pieces_found ps (All-tail HasNoOpen p ps h))

of_cut : (text : List ℕ) (ps : List (List ℕ)) → IsCut text ps → Found text (of_pieces ps)
of_cut text [] c = absurd c
of_cut text (p ∷ ps) c =
    let P : List ℕ → Type 0 = λ x. Found x (of_pieces (p ∷ ps)) in
    subst P (sym c.0) (outside_found p (flat_map after_open ps) (all_opened ps) c.1 (pieces_found ps c.2))

found : (text : List ℕ) → Found text (whole text)
found text = of_cut text (slice_split is_open text) (cut text)

-- The limits.
past_from : (text : List ℕ) → is_past text ≡ true → IsPast text
past_from text e =
    ⊎_elim (λ (a : nat_lt 4096 (length text) ≡ true). let l : 4096 < length text = grind (arith, nat_tests) in inl l)
    (λ (a : nat_lt 32 (count_by is_open text) ≡ true). let l : 32 < count_by is_open text = grind (arith, nat_tests) in inr l)
    (or_cases _ _ e)

within_from : (text : List ℕ) → is_past text ≡ false → IsWithin text
within_from text e =
    let a = or_left (nat_lt 4096 (length text)) (nat_lt 32 (count_by is_open text)) e in
    let b = or_right (nat_lt 4096 (length text)) (nat_lt 32 (count_by is_open text)) e in
    let short : length text ≤ 4096 = grind (arith, nat_tests) in
    let few : count_by is_open text ≤ 32 = grind (arith, nat_tests) in
    (short, few)

never_both : (text : List ℕ) → IsWithin text → IsPast text → ⊥
never_both text w p =
    ⊎_elim (λ (l : 4096 < length text). let c : ⊥ = omega (arith, w.0, l) in c) (λ (l : 32 < count_by is_open text). let c : ⊥ = omega (arith, w.1, l) in c) p

abbrev IsTooLong : Parts → Type 0
IsTooLong (Ok parts) = ⊥
IsTooLong (Err Memory) = ⊥
IsTooLong (Err TooLong) = Unit {0}
IsTooLong (Err BadTemplate) = ⊥
IsTooLong (Err TemplateLevel) = ⊥

past_reading : (text : List ℕ) → IsPast text → IsTheReading text (Err TooLong)
past_reading text past = record {
  too_long = (λ _. past, λ _. refl);
  is_template = λ parts. (λ e. absurd (subst IsTooLong e tt), λ h. absurd (never_both text h.0 past));
  bad = (λ e. absurd (subst IsTooLong e tt), λ h. absurd (never_both text h.0 past));
  higher = (λ e. absurd (subst IsTooLong e tt), λ h. absurd (never_both text h.0 past));
}

within_reading : (text : List ℕ) → IsWithin text → IsTheReading text (whole text)
within_reading text within = record {
  too_long = (λ e. absurd (subst (Found text) e (found text)), λ p. absurd (never_both text within p));
  is_template = λ parts. (λ e. (within, subst (Found text) e (found text)), λ h. template_read text parts h.1);
  bad = (λ e. (within, subst (Found text) e (found text)), λ h. bad_told text h.1);
  higher = (λ e. (within, subst (Found text) e (found text)), λ h. higher_told text h.1);
}

-- the reading is the grammar's
pub reading : (text : List ℕ) → IsTheReading text (template text)
unfolding template
reading text =
    cond_both (is_past text) (Err TooLong) (whole text) (IsTheReading text) (λ e. past_reading text (past_from text e))
    (λ e. within_reading text (within_from text e))

-- no answer of the function is Memory
abbrev IsNoMemory : Parts → Type 0
IsNoMemory (Ok parts) = Unit {0}
IsNoMemory (Err Memory) = ⊥
IsNoMemory (Err TooLong) = Unit {0}
IsNoMemory (Err BadTemplate) = Unit {0}
IsNoMemory (Err TemplateLevel) = Unit {0}

found_no_memory : (text : List ℕ) (r : Parts) → Found text r → IsNoMemory r
found_no_memory text (Ok parts) f = tt
found_no_memory text (Err Memory) f = f
found_no_memory text (Err TooLong) f = tt
found_no_memory text (Err BadTemplate) f = tt
found_no_memory text (Err TemplateLevel) f = tt

no_memory : (text : List ℕ) → IsNoMemory (template text)
unfolding template
no_memory text =
    cond_both (is_past text) (Err TooLong) (whole text) IsNoMemory (λ e. tt) (λ e. found_no_memory text (whole text) (found text))

-- two readings of a text are one, as each has an answer that the grammar has
agree : (text : List ℕ) (answer r : Parts) → IsNoMemory r → IsTheReading text r → IsTheReading text answer → answer ≡ r
agree text answer (Ok parts) n reads other = (other.is_template parts).1 ((reads.is_template parts).0 refl)
agree text answer (Err Memory) n reads other = absurd n
agree text answer (Err TooLong) n reads other = other.too_long.1 (reads.too_long.0 refl)
agree text answer (Err BadTemplate) n reads other = other.bad.1 (reads.bad.0 refl)
agree text answer (Err TemplateLevel) n reads other = other.higher.1 (reads.higher.0 refl)

pub only_reading : (text : List ℕ) (answer : Parts) → IsTheReading text answer → answer ≡ template text
only_reading text answer other = agree text answer (template text) (no_memory text) (reading text) other
