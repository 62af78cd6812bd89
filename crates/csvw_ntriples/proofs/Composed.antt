-- A triple from its parts.
use Rattle.std.proofs.Common.{◌≡◌, ℕ, List, [], ◌∷◌, ◌++◌, refl, sym, ap, ◌∙◌, subst, Option, Some, None, Bor, Result, Err, inl, inr}
use Rattle.std.specs.Prelude.{codes, encode_utf8_all}
use Rattle.csvw_text.specs.Language.{is_language_tag}
use Rattle.csvw_iri.specs.Vocabulary.{lang_string, xsd_string}
use Rattle.csvw_ntriples.specs.Character.{is_blank}
use Rattle.csvw_ntriples.specs.Terminal.{InBytes, IsString, IsLangtag}
use Rattle.csvw_ntriples.specs.Grammar.{Takes, IsMark, TakesIri, TakesBlank, TakesNode, TakesSuffix, TakesLit, TakesTerm, IsIdle, IsTripleLine}
use Rattle.csvw_ntriples.specs.Reading.{IsRun, dark, Finds, FindsBeforeDot, TagBefore, Answers, EndsLine, LineGives}
use Rattle.csvw_ntriples.specs.declared.reading.literal.Suffix.{Suffix}
use Rattle.csvw_ntriples.specs.declared.term.NtFault.{NtFault}
use Rattle.csvw_ntriples.specs.declared.term.NtFault.TheVariants.{Memory, Syntax}
use Rattle.csvw_ntriples.specs.declared.term.NtNode.{NtNode}
use Rattle.csvw_ntriples.specs.declared.term.NtNode.TheVariants as node
use Rattle.csvw_ntriples.specs.declared.term.NtLit.{NtLit}
use Rattle.csvw_ntriples.specs.declared.term.NtTerm.{NtTerm}
use Rattle.csvw_ntriples.specs.declared.term.NtTerm.TheVariants as term
use Rattle.csvw_ntriples.specs.declared.term.NtTriple.{NtTriple}
use Rattle.csvw_ntriples.proofs.Begun.{past_gap}
use Rattle.csvw_ntriples.proofs.Once.{node_once, iri_once, string_once, blank_once, dot_once, iri_dark, blank_dark, lit_dark, tag_dark, hats_dark}
use Rattle.csvw_ntriples.proofs.Once.{dot_dark, apart, differ}
use Rattle.csvw_ntriples.proofs.Runs.{first_of, dark_run}
use Rattle.csvw_ntriples.proofs.Spelled.{mark_longest}

-- an error of a part is an error of the whole
pub err_on : {V W : Type 0} (R : V → List ℕ → Type 0) (S : W → List ℕ → Type 0) (r : Result (W × Bor (List ℕ)) NtFault) (e f : NtFault) → r ≡ Err e → e ≡ f
    → Finds R (Err f) → (((v : V) (rest : List ℕ) → R v rest → ⊥) → (w : W) (rest : List ℕ) → S w rest → ⊥) → Finds S r
err_on R S r e Memory p q g h = subst (Finds S) (sym (p ∙ ap Err q)) tt
err_on R S r e Syntax p q g h = subst (Finds S) (sym (p ∙ ap Err q)) (h g)

pub err_on_dot : {V W : Type 0} (R : V → List ℕ → Type 0) (S : W → List ℕ → Type 0) (r : Result (W × Bor (List ℕ)) NtFault) (e f : NtFault) → r ≡ Err e → e ≡ f
    → Finds R (Err f) → (((v : V) (rest : List ℕ) → R v rest → ⊥) → (w : W) (rest : List ℕ) → S w rest → dark rest ≡ Some 46 → ⊥) → FindsBeforeDot S r
err_on_dot R S r e Memory p q g h = subst (FindsBeforeDot S) (sym (p ∙ ap Err q)) tt
err_on_dot R S r e Syntax p q g h = subst (FindsBeforeDot S) (sym (p ∙ ap Err q)) (h g)

pub dot_on_dot : {V W : Type 0} (R : V → List ℕ → Type 0) (S : W → List ℕ → Type 0) (r : Result (W × Bor (List ℕ)) NtFault) (e f : NtFault) → r ≡ Err e → e ≡ f
    → FindsBeforeDot R (Err f) → (((v : V) (rest : List ℕ) → R v rest → dark rest ≡ Some 46 → ⊥) → (w : W) (rest : List ℕ) → S w rest
    → dark rest ≡ Some 46 → ⊥) → FindsBeforeDot S r
dot_on_dot R S r e Memory p q g h = subst (FindsBeforeDot S) (sym (p ∙ ap Err q)) tt
dot_on_dot R S r e Syntax p q g h = subst (FindsBeforeDot S) (sym (p ∙ ap Err q)) (h g)

pub memory_on_dot : {W : Type 0} (S : W → List ℕ → Type 0) (r : Result (W × Bor (List ℕ)) NtFault) (e f : NtFault) → r ≡ Err e → e ≡ f → f ≡ Memory
    → FindsBeforeDot S r
memory_on_dot S r e f p q m = subst (FindsBeforeDot S) (sym (p ∙ ap Err (q ∙ m))) tt

pub err_answer : {V W : Type 0} (R : V → List ℕ → Type 0) (S : W → Type 0) (r : Result W NtFault) (e f : NtFault) → r ≡ Err e → e ≡ f
    → Finds R (Err f) → (((v : V) (rest : List ℕ) → R v rest → ⊥) → (w : W) → S w → ⊥) → Answers S r
err_answer R S r e Memory p q g h = subst (Answers S) (sym (p ∙ ap Err q)) tt
err_answer R S r e Syntax p q g h = subst (Answers S) (sym (p ∙ ap Err q)) (h g)

pub dot_answer : {V W : Type 0} (R : V → List ℕ → Type 0) (S : W → Type 0) (r : Result W NtFault) (e f : NtFault) → r ≡ Err e → e ≡ f
    → FindsBeforeDot R (Err f) → (((v : V) (rest : List ℕ) → R v rest → dark rest ≡ Some 46 → ⊥) → (w : W) → S w → ⊥) → Answers S r
dot_answer R S r e Memory p q g h = subst (Answers S) (sym (p ∙ ap Err q)) tt
dot_answer R S r e Syntax p q g h = subst (Answers S) (sym (p ∙ ap Err q)) (h g)

pub answer_on : {V W : Type 0} (R : V → Type 0) (S : W → Type 0) (r : Result W NtFault) (e f : NtFault) → r ≡ Err e → e ≡ f
    → Answers R (Err f) → (((v : V) → R v → ⊥) → (w : W) → S w → ⊥) → Answers S r
answer_on R S r e Memory p q g h = subst (Answers S) (sym (p ∙ ap Err q)) tt
answer_on R S r e Syntax p q g h = subst (Answers S) (sym (p ∙ ap Err q)) (h g)

-- nodes
pub no_named : (text : List ℕ) → dark text ≡ Some 60 → ((v rest : List ℕ) → TakesIri v text rest → ⊥) → (n : NtNode) (rest : List ℕ) → TakesNode n text rest → ⊥
no_named text d none (node.Named v) rest t = none v rest t
no_named text d none (node.Blank v) rest t = apart text 95 60 (blank_dark v text rest t) d (differ 95 60 refl)

pub no_blank : (text : List ℕ) → dark text ≡ Some 95 → ((v rest : List ℕ) → TakesBlank v text rest → ⊥) → (n : NtNode) (rest : List ℕ)
    → TakesNode n text rest → ⊥
no_blank text d none (node.Named v) rest t = apart text 60 95 (iri_dark v text rest t) d (differ 60 95 refl)
no_blank text d none (node.Blank v) rest t = none v rest t

pub no_node : (text : List ℕ) → (dark text ≡ Some 60 → ⊥) → (dark text ≡ Some 95 → ⊥) → (n : NtNode) (rest : List ℕ) → TakesNode n text rest → ⊥
no_node text a b (node.Named v) rest t = a (iri_dark v text rest t)
no_node text a b (node.Blank v) rest t = b (blank_dark v text rest t)

pub literal_no_node : (text : List ℕ) → dark text ≡ Some 34 → (n : NtNode) (rest : List ℕ) → TakesNode n text rest → ⊥
literal_no_node text d = no_node text (λ e. apart text 60 34 e d (differ 60 34 refl)) (λ e. apart text 95 34 e d (differ 95 34 refl))

-- terms
pub no_named_term : (text : List ℕ) → dark text ≡ Some 60 → ((v rest : List ℕ) → TakesIri v text rest → ⊥) → (t : NtTerm) (rest : List ℕ)
    → TakesTerm t text rest → dark rest ≡ Some 46 → ⊥
no_named_term text d none (term.Named v) rest t _ = none v rest t
no_named_term text d none (term.Blank v) rest t _ = apart text 95 60 (blank_dark v text rest t) d (differ 95 60 refl)
no_named_term text d none (term.Literal l) rest t _ = apart text 34 60 (lit_dark l text rest t) d (differ 34 60 refl)

pub no_blank_term : (text : List ℕ) → dark text ≡ Some 95 → ((v rest : List ℕ) → TakesBlank v text rest → ⊥) → (t : NtTerm) (rest : List ℕ)
    → TakesTerm t text rest → dark rest ≡ Some 46 → ⊥
no_blank_term text d none (term.Named v) rest t _ = apart text 60 95 (iri_dark v text rest t) d (differ 60 95 refl)
no_blank_term text d none (term.Blank v) rest t _ = none v rest t
no_blank_term text d none (term.Literal l) rest t _ = apart text 34 95 (lit_dark l text rest t) d (differ 34 95 refl)

pub no_literal_term : (text : List ℕ) → dark text ≡ Some 34 → ((l : NtLit) (rest : List ℕ) → TakesLit l text rest → dark rest ≡ Some 46 → ⊥)
    → (t : NtTerm) (rest : List ℕ) → TakesTerm t text rest → dark rest ≡ Some 46 → ⊥
no_literal_term text d none (term.Named v) rest t _ = apart text 60 34 (iri_dark v text rest t) d (differ 60 34 refl)
no_literal_term text d none (term.Blank v) rest t _ = apart text 95 34 (blank_dark v text rest t) d (differ 95 34 refl)
no_literal_term text d none (term.Literal l) rest t dot = none l rest t dot

pub no_term : (text : List ℕ) → (dark text ≡ Some 60 → ⊥) → (dark text ≡ Some 95 → ⊥) → (dark text ≡ Some 34 → ⊥) → (t : NtTerm) (rest : List ℕ)
    → TakesTerm t text rest → dark rest ≡ Some 46 → ⊥
no_term text a b e (term.Named v) rest t _ = a (iri_dark v text rest t)
no_term text a b e (term.Blank v) rest t _ = b (blank_dark v text rest t)
no_term text a b e (term.Literal l) rest t _ = e (lit_dark l text rest t)

-- before a dot there is one term
pub named_term_once : (text v end : List ℕ) → dark text ≡ Some 60 → TakesIri v text end → (t : NtTerm) (rest : List ℕ) → TakesTerm t text rest
    → dark rest ≡ Some 46 → rest ≡ end
named_term_once text v end d f (term.Named w) rest t _ = (iri_once w v text rest end t f).1
named_term_once text v end d f (term.Blank w) rest t _ = absurd (apart text 95 60 (blank_dark w text rest t) d (differ 95 60 refl))
named_term_once text v end d f (term.Literal l) rest t _ = absurd (apart text 34 60 (lit_dark l text rest t) d (differ 34 60 refl))

pub blank_term_once : (text v end : List ℕ) → dark text ≡ Some 95 → TakesBlank v text end → (t : NtTerm) (rest : List ℕ) → TakesTerm t text rest
    → dark rest ≡ Some 46 → rest ≡ end
blank_term_once text v end d f (term.Named w) rest t _ = absurd (apart text 60 95 (iri_dark w text rest t) d (differ 60 95 refl))
blank_term_once text v end d f (term.Blank w) rest t _ = (blank_once w v text rest end t f).1
blank_term_once text v end d f (term.Literal l) rest t _ = absurd (apart text 34 95 (lit_dark l text rest t) d (differ 34 95 refl))

pub literal_term_once : (text end : List ℕ) → dark text ≡ Some 34 → ((l : NtLit) (rest : List ℕ) → TakesLit l text rest → dark rest ≡ Some 46 → rest ≡ end)
    → (t : NtTerm) (rest : List ℕ) → TakesTerm t text rest → dark rest ≡ Some 46 → rest ≡ end
literal_term_once text end d once (term.Named w) rest t _ = absurd (apart text 60 34 (iri_dark w text rest t) d (differ 60 34 refl))
literal_term_once text end d once (term.Blank w) rest t _ = absurd (apart text 95 34 (blank_dark w text rest t) d (differ 95 34 refl))
literal_term_once text end d once (term.Literal l) rest t dot = once l rest t dot

-- languages and datatypes
tag_takes : (text gap rest after v end : List ℕ) → IsRun is_blank text gap rest → rest ≡ 64 ∷ after → TagBefore v after end
    → Takes (InBytes IsLangtag) v text end
tag_takes text gap rest after v end (text_is, blank, _) e (tag, after_is, is_tag, longest, bytes) = (
  gap,
  64 ∷ tag,
  text_is ∙ ap (λ z. gap ++ z) (e ∙ ap (λ z. 64 ∷ z) after_is),
  blank,
  (tag, (refl, is_tag), bytes),
  λ more others w g (longer, (marked, is), _).
      let inner : tag ++ more ≡ longer = let k : 64 ∷ (tag ++ more) ≡ 64 ∷ longer = marked in cc in
      longest more others (tag ++ more) g (ap is_language_tag inner ∙ is, refl),
)

tag_taken : (text gap rest v end : List ℕ) → IsRun is_blank text gap rest → Takes (InBytes IsLangtag) v text end
    → (after : List ℕ) × (rest ≡ 64 ∷ after) × TagBefore v after end
tag_taken text gap rest v end r (space, piece, spelled, blank, (tag, (marked, is_tag), bytes), longest) = (
  tag ++ end,
  past_gap text gap rest space (tag ++ end) 64 r blank refl (spelled ∙ ap (λ z. space ++ z) (ap (λ z. z ++ end) marked)),
  (
    tag,
    refl,
    is_tag,
    λ more others w g (is, _). longest more others (encode_utf8_all (tag ++ more)) g (tag ++ more, (ap (λ z. z ++ more) marked, is), refl),
    bytes,
  ),
)

hats_take : (text gap rest after : List ℕ) → IsRun is_blank text gap rest → rest ≡ 94 ∷ 94 ∷ after → Takes (IsMark (codes "^^")) tt text after
hats_take text gap rest after (text_is, blank, _) e = (gap, 94 ∷ 94 ∷ [], text_is ∙ ap (λ z. gap ++ z) e, blank, refl, mark_longest (94 ∷ 94 ∷ []) after)

hats_taken : (text gap rest end : List ℕ) → IsRun is_blank text gap rest → Takes (IsMark (codes "^^")) tt text end → rest ≡ 94 ∷ 94 ∷ end
hats_taken text gap rest end r (space, piece, spelled, blank, hats, _) =
    past_gap text gap rest space (94 ∷ end) 94 r blank refl (spelled ∙ ap (λ z. space ++ (z ++ end)) hats)

one_tail : (x y : ℕ) (xs ys rest : List ℕ) → rest ≡ x ∷ xs → rest ≡ y ∷ ys → xs ≡ ys
one_tail x y xs ys rest e f = let k : x ∷ xs ≡ y ∷ ys = sym e ∙ f in cc

two_tails : (xs ys rest : List ℕ) → rest ≡ 94 ∷ 94 ∷ xs → rest ≡ 94 ∷ 94 ∷ ys → xs ≡ ys
two_tails xs ys rest e f = let k : 94 ∷ 94 ∷ xs ≡ 94 ∷ 94 ∷ ys = sym e ∙ f in cc

begins_dark : (text gap rest after : List ℕ) (c : ℕ) → IsRun is_blank text gap rest → rest ≡ c ∷ after → dark text ≡ Some c
begins_dark text gap rest after c r e = dark_run text gap rest r ∙ ap first_of e

pub typed_takes : (text gap rest after v end : List ℕ) → IsRun is_blank text gap rest → rest ≡ 94 ∷ 94 ∷ after → TakesIri v after end
    → TakesSuffix None v text end
typed_takes text gap rest after v end r e t = inr (after, hats_take text gap rest after r e, t)

pub typed_once : (text gap rest after v end : List ℕ) → IsRun is_blank text gap rest → rest ≡ 94 ∷ 94 ∷ after → TakesIri v after end
    → (lang : Option (List ℕ)) (datatype other : List ℕ) → TakesSuffix lang datatype text other → dark other ≡ Some 46 → other ≡ end
typed_once text gap rest after v end r e t None datatype other (inl (_, text_is)) d =
    absurd (apart text 46 94 (ap dark text_is ∙ d) (begins_dark text gap rest (94 ∷ after) 94 r e) (differ 46 94 refl))
typed_once text gap rest after v end r e t None datatype other (inr (behind, hats, iri)) d =
    let same = two_tails behind after rest (hats_taken text gap rest behind r hats) e in
    (iri_once datatype v after other end (subst (λ z. TakesIri datatype z other) same iri) t).1
typed_once text gap rest after v end r e t (Some tag) datatype other (_, takes) d =
    absurd (apart text 64 94 (tag_dark tag text other takes) (begins_dark text gap rest (94 ∷ after) 94 r e) (differ 64 94 refl))

pub no_typed : (text gap rest after : List ℕ) → IsRun is_blank text gap rest → rest ≡ 94 ∷ 94 ∷ after → ((v end : List ℕ) → TakesIri v after end → ⊥)
    → (lang : Option (List ℕ)) (datatype other : List ℕ) → TakesSuffix lang datatype text other → dark other ≡ Some 46 → ⊥
no_typed text gap rest after r e none None datatype other (inl (_, text_is)) d =
    apart text 46 94 (ap dark text_is ∙ d) (begins_dark text gap rest (94 ∷ after) 94 r e) (differ 46 94 refl)
no_typed text gap rest after r e none None datatype other (inr (behind, hats, iri)) d =
    let same = two_tails behind after rest (hats_taken text gap rest behind r hats) e in
    none datatype other (subst (λ z. TakesIri datatype z other) same iri)
no_typed text gap rest after r e none (Some tag) datatype other (_, takes) d =
    apart text 64 94 (tag_dark tag text other takes) (begins_dark text gap rest (94 ∷ after) 94 r e) (differ 64 94 refl)

pub tagged_takes : (text gap rest after v end : List ℕ) (lang : Option (List ℕ)) (datatype : List ℕ) → IsRun is_blank text gap rest
    → rest ≡ 64 ∷ after → TagBefore v after end
    → lang ≡ Some v → datatype ≡ lang_string → TakesSuffix lang datatype text end
tagged_takes text gap rest after v end lang datatype r e t p q =
    subst (λ (z : Option (List ℕ)). TakesSuffix z datatype text end) (sym p) (q, tag_takes text gap rest after v end r e t)

pub tagged_once : (text gap rest after end : List ℕ) → IsRun is_blank text gap rest → rest ≡ 64 ∷ after
    → ((v other : List ℕ) → TagBefore v after other → dark other ≡ Some 46 → other ≡ end)
    → (lang : Option (List ℕ)) (datatype other : List ℕ) → TakesSuffix lang datatype text other → dark other ≡ Some 46 → other ≡ end
tagged_once text gap rest after end r e once None datatype other (inl (_, text_is)) d =
    absurd (apart text 46 64 (ap dark text_is ∙ d) (begins_dark text gap rest after 64 r e) (differ 46 64 refl))
tagged_once text gap rest after end r e once None datatype other (inr (behind, hats, _)) d =
    absurd (apart text 94 64 (hats_dark text behind hats) (begins_dark text gap rest after 64 r e) (differ 94 64 refl))
tagged_once text gap rest after end r e once (Some tag) datatype other (_, takes) d =
    let (behind, begins, before) = tag_taken text gap rest tag other r takes in
    once tag other (subst (λ z. TagBefore tag z other) (one_tail 64 64 behind after rest begins e) before) d

pub no_tagged : (text gap rest after : List ℕ) → IsRun is_blank text gap rest → rest ≡ 64 ∷ after
    → ((v other : List ℕ) → TagBefore v after other → dark other ≡ Some 46 → ⊥)
    → (lang : Option (List ℕ)) (datatype other : List ℕ) → TakesSuffix lang datatype text other → dark other ≡ Some 46 → ⊥
no_tagged text gap rest after r e none None datatype other (inl (_, text_is)) d =
    apart text 46 64 (ap dark text_is ∙ d) (begins_dark text gap rest after 64 r e) (differ 46 64 refl)
no_tagged text gap rest after r e none None datatype other (inr (behind, hats, _)) d =
    apart text 94 64 (hats_dark text behind hats) (begins_dark text gap rest after 64 r e) (differ 94 64 refl)
no_tagged text gap rest after r e none (Some tag) datatype other (_, takes) d =
    let (behind, begins, before) = tag_taken text gap rest tag other r takes in
    none tag other (subst (λ z. TagBefore tag z other) (one_tail 64 64 behind after rest begins e) before) d

pub plain_takes : (text : List ℕ) (lang : Option (List ℕ)) (datatype : List ℕ) → lang ≡ None → datatype ≡ xsd_string → TakesSuffix lang datatype text text
plain_takes text lang datatype p q = subst (λ (z : Option (List ℕ)). TakesSuffix z datatype text text) (sym p) (inl (q, refl))

pub plain_once : (text gap rest : List ℕ) → IsRun is_blank text gap rest → ((after : List ℕ) → rest ≡ 94 ∷ 94 ∷ after → ⊥)
    → ((after : List ℕ) → rest ≡ 64 ∷ after → ⊥)
    → (lang : Option (List ℕ)) (datatype other : List ℕ) → TakesSuffix lang datatype text other → dark other ≡ Some 46 → other ≡ text
plain_once text gap rest r hats at None datatype other (inl (_, text_is)) d = sym text_is
plain_once text gap rest r hats at None datatype other (inr (behind, takes, _)) d = absurd (hats behind (hats_taken text gap rest behind r takes))
plain_once text gap rest r hats at (Some tag) datatype other (_, takes) d =
    let (behind, begins, _) = tag_taken text gap rest tag other r takes in absurd (at behind begins)

-- literals
pub no_lit : (text after value : List ℕ) → Takes (InBytes IsString) value text after
    → ((s : Suffix) (rest : List ℕ) → TakesSuffix s.lang s.datatype after rest → dark rest ≡ Some 46 → ⊥)
    → (l : NtLit) (rest : List ℕ) → TakesLit l text rest → dark rest ≡ Some 46 → ⊥
no_lit text after value f none l rest (behind, string, suffix) d =
    let s = string_once l.text value text behind after string f in
    none (record { lang = l.lang; datatype = l.datatype }) rest (subst (λ z. TakesSuffix l.lang l.datatype z rest) s.1 suffix) d

pub lit_once_before : (text after value end : List ℕ) → Takes (InBytes IsString) value text after
    → ((s : Suffix) (rest : List ℕ) → TakesSuffix s.lang s.datatype after rest → dark rest ≡ Some 46 → rest ≡ end)
    → (l : NtLit) (rest : List ℕ) → TakesLit l text rest → dark rest ≡ Some 46 → rest ≡ end
lit_once_before text after value end f once l rest (behind, string, suffix) d =
    let s = string_once l.text value text behind after string f in
    once (record { lang = l.lang; datatype = l.datatype }) rest (subst (λ z. TakesSuffix l.lang l.datatype z rest) s.1 suffix) d

-- lines
pub no_predicate : (text a : List ℕ) (s : NtNode) → TakesNode s text a → ((v rest : List ℕ) → TakesIri v a rest → ⊥) → (t : NtTriple) → IsTripleLine text t → ⊥
no_predicate text a s f none t (x, y, _, _, subject, predicate, _, _, _) =
    let n = node_once t.s s text x a subject f in none t.p y (subst (λ z. TakesIri t.p z y) n.1 predicate)

object_at : (text a b p : List ℕ) (s : NtNode) → TakesNode s text a → TakesIri p a b → (t : NtTriple) → (g : IsTripleLine text t) → TakesTerm t.o b g.2
object_at text a b p s f h t (x, y, end, _, subject, predicate, object, _, _) =
    let n = node_once t.s s text x a subject f in
    let i = iri_once t.p p a y b (subst (λ z. TakesIri t.p z y) n.1 predicate) h in
    subst (λ z. TakesTerm t.o z end) i.1 object

pub no_object : (text a b p : List ℕ) (s : NtNode) → TakesNode s text a → TakesIri p a b
    → ((o : NtTerm) → EndsLine b o → ⊥) → (t : NtTriple) → IsTripleLine text t → ⊥
no_object text a b p s f h none t g =
    let (_, _, end, behind, _, _, _, dot, idle) = g in
    none t.o (end, behind, object_at text a b p s f h t g, dot, idle)

pub no_dark : (text : List ℕ) → ((o : NtTerm) (rest : List ℕ) → TakesTerm o text rest → dark rest ≡ Some 46 → ⊥) → (o : NtTerm) → EndsLine text o → ⊥
no_dark text none o (end, behind, object, dot, _) = none o end object (dot_dark end behind dot)

pub no_dot : (text e : List ℕ) → ((o : NtTerm) (rest : List ℕ) → TakesTerm o text rest → dark rest ≡ Some 46 → rest ≡ e)
    → ((end : List ℕ) → Takes (IsMark (codes ".")) tt e end → ⊥) → (o : NtTerm) → EndsLine text o → ⊥
no_dot text e once none o (before, behind, object, dot, _) =
    let same = once o before object (dot_dark before behind dot) in
    none behind (subst (λ z. Takes (IsMark (codes ".")) tt z behind) same dot)

pub no_end : (text e end : List ℕ) → ((o : NtTerm) (rest : List ℕ) → TakesTerm o text rest → dark rest ≡ Some 46 → rest ≡ e)
    → Takes (IsMark (codes ".")) tt e end → (IsIdle end → ⊥) → (o : NtTerm) → EndsLine text o → ⊥
no_end text e end once dot none o (before, behind, object, o_dot, idle) =
    let same = once o before object (dot_dark before behind o_dot) in
    let left = dot_once e behind end (subst (λ z. Takes (IsMark (codes ".")) tt z behind) same o_dot) dot in
    none (subst IsIdle left idle)

pub no_line : (text : List ℕ) → (IsIdle text → ⊥) → ((t : NtTriple) → IsTripleLine text t → ⊥) → (o : Option NtTriple) → LineGives text o → ⊥
no_line text idle none None g = idle g
no_line text idle none (Some t) g = none t g
