-- A document by its production is its lines, each with a triple or none.
use Rattle.std.proofs.Common.{◌≡◌, ◌↔◌, ℕ, List, [], ◌∷◌, ◌++◌, refl, sym, ap, ◌∙◌, subst, true, false, Bool, not, append_assoc, append-nil, inl, inr}
use Rattle.std.proofs.Common.{Option, Some, None, option_to_list, IsTrue}
use Rattle.std.proofs.lemmas.Bool.{and_parts}
use Rattle.std.specs.List.{list_all, slice_split}
use Rattle.csvw_ntriples.specs.Character.{is_break}
use Rattle.csvw_ntriples.specs.Grammar.{IsTripleLine, AreLines, DenotesText}
use Rattle.csvw_ntriples.specs.Document.{IsInLine, IsGap, IsEolOver, IsEol, TakesEol, TakesTriple, TakesFirst, TakesFurther, IsEnd, IsDocument}
use Rattle.csvw_ntriples.specs.declared.term.NtTriple.{NtTriple}
use Rattle.csvw_ntriples.proofs.OnLines.{Ends, triple_down, triple_up}

no_break : (c : ℕ) (cs : List ℕ) → IsInLine (c ∷ cs) → (is_break c ≡ false) × IsInLine cs
no_break c cs h = let b = and_parts (not (is_break c)) (list_all (λ x. not (is_break x)) cs) h in (not_true (is_break c) b.0, b.1)
  where
    not_true : (x : Bool) → not x ≡ true → x ≡ false
    not_true true k = cc
    not_true false k = refl

line_alone : (line : List ℕ) → IsInLine line → slice_split is_break line ≡ line ∷ []
line_alone [] h = refl
line_alone (c ∷ cs) h = let b = no_break c cs h in rw (b.0, line_alone cs b.1) refl

line_before : (line : List ℕ) (k : ℕ) (rest : List ℕ) → IsInLine line → IsTrue (is_break k)
    → slice_split is_break (line ++ k ∷ rest) ≡ line ∷ slice_split is_break rest
line_before [] k rest h e = rw e refl
line_before (c ∷ cs) k rest h e = let b = no_break c cs h in rw (b.0, line_before cs k rest b.1 e) refl

-- the text is these lines, with a CR or LF between each two
abbrev AreBroken : List ℕ → List (List ℕ) → List ℕ → Type 0
AreBroken line [] text = IsInLine line × (text ≡ line)
AreBroken line (next ∷ more) text = (k : ℕ) × (rest : List ℕ) × IsInLine line × (text ≡ line ++ k ∷ rest) × IsTrue (is_break k) × AreBroken next more rest

longer : (c : ℕ) (line : List ℕ) (more : List (List ℕ)) (text : List ℕ) → is_break c ≡ false → AreBroken line more text → AreBroken (c ∷ line) more (c ∷ text)
longer c line [] text e h = (rw (e, h.0) refl, ap (λ z. c ∷ z) h.1)
longer c line (next ∷ more) text e h = (h.0, h.1, rw (e, h.2) refl, ap (λ z. c ∷ z) h.3, h.4, h.5)

abbrev Cut : List ℕ → Type 0
Cut text = (line : List ℕ) × (more : List (List ℕ)) × (slice_split is_break text ≡ line ∷ more) × AreBroken line more text

cut : (text : List ℕ) → Cut text
cut [] = ([], [], refl, (refl, refl))
cut (c ∷ cs) = by_test (is_break c) refl (cut cs)
  where
    by_test : (b : Bool) → is_break c ≡ b → Cut cs → Cut (c ∷ cs)
    by_test true e h = ([], h.0 ∷ h.1, rw (e, h.2) refl, (c, cs, refl, refl, e, h.3))
    by_test false e h = (c ∷ h.0, h.1, rw (e, h.2) refl, longer c h.0 h.1 cs e h.3)

-- from the lines to the production
one_break : (k : ℕ) → IsTrue (is_break k) → IsEol (k ∷ [])
one_break k e = ([], (k, refl, e))

eol_one : (gap : List ℕ) (k : ℕ) (rest : List ℕ) → IsGap gap → IsTrue (is_break k) → TakesEol (gap ++ k ∷ rest) rest
eol_one gap k rest g e = (gap, k ∷ [], refl, g, one_break k e)

eol_more : (gap : List ℕ) (k : ℕ) (text rest : List ℕ) → IsGap gap → IsTrue (is_break k) → TakesEol text rest → TakesEol (gap ++ k ∷ text) rest
eol_more gap k text rest g e (inner, eol, whole, h, breaks) =
    let parts : gap ++ k ∷ text ≡ gap ++ k ∷ ((inner ++ eol) ++ rest) = ap (λ z. gap ++ k ∷ z) (whole ∙ sym (append_assoc inner eol rest)) in
    (gap, k ∷ inner ++ eol, parts, g, (inner ∷ breaks.0, (k, eol, refl, e, h, breaks.1)))

-- (EOL triple)* EOL?
abbrev Follows : List ℕ → List NtTriple → Type 0
Follows text ts = (b : List ℕ) × TakesFurther ts text b × IsEnd b

-- a gap and a break before a document
break_before : (gap : List ℕ) (k : ℕ) (first : Option NtTriple) (ts : List NtTriple) (text a b : List ℕ) → IsGap gap → IsTrue (is_break k)
    → TakesFirst first text a → TakesFurther ts a b → IsEnd b → Follows (gap ++ k ∷ text) (option_to_list first ++ ts)
break_before gap k (Some t) ts text a b g e f h d = (b, (text, a, eol_one gap k text g e, f, h), d)
break_before gap k None [] text a b g e f h (inl d) =
    (gap ++ k ∷ text, refl, inr (text, eol_one gap k text g e, subst (λ (z : List ℕ). IsGap z) (sym (f ∙ h)) d))
break_before gap k None [] text a b g e f h (inr d) =
    (gap ++ k ∷ text, refl, inr (d.0, eol_more gap k text d.0 g e (subst (λ (z : List ℕ). TakesEol z d.0) (sym (f ∙ h)) d.1), d.2))
break_before gap k None (t ∷ ts) text a b g e f h d =
    (b, (h.0, h.1, eol_more gap k text h.0 g e (subst (λ (z : List ℕ). TakesEol z h.0) (sym f) h.2), h.3, h.4), d)

document_follows : (gap : List ℕ) (k : ℕ) (text : List ℕ) (ts : List NtTriple) → IsGap gap → IsTrue (is_break k) → IsDocument text ts
    → Follows (gap ++ k ∷ text) ts
document_follows gap k text ts g e (first, further, a, b, all, f, h, d) =
    subst (λ (z : List NtTriple). Follows (gap ++ k ∷ text) z) (sym all) (break_before gap k first further text a b g e f h d)

-- a triple's line before what follows
triple_before : (t : NtTriple) (us ts : List NtTriple) (text line tail : List ℕ) → text ≡ line ++ tail → ts ≡ t ∷ us
    → IsInLine line → Ends tail → IsTripleLine line t → ((gap : List ℕ) → IsGap gap → Follows (gap ++ tail) us) → IsDocument text ts
triple_before t us ts text line tail whole all l e f left =
    let taken = triple_up t line tail l e f in
    let rest = left taken.0 taken.1 in
    (Some t, us, taken.0 ++ tail, rest.0, all, subst (λ (z : List ℕ). TakesTriple t z (taken.0 ++ tail)) (sym whole) taken.2, rest.1, rest.2)

to_document : (more : List (List ℕ)) (line text : List ℕ) (ts : List NtTriple) → AreBroken line more text → AreLines (line ∷ more) ts → IsDocument text ts
to_document [] line text ts b (inl f) = (None, [], text, text, f.1, refl, refl, inl (subst (λ (z : List ℕ). IsGap z) (sym b.1) (b.0, f.0)))
to_document [] line text ts b (inr f) =
    triple_before f.0 [] ts text line [] (b.1 ∙ sym (append-nil line)) (f.2 ∙ ap (λ z. f.0 ∷ z) f.4) b.0 tt f.3
    (λ gap g. (gap ++ [], refl, inl (subst (λ (z : List ℕ). IsGap z) (sym (append-nil gap)) g)))
to_document (next ∷ more) line text ts b (inl f) =
    let w = document_follows line b.0 b.1 ts (b.2, f.0) b.4 (to_document more next b.1 ts b.5 f.1) in
    (None, ts, text, w.0, refl, refl, subst (λ (z : List ℕ). TakesFurther ts z w.0) (sym b.3) w.1, w.2)
to_document (next ∷ more) line text ts b (inr f) =
    triple_before f.0 f.1 ts text line (b.0 ∷ b.1) b.3 f.2 b.2 b.4 f.3
    (λ gap g. document_follows gap b.0 b.1 f.1 g b.4 (to_document more next b.1 f.1 b.5 f.4))

-- from the production to the lines: a line that continues into the text ends there, and these lines follow
abbrev GoesOn : List ℕ → List NtTriple → Type 0
GoesOn tail ts =
    Ends tail × (lines : List (List ℕ)) × AreLines lines ts × ((line : List ℕ) → IsInLine line → slice_split is_break (line ++ tail) ≡ line ∷ lines)

eol_goes_on : (gaps : List (List ℕ)) (eol rest : List ℕ) (ts : List NtTriple) → IsEolOver gaps eol → DenotesText rest ts → GoesOn (eol ++ rest) ts
eol_goes_on [] eol rest ts (k, whole, b) h = rw whole (b, slice_split is_break rest, h, λ line l. line_before line k rest l b)
eol_goes_on (gap ∷ gaps) eol rest ts (k, left, whole, b, g, e) h =
    let (ends, lines, are, cuts) = eol_goes_on gaps left rest ts e h in
    let parts : eol ++ rest ≡ k ∷ (gap ++ (left ++ rest)) = ap (λ z. z ++ rest) whole ∙ ap (λ z. k ∷ z) (append_assoc gap left rest) in
    rw parts (b, gap ∷ lines, inl (g.1, are), λ line l. line_before line k (gap ++ (left ++ rest)) l b ∙ ap (λ z. line ∷ z) (cuts gap g.0))

-- a gap on the line, and the text after the line
abbrev Left : List ℕ → List NtTriple → Type 0
Left text ts = (gap tail : List ℕ) × (text ≡ gap ++ tail) × IsGap gap × GoesOn tail ts

gap_left : (gap : List ℕ) → IsGap gap → Left gap []
gap_left gap g = (gap, [], sym (append-nil gap), g, (tt, [], refl, λ line l. ap (slice_split is_break) (append-nil line) ∙ line_alone line l))

eol_left : (text rest : List ℕ) (ts : List NtTriple) → TakesEol text rest → DenotesText rest ts → Left text ts
eol_left text rest ts (gap, eol, whole, g, e) h = (gap, eol ++ rest, whole, g, eol_goes_on e.0 eol rest ts e.1 h)

left_idle : (text : List ℕ) (ts : List NtTriple) → Left text ts → DenotesText text ts
left_idle text ts (gap, tail, whole, g, (ends, lines, are, cuts)) =
    subst (λ (z : List (List ℕ)). AreLines z ts) (sym (ap (slice_split is_break) whole ∙ cuts gap g.0)) (inl (g.1, are))

left_triple : (t : NtTriple) (text after : List ℕ) (ts : List NtTriple) → TakesTriple t text after → Left after ts → DenotesText text (t ∷ ts)
left_triple t text after ts f (gap, tail, whole, g, (ends, lines, are, cuts)) =
    let (line, parts, l, h) = triple_down t text gap tail g (subst (λ (z : List ℕ). TakesTriple t text z) whole f) in
    subst (λ (z : List (List ℕ)). AreLines z (t ∷ ts)) (sym (ap (slice_split is_break) parts ∙ cuts line l)) (inr (t, ts, refl, h, are))

further_left : (ts : List NtTriple) (text b : List ℕ) → TakesFurther ts text b → IsEnd b → Left text ts
further_left [] text b h (inl d) = subst (λ (z : List ℕ). Left z []) (sym h) (gap_left b d)
further_left [] text b h (inr d) = subst (λ (z : List ℕ). Left z []) (sym h) (eol_left b d.0 [] d.1 (left_idle d.0 [] (gap_left d.0 d.2)))
further_left (t ∷ ts) text b (x, y, e, f, h) d = eol_left text x (t ∷ ts) e (left_triple t x y ts f (further_left ts y b h d))

first_lines : (first : Option NtTriple) (ts : List NtTriple) (text a : List ℕ) → TakesFirst first text a → Left a ts
    → DenotesText text (option_to_list first ++ ts)
first_lines None ts text a f h = left_idle text ts (subst (λ (z : List ℕ). Left z ts) (sym f) h)
first_lines (Some t) ts text a f h = left_triple t text a ts f h

from_document : (text : List ℕ) (ts : List NtTriple) → IsDocument text ts → DenotesText text ts
from_document text ts (first, further, a, b, all, f, h, d) =
    subst (λ (z : List NtTriple). DenotesText text z) (sym all) (first_lines first further text a f (further_left further a b h d))

-- the law
pub document_is_the_grammars : (text : List ℕ) (ts : List NtTriple) → DenotesText text ts ↔ IsDocument text ts
document_is_the_grammars text ts =
    let pieces = cut text in
    (λ f. to_document pieces.1 pieces.0 text ts pieces.3 (subst (λ (z : List (List ℕ)). AreLines z ts) pieces.2 f), from_document text ts)
