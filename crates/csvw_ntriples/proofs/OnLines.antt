-- A line takes what the text that continues after it takes, and the other way round.
use Rattle.std.proofs.Common.{◌≡◌, ℕ, List, [], ◌∷◌, ◌++◌, refl, sym, ap, ◌∙◌, subst, true, false, Bool, not, append_assoc, inl, inr, Option, Some}
use Rattle.std.proofs.Common.{None, IsTrue}
use Rattle.std.proofs.lemmas.Bool.{and_parts}
use Rattle.std.specs.Prelude.{codes}
use Rattle.std.specs.List.{list_all}
use Rattle.csvw_ntriples.specs.Character.{is_break}
use Rattle.csvw_ntriples.specs.Terminal.{InBytes, IsString, IsIriref, IsLangtag, IsBlankNode}
use Rattle.csvw_ntriples.specs.Grammar.{Takes, IsMark, TakesIri, TakesBlank, TakesNode, TakesSuffix, TakesLit, TakesTerm, IsTripleLine}
use Rattle.csvw_ntriples.specs.Document.{IsInLine, IsGap, TakesTriple}
use Rattle.csvw_ntriples.specs.declared.term.NtNode.{NtNode}
use Rattle.csvw_ntriples.specs.declared.term.NtNode.TheVariants as node
use Rattle.csvw_ntriples.specs.declared.term.NtLit.{NtLit}
use Rattle.csvw_ntriples.specs.declared.term.NtTerm.{NtTerm}
use Rattle.csvw_ntriples.specs.declared.term.NtTerm.TheVariants as term
use Rattle.csvw_ntriples.specs.declared.term.NtTriple.{NtTriple}
use Rattle.csvw_ntriples.proofs.Unbroken.{Unbroken, in_line-append, in_line-parts, blank_in_line, string_bytes_unbroken, iri_bytes_unbroken}
use Rattle.csvw_ntriples.proofs.Unbroken.{blank_bytes_unbroken, tag_bytes_unbroken}

-- a line ends before it: it is empty, or begins with a break
abbrev pub Ends : List ℕ → Type 0
Ends [] = Unit {0}
Ends (c ∷ cs) = IsTrue (is_break c)

-- a relation of a text and its rest says the same of a line
record OnLines (R : List ℕ → List ℕ → Type 0) : Type 0 where
  down : (text front tail : List ℕ) → IsInLine front → R text (front ++ tail) → (line : List ℕ) × (text ≡ line ++ tail) × IsInLine line × R line front
  up : (line after tail : List ℕ) → IsInLine line → Ends tail → R line after → R (line ++ tail) (after ++ tail) × IsInLine after

-- a front on one line is a front of the line
front_on_line : (after tail more rest : List ℕ) → Ends tail → IsInLine more → after ++ tail ≡ more ++ rest → (left : List ℕ) × (after ≡ more ++ left)
front_on_line after tail [] rest e h w = (after, refl)
front_on_line [] [] (m ∷ more) rest e h w = cc
front_on_line [] (k ∷ tail) (m ∷ more) rest e h w =
    let same : k ≡ m = cc in
    let none = (and_parts (not (is_break m)) (list_all (λ c. not (is_break c)) more) h).0 in
    absurd (clash (is_break m) (subst (λ z. is_break z ≡ true) same e) none)
  where
    clash : (b : Bool) → b ≡ true → not b ≡ true → ⊥
    clash true p q = cc
    clash false p q = cc
front_on_line (a ∷ after) tail (m ∷ more) rest e h w =
    let same : a ≡ m = cc in let tails : after ++ tail ≡ more ++ rest = cc in
    let inner = front_on_line after tail more rest e (and_parts (not (is_break m)) (list_all (λ c. not (is_break c)) more) h).1 tails in
    let left = inner.1 in
    (inner.0, ap (λ z. z ∷ after) same ∙ ap (λ z. m ∷ z) left)

three_parts : (xs ys zs tail : List ℕ) → (xs ++ (ys ++ zs)) ++ tail ≡ xs ++ (ys ++ (zs ++ tail))
three_parts xs ys zs tail = append_assoc xs (ys ++ zs) tail ∙ ap (λ z. xs ++ z) (append_assoc ys zs tail)

takes_on_lines : {V : Type 0} (P : List ℕ → V → Type 0) → Unbroken P → (v : V) → OnLines (Takes P v)
takes_on_lines P clean v = record {
  down = λ text front tail h f. (
    f.0 ++ (f.1 ++ front),
    f.2 ∙ sym (three_parts f.0 f.1 front tail),
    in_line-append f.0 (f.1 ++ front) (blank_in_line f.0 f.3) (in_line-append f.1 front (clean f.1 v f.4) h),
    (f.0, f.1, refl, f.3, f.4, λ more rest w e g. f.5 more (rest ++ tail) w (ap (λ z. z ++ tail) e ∙ append_assoc more rest tail) g),
  );
  up = λ line after tail h k f.
      let parts = in_line-parts f.0 (f.1 ++ after) (subst (λ (z : List ℕ). IsInLine z) f.2 h) in (
        (
          f.0,
          f.1,
          ap (λ z. z ++ tail) f.2 ∙ three_parts f.0 f.1 after tail,
          f.3,
          f.4,
          λ more rest w e g.
              let left = front_on_line after tail more rest k (in_line-parts f.1 more (clean (f.1 ++ more) w g)).1 e in
              f.5 more left.0 w left.1 g,
        ),
        (in_line-parts f.1 after parts.1).1,
      );
}

abbrev Then : (List ℕ → List ℕ → Type 0) → (List ℕ → List ℕ → Type 0) → List ℕ → List ℕ → Type 0
Then R S text after = (rest : List ℕ) × R text rest × S rest after

then_on_lines : (R S : List ℕ → List ℕ → Type 0) → OnLines R → OnLines S → OnLines (Then R S)
then_on_lines R S r s = record {
  down = λ text front tail h f.
      let b = s.down f.0 front tail h f.2 in
      let a = r.down text b.0 tail b.2 (subst (λ (z : List ℕ). R text z) b.1 f.1) in (a.0, a.1, a.2, (b.0, a.3, b.3));
  up = λ line after tail h k f.
      let a = r.up line f.0 tail h k f.1 in
      let b = s.up f.0 after tail a.1 k f.2 in ((f.0 ++ tail, a.0, b.0), b.1);
}

iri_on_lines : (iri : List ℕ) → OnLines (TakesIri iri)
iri_on_lines iri = takes_on_lines (InBytes IsIriref) iri_bytes_unbroken iri

blank_on_lines : (label : List ℕ) → OnLines (TakesBlank label)
blank_on_lines label = takes_on_lines (InBytes IsBlankNode) blank_bytes_unbroken label

string_on_lines : (value : List ℕ) → OnLines (Takes (InBytes IsString) value)
string_on_lines value = takes_on_lines (InBytes IsString) string_bytes_unbroken value

tag_on_lines : (tag : List ℕ) → OnLines (Takes (InBytes IsLangtag) tag)
tag_on_lines tag = takes_on_lines (InBytes IsLangtag) tag_bytes_unbroken tag

mark_on_lines : (mark : List ℕ) → IsInLine mark → OnLines (Takes (IsMark mark) tt)
mark_on_lines mark h = takes_on_lines (IsMark mark) (λ p v e. subst (λ (z : List ℕ). IsInLine z) (sym e) h) tt

node_on_lines : (n : NtNode) → OnLines (TakesNode n)
node_on_lines (node.Named iri) = let o = iri_on_lines iri in record { down = o.down; up = o.up }
node_on_lines (node.Blank label) = let o = blank_on_lines label in record { down = o.down; up = o.up }

typed_on_lines : (datatype : List ℕ) → OnLines (Then (Takes (IsMark (codes "^^")) tt) (TakesIri datatype))
typed_on_lines datatype = then_on_lines (Takes (IsMark (codes "^^")) tt) (TakesIri datatype) (mark_on_lines (codes "^^") refl) (iri_on_lines datatype)

suffix_down : (lang : Option (List ℕ)) (datatype text front tail : List ℕ) → IsInLine front → TakesSuffix lang datatype text (front ++ tail)
    → (line : List ℕ) × (text ≡ line ++ tail) × IsInLine line × TakesSuffix lang datatype line front
suffix_down None datatype text front tail h (inl f) = (front, f.1, h, inl (f.0, refl))
suffix_down None datatype text front tail h (inr f) = let o = typed_on_lines datatype in let g = o.down text front tail h f in (g.0, g.1, g.2, inr g.3)
suffix_down (Some tag) datatype text front tail h f = let o = tag_on_lines tag in let g = o.down text front tail h f.1 in (g.0, g.1, g.2, (f.0, g.3))

suffix_up : (lang : Option (List ℕ)) (datatype line after tail : List ℕ) → IsInLine line → Ends tail → TakesSuffix lang datatype line after
    → TakesSuffix lang datatype (line ++ tail) (after ++ tail) × IsInLine after
suffix_up None datatype line after tail h k (inl f) = (inl (f.0, ap (λ z. z ++ tail) f.1), subst (λ (z : List ℕ). IsInLine z) f.1 h)
suffix_up None datatype line after tail h k (inr f) = let o = typed_on_lines datatype in let g = o.up line after tail h k f in (inr g.0, g.1)
suffix_up (Some tag) datatype line after tail h k f = let o = tag_on_lines tag in let g = o.up line after tail h k f.1 in ((f.0, g.0), g.1)

lit_on_lines : (l : NtLit) → OnLines (TakesLit l)
lit_on_lines l =
    let suffix : OnLines (TakesSuffix l.lang l.datatype) = record { down = suffix_down l.lang l.datatype; up = suffix_up l.lang l.datatype } in
    let o = then_on_lines (Takes (InBytes IsString) l.text) (TakesSuffix l.lang l.datatype) (string_on_lines l.text) suffix in
    record { down = o.down; up = o.up }

term_on_lines : (o : NtTerm) → OnLines (TakesTerm o)
term_on_lines (term.Named iri) = let o = iri_on_lines iri in record { down = o.down; up = o.up }
term_on_lines (term.Blank label) = let o = blank_on_lines label in record { down = o.down; up = o.up }
term_on_lines (term.Literal l) = let o = lit_on_lines l in record { down = o.down; up = o.up }

triple_on_lines : (t : NtTriple) → OnLines (Then (TakesNode t.s) (Then (TakesIri t.p) (Then (TakesTerm t.o) (Takes (IsMark (codes ".")) tt))))
triple_on_lines t =
    then_on_lines (TakesNode t.s) (Then (TakesIri t.p) (Then (TakesTerm t.o) (Takes (IsMark (codes ".")) tt))) (node_on_lines t.s)
    (then_on_lines (TakesIri t.p) (Then (TakesTerm t.o) (Takes (IsMark (codes ".")) tt)) (iri_on_lines t.p)
    (then_on_lines (TakesTerm t.o) (Takes (IsMark (codes ".")) tt) (term_on_lines t.o) (mark_on_lines (codes ".") refl)))

-- a triple and a gap are a line
pub triple_down : (t : NtTriple) (text gap tail : List ℕ) → IsGap gap → TakesTriple t text (gap ++ tail)
    → (line : List ℕ) × (text ≡ line ++ tail) × IsInLine line × IsTripleLine line t
triple_down t text gap tail g (a, b, c, subject, predicate, object, dot) =
    let o = triple_on_lines t in
    let (line, whole, l, (x, s, (y, p, (z, term, d)))) = o.down text gap tail g.0 (a, subject, (b, predicate, (c, object, dot))) in
    (line, whole, l, (x, y, z, gap, s, p, term, d, g.1))

pub triple_up : (t : NtTriple) (line tail : List ℕ) → IsInLine line → Ends tail → IsTripleLine line t
    → (gap : List ℕ) × IsGap gap × TakesTriple t (line ++ tail) (gap ++ tail)
triple_up t line tail h k (a, b, c, gap, subject, predicate, object, dot, idle) =
    let o = triple_on_lines t in
    let ((x, s, (y, p, (z, term, d))), l) = o.up line gap tail h k (a, subject, (b, predicate, (c, object, dot))) in
    (gap, (l, idle), (x, y, z, s, p, term, d))
