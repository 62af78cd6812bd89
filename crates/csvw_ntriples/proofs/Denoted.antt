-- What is written denotes the triples.
use Rattle.std.proofs.Common.{◌≡◌, ◌<◌, ℕ, List, [], ◌∷◌, ◌++◌, refl, sym, ap, ◌∙◌, subst, arith, true, false, Bool, cond, not, ◌&&◌, append_assoc}
use Rattle.std.proofs.Common.{inl, inr, map, Option, Some, None}
use Rattle.std.proofs.lemmas.Bool.{and_parts}
use Rattle.std.proofs.lemmas.Str.{chars-encodes, encodes-append}
use Rattle.std.proofs.lemmas.Slice.Eq.{bytes_eq-Decides}
use Rattle.std.specs.Prelude.{IsTrue, ◌==◌, nat_lt, codes, flat_map, encode_utf8_all, IsUtf8, chars, is_some}
use Rattle.std.specs.List.{list_all, slice_split, AllByRecursion}
use lib.Utf8.{scalar, scalars, low_scalar}
use Rattle.std.proofs.lemmas.Bool.Decides.{nat_tests, Decides-eqb}
use Rattle.std.proofs.lemmas.List.Folds.{list_all-append}
use Rattle.csvw_text.specs.Language.{is_letter_or_digit_char}
use Rattle.csvw_iri.specs.Safe.{is_iri}
use Rattle.csvw_iri.specs.Vocabulary.{xsd_string, lang_string}
use Rattle.csvw_triples_core.specs.declared.origin.Origin.{Origin}
use Rattle.csvw_triples_core.specs.declared.term.Node.{Node}
use Rattle.csvw_triples_core.specs.declared.term.Node.TheVariants as node
use Rattle.csvw_triples_core.specs.declared.term.Lit.{Lit}
use Rattle.csvw_triples_core.specs.declared.term.Term.{Term}
use Rattle.csvw_triples_core.specs.declared.term.Term.TheVariants as term
use Rattle.csvw_triples_core.specs.declared.term.Triple.{Triple}
use Rattle.csvw_ntriples.specs.Character.{is_blank, is_break, is_raw_in_iri}
use Rattle.csvw_ntriples.specs.Terminal.{InBytes, IsString, IsIriref, IsLangtag, IsBlankNode}
use Rattle.csvw_ntriples.specs.Grammar.{Takes, TakesIri, TakesBlank, TakesNode, TakesSuffix, TakesTerm, IsTripleLine, AreLines, Denotes, DenotesText}
use Rattle.csvw_ntriples.specs.Written.{iri_text, blank_text, string_text, node_text, is_string_type, suffix_text, lit_text, term_text, line_text}
use Rattle.csvw_ntriples.specs.Written.{written, node_named, term_named, said, label, escaped}
use Rattle.csvw_ntriples.specs.Writable.{IriFits, NodeFits, SuffixFits, LitFits, TermFits, TripleFits}
use Rattle.csvw_ntriples.proofs.Decoded.{raw_chars, escaped_chars, encodes_low}
use Rattle.csvw_ntriples.proofs.Spelled.{iri_written, string_written, blank_written, iri_longest, string_longest, mark_longest, blank_longest}
use Rattle.csvw_ntriples.proofs.Spelled.{tag_longest, bytes_longest, and_both, in_tag, tag_chars}
use Rattle.csvw_ntriples.proofs.Labels.{label_plain, encodes-label}

-- a character that is one of Unicode and no line break
good : ℕ → Bool
good c = scalar c && not (is_break c)

-- The bytes are those of a text without line breaks, and the text holds what is said of it.
record Says (P : List ℕ → Type 0) (bytes : List ℕ) : Type 0 where
  text : List ℕ
  same : encode_utf8_all text ≡ bytes
  clean : list_all good text ≡ true
  holds : P text

good-append : (xs ys : List ℕ) → list_all good xs ≡ true → list_all good ys ≡ true → list_all good (xs ++ ys) ≡ true
good-append xs ys h k = list_all-append good xs ys ∙ and_both _ _ h k

-- bytes of ASCII between bytes of a text
low_append : (xs ys : List ℕ) → list_all (λ x. nat_lt x 128) xs ≡ true → encode_utf8_all (xs ++ ys) ≡ xs ++ encode_utf8_all ys
low_append xs ys h = encodes-append xs ys ∙ ap (λ z. z ++ encode_utf8_all ys) (encodes_low xs h)

between : (m n cs bs : List ℕ) → list_all (λ x. nat_lt x 128) m ≡ true → list_all (λ x. nat_lt x 128) n ≡ true → encode_utf8_all cs ≡ bs
    → encode_utf8_all (m ++ (cs ++ n)) ≡ m ++ (bs ++ n)
between m n cs bs h k e =
    low_append m (cs ++ n) h ∙ ap (λ z. m ++ z) (encodes-append cs n ∙ (ap (λ z. z ++ encode_utf8_all n) e ∙ ap (λ z. bs ++ z) (encodes_low n k)))

-- characters
no_break : (p : ℕ → Bool) (c : ℕ) → p c ≡ true → p 13 ≡ false → p 10 ≡ false → not (is_break c) ≡ true
no_break p c h k l = at_return (c == 13) refl
  where
    at_line : (b : Bool) → (c == 13) ≡ false → (c == 10) ≡ b → not (is_break c) ≡ true
    at_line true e f = let same : c ≡ 10 = (Decides-eqb c 10).0 f in let wrong : p 10 ≡ true = subst (λ z. p z ≡ true) same h in cc
    at_line false e f = rw (e, f) refl

    at_return : (b : Bool) → (c == 13) ≡ b → not (is_break c) ≡ true
    at_return true e = let same : c ≡ 13 = (Decides-eqb c 13).0 e in let wrong : p 13 ≡ true = subst (λ z. p z ≡ true) same h in cc
    at_return false e = at_line (c == 10) e refl

low_good : (p : ℕ → Bool) → p 13 ≡ false → p 10 ≡ false → (cs : List ℕ) → scalars cs ≡ true → list_all p cs ≡ true → list_all good cs ≡ true
unfolding good
low_good p k l [] s h = refl
low_good p k l (c ∷ cs) s h =
    let a = and_parts (scalar c) (scalars cs) s in let b = and_parts (p c) (list_all p cs) h in
    and_both _ _ (and_both _ _ a.0 (no_break p c b.0 k l)) (low_good p k l cs a.1 b.1)

below_128 : (c : ℕ) → is_letter_or_digit_char c ≡ true → c < 128
below_128 c k = grind (arith, nat_tests)

plain_scalars : (cs : List ℕ) → list_all is_letter_or_digit_char cs ≡ true → scalars cs ≡ true
plain_scalars [] h = refl
plain_scalars (c ∷ cs) h =
    let b = and_parts (is_letter_or_digit_char c) (list_all is_letter_or_digit_char cs) h in
    and_both _ _ (low_scalar c (let k = below_128 c b.0 in omega arith)) (plain_scalars cs b.1)

label_good : (o : Origin) → list_all good (label o) ≡ true
label_good o = low_good is_letter_or_digit_char refl refl (label o) (plain_scalars (label o) (label_plain o)) (label_plain o)

escaped_good : (c : ℕ) → scalar c ≡ true → list_all good (escaped c) ≡ true
unfolding good
escaped_good c s = by_quote (c == 34) refl
  where
    by_return : (b : Bool) → (c == 34) ≡ false → (c == 92) ≡ false → (c == 10) ≡ false → (c == 13) ≡ b → list_all good (escaped c) ≡ true
    by_return true p q r e = rw (p, q, r, e) refl
    by_return false p q r e = rw (p, q, r) (rw e (and_both _ true (and_both _ _ s (rw (e, r) refl)) refl))

    by_line : (b : Bool) → (c == 34) ≡ false → (c == 92) ≡ false → (c == 10) ≡ b → list_all good (escaped c) ≡ true
    by_line true p q r = rw (p, q, r) refl
    by_line false p q r = by_return (c == 13) p q r refl

    by_slash : (b : Bool) → (c == 34) ≡ false → (c == 92) ≡ b → list_all good (escaped c) ≡ true
    by_slash true p q = rw (p, q) refl
    by_slash false p q = by_line (c == 10) p q refl

    by_quote : (b : Bool) → (c == 34) ≡ b → list_all good (escaped c) ≡ true
    by_quote true p = rw p refl
    by_quote false p = by_slash (c == 92) p refl

flat_good : (value : List ℕ) → scalars value ≡ true → list_all good (flat_map escaped value) ≡ true
flat_good [] s = refl
flat_good (c ∷ cs) s = let b = and_parts (scalar c) (scalars cs) s in good-append (escaped c) (flat_map escaped cs) (escaped_good c b.0) (flat_good cs b.1)

tag_low_one : (d : ℕ) → in_tag d ≡ true → nat_lt d 128 ≡ true
unfolding in_tag
tag_low_one d k = grind (arith, nat_tests)

tag_low : (cs : List ℕ) → list_all in_tag cs ≡ true → list_all (λ x. nat_lt x 128) cs ≡ true
tag_low [] h = refl
tag_low (c ∷ cs) h = let b = and_parts (in_tag c) (list_all in_tag cs) h in and_both _ _ (tag_low_one c b.0) (tag_low cs b.1)

low_scalars : (cs : List ℕ) → list_all (λ x. nat_lt x 128) cs ≡ true → scalars cs ≡ true
low_scalars [] h = refl
low_scalars (c ∷ cs) h =
    let b = and_parts (nat_lt c 128) (list_all (λ x. nat_lt x 128) cs) h in
    and_both _ _ (low_scalar c (let k = below c b.0 in omega arith)) (low_scalars cs b.1)
  where
    below : (d : ℕ) → nat_lt d 128 ≡ true → d < 128
    below d k = grind (arith, nat_tests)

tag_good : (tag : List ℕ) → list_all in_tag tag ≡ true → list_all good tag ≡ true
tag_good tag h = low_good in_tag tag_13 tag_10 tag (low_scalars tag (tag_low tag h)) h
  where
    tag_13 : in_tag 13 ≡ false
    tag_13 = unfold in_tag in refl

    tag_10 : in_tag 10 ≡ false
    tag_10 = unfold in_tag in refl

-- the marks between what is written are such characters
record GoodMarks : Type 0 where
  quote : list_all good (34 ∷ []) ≡ true
  open_angle : list_all good (60 ∷ []) ≡ true
  close_angle : list_all good (62 ∷ []) ≡ true
  blank : list_all good (codes "_:") ≡ true
  hats : list_all good (codes "^^") ≡ true
  at_sign : list_all good (64 ∷ []) ≡ true
  space : list_all good (32 ∷ []) ≡ true
  space_dot : list_all good (32 ∷ 46 ∷ []) ≡ true

good_marks : GoodMarks
unfolding good
good_marks = record {
  quote = refl;
  open_angle = refl;
  close_angle = refl;
  blank = refl;
  hats = refl;
  at_sign = refl;
  space = refl;
  space_dot = refl;
}

good_between : (m n cs : List ℕ) → list_all good m ≡ true → list_all good n ≡ true → list_all good cs ≡ true → list_all good (m ++ (cs ++ n)) ≡ true
good_between m n cs h k l = good-append m (cs ++ n) h (good-append cs n l k)

-- the parts of a line, with the text after them
abbrev IriStands : List ℕ → List ℕ → Type 0
IriStands iri x = (gap after : List ℕ) → IsTrue (list_all is_blank gap) → TakesIri iri (gap ++ (x ++ after)) after

abbrev StringStands : List ℕ → List ℕ → Type 0
StringStands value x = (gap after : List ℕ) → IsTrue (list_all is_blank gap) → Takes (InBytes IsString) value (gap ++ (x ++ after)) after

abbrev BlankStands : List ℕ → List ℕ → Type 0
BlankStands name x = (gap after : List ℕ) → IsTrue (list_all is_blank gap) → TakesBlank name (gap ++ (x ++ 32 ∷ after)) (32 ∷ after)

abbrev NodeStands : Node → List ℕ → Type 0
NodeStands n x = (gap after : List ℕ) → IsTrue (list_all is_blank gap) → TakesNode (node_named label n) (gap ++ (x ++ 32 ∷ after)) (32 ∷ after)

abbrev SuffixStands : Option (List ℕ) → List ℕ → List ℕ → Type 0
SuffixStands lang datatype x = (after : List ℕ) → TakesSuffix lang datatype (x ++ 32 ∷ after) (32 ∷ after)

abbrev TermStands : Term → List ℕ → Type 0
TermStands t x = (gap after : List ℕ) → IsTrue (list_all is_blank gap) → TakesTerm (term_named label t) (gap ++ (x ++ 32 ∷ after)) (32 ∷ after)

iri_says : (iri : List ℕ) → IriFits iri → Says (IriStands iri) (iri_text iri)
iri_says iri ((cs, (are_scalars, same)), safe) =
    let raw = raw_chars cs (subst (λ z. is_iri z ≡ true) (sym same) safe) in
    let whole = iri_written cs raw in
    record {
      text = iri_text cs;
      same = between (60 ∷ []) (62 ∷ []) cs iri refl refl same;
      clean = good_between (60 ∷ []) (62 ∷ []) cs good_marks.open_angle good_marks.close_angle (low_good is_raw_in_iri refl refl cs are_scalars raw);
      holds = λ gap after b. (
        gap,
        iri_text cs,
        refl,
        b,
        (cs, whole, sym same),
        bytes_longest IsIriref (iri_text cs) after (iri_longest (iri_text cs) cs after whole),
      );
    }

string_says : (value : List ℕ) → IsUtf8 value → Says (StringStands value) (string_text value)
string_says value (cs, (are_scalars, same)) =
    let whole = string_written cs in
    record {
      text = string_text cs;
      same = between (34 ∷ []) (34 ∷ []) (flat_map escaped cs) (flat_map escaped value) refl refl (sym (escaped_chars cs) ∙ ap (flat_map escaped) same);
      clean = good_between (34 ∷ []) (34 ∷ []) (flat_map escaped cs) good_marks.quote good_marks.quote (flat_good cs are_scalars);
      holds = λ gap after b. (
        gap,
        string_text cs,
        refl,
        b,
        (cs, whole, sym same),
        bytes_longest IsString (string_text cs) after (string_longest (string_text cs) cs after whole),
      );
    }

blank_says : (o : Origin) → Says (BlankStands (label o)) (blank_text o)
blank_says o = record {
  text = blank_text o;
  same = low_append (codes "_:") (label o) refl ∙ ap (λ z. codes "_:" ++ z) (encodes-label o);
  clean = good-append (codes "_:") (label o) good_marks.blank (label_good o);
  holds = λ gap after b. (
    gap,
    blank_text o,
    refl,
    b,
    (label o, blank_written o, sym (encodes-label o)),
    bytes_longest IsBlankNode (blank_text o) (32 ∷ after) (blank_longest (blank_text o) after),
  );
}

node_says : (n : Node) → NodeFits n → Says (NodeStands n) (node_text n)
node_says (node.Named iri) h =
    let s = iri_says iri h in
    record { text = s.text; same = s.same; clean = s.clean; holds = λ gap after b. s.holds gap (32 ∷ after) b }
node_says (node.Blank o) h = blank_says o

type_says : (iri : List ℕ) (b : Bool) → is_string_type iri ≡ b → IriFits iri → Says (SuffixStands None iri) (cond b [] (codes "^^" ++ iri_text iri))
type_says iri true e h = record {
  text = [];
  same = refl;
  clean = refl;
  holds = λ after. inl ((bytes_eq-Decides iri xsd_string).0 e, refl);
}
type_says iri false e h =
    let s = iri_says iri h in
    record {
      text = codes "^^" ++ s.text;
      same = low_append (codes "^^") s.text refl ∙ ap (λ z. codes "^^" ++ z) s.same;
      clean = good-append (codes "^^") s.text good_marks.hats s.clean;
      holds = λ after. inr (
        s.text ++ 32 ∷ after,
        ([], codes "^^", refl, refl, refl, mark_longest (codes "^^") (s.text ++ 32 ∷ after)),
        s.holds [] (32 ∷ after) refl,
      );
    }

suffix_says : (lang : Option (List ℕ)) (datatype : List ℕ) → (is_some lang ≡ true → datatype ≡ lang_string) → SuffixFits lang datatype
    → Says (SuffixStands lang datatype) (suffix_text lang datatype)
suffix_says None datatype tagged h = type_says datatype (is_string_type datatype) refl h
suffix_says (Some tag) datatype tagged h =
    let inside = tag_chars tag h in let low = tag_low tag inside in
    record {
      text = 64 ∷ tag;
      same = low_append (64 ∷ []) tag refl ∙ ap (λ z. 64 ∷ z) (encodes_low tag low);
      clean = good-append (64 ∷ []) tag good_marks.at_sign (tag_good tag inside);
      holds = λ after. (
        tagged refl,
        (
          [],
          64 ∷ tag,
          refl,
          refl,
          (tag, (refl, h), sym (encodes_low tag low)),
          bytes_longest IsLangtag (64 ∷ tag) (32 ∷ after) (tag_longest (64 ∷ tag) after),
        ),
      );
    }

lit_says : (l : Lit) → LitFits l → Says (TermStands (term.Literal l)) (lit_text l)
lit_says l (text_fits, suffix_fits) =
    let s = string_says l.text text_fits in
    let t = suffix_says l.lang l.datatype l.tagged suffix_fits in
    record {
      text = s.text ++ t.text;
      same = encodes-append s.text t.text ∙ (ap (λ z. z ++ encode_utf8_all t.text) s.same ∙ ap (λ z. string_text l.text ++ z) t.same);
      clean = good-append s.text t.text s.clean t.clean;
      holds = λ gap after b.
          let split : gap ++ ((s.text ++ t.text) ++ 32 ∷ after) ≡ gap ++ (s.text ++ (t.text ++ 32 ∷ after)) =
          ap (λ z. gap ++ z) (append_assoc s.text t.text (32 ∷ after)) in (
            t.text ++ 32 ∷ after,
            subst (λ (z : List ℕ). Takes (InBytes IsString) l.text z (t.text ++ 32 ∷ after)) (sym split) (s.holds gap (t.text ++ 32 ∷ after) b),
            t.holds after,
          );
    }

term_says : (t : Term) → TermFits t → Says (TermStands t) (term_text t)
term_says (term.Named iri) h =
    let s = iri_says iri h in
    record { text = s.text; same = s.same; clean = s.clean; holds = λ gap after b. s.holds gap (32 ∷ after) b }
term_says (term.Blank o) h = blank_says o
term_says (term.Literal l) h = lit_says l h

-- a line without its break
body_text : List ℕ → List ℕ → List ℕ → List ℕ
body_text s p o = s ++ (32 ∷ [] ++ (p ++ (32 ∷ [] ++ (o ++ 32 ∷ 46 ∷ []))))

line-body : (t : Triple) → line_text t ≡ body_text (node_text t.s) (iri_text t.p) (term_text t.o) ++ 10 ∷ []
unfolding body_text
line-body t = simp append_assoc

line_says : (t : Triple) → TripleFits t → Says (λ x. IsTripleLine x (said t)) (body_text (node_text t.s) (iri_text t.p) (term_text t.o))
unfolding body_text
line_says t (subject, predicate, object) =
    let s = node_says t.s subject in let p = iri_says t.p predicate in let o = term_says t.o object in
    let c = o.text ++ 32 ∷ 46 ∷ [] in
    let b = p.text ++ (32 ∷ [] ++ c) in
    let c_same : encode_utf8_all (32 ∷ [] ++ c) ≡ 32 ∷ [] ++ (term_text t.o ++ 32 ∷ 46 ∷ []) =
    between (32 ∷ []) (32 ∷ 46 ∷ []) o.text (term_text t.o) refl refl o.same in
    let b_same : encode_utf8_all (32 ∷ [] ++ b) ≡ 32 ∷ [] ++ (iri_text t.p ++ (32 ∷ [] ++ (term_text t.o ++ 32 ∷ 46 ∷ []))) =
    low_append (32 ∷ []) b refl ∙ ap (λ z. 32 ∷ [] ++ z)
    (encodes-append p.text (32 ∷ [] ++ c) ∙ (ap (λ z. z ++ encode_utf8_all (32 ∷ [] ++ c)) p.same ∙ ap (λ z. iri_text t.p ++ z) c_same)) in
    record {
      text = s.text ++ (32 ∷ [] ++ b);
      same = encodes-append s.text (32 ∷ [] ++ b) ∙ (ap (λ z. z ++ encode_utf8_all (32 ∷ [] ++ b)) s.same ∙ ap (λ z. node_text t.s ++ z) b_same);
      clean = good-append s.text (32 ∷ [] ++ b) s.clean
          (good-append (32 ∷ []) b good_marks.space (good-append p.text (32 ∷ [] ++ c) p.clean
          (good-append (32 ∷ []) c good_marks.space (good-append o.text (32 ∷ 46 ∷ []) o.clean good_marks.space_dot))));
      holds = (
        32 ∷ b,
        32 ∷ c,
        32 ∷ 46 ∷ [],
        [],
        s.holds [] b refl,
        p.holds (32 ∷ []) (32 ∷ c) refl,
        o.holds (32 ∷ []) (46 ∷ []) refl,
        (32 ∷ [], 46 ∷ [], refl, refl, refl, mark_longest (46 ∷ []) []),
        tt,
      );
    }

split_line : (body rest : List ℕ) → list_all good body ≡ true → slice_split is_break (body ++ 10 ∷ rest) ≡ body ∷ slice_split is_break rest
unfolding good
split_line [] rest h = refl
split_line (c ∷ cs) rest h =
    let b = and_parts (good c) (list_all good cs) h in
    let d : is_break c ≡ false = not_true (is_break c) (and_parts (scalar c) (not (is_break c)) b.0).1 in
    rw (d, split_line cs rest b.1) refl
  where
    not_true : (x : Bool) → not x ≡ true → x ≡ false
    not_true true k = cc
    not_true false k = refl

good_scalars : (cs : List ℕ) → list_all good cs ≡ true → scalars cs ≡ true
unfolding good
good_scalars [] h = refl
good_scalars (c ∷ cs) h = let b = and_parts (good c) (list_all good cs) h in and_both _ _ (and_parts (scalar c) (not (is_break c)) b.0).0 (good_scalars cs b.1)

scalars-append : (xs ys : List ℕ) → scalars xs ≡ true → scalars ys ≡ true → scalars (xs ++ ys) ≡ true
scalars-append [] ys h k = k
scalars-append (c ∷ cs) ys h k = let b = and_parts (scalar c) (scalars cs) h in and_both _ _ b.0 (scalars-append cs ys b.1 k)

-- the characters of what is written
record SaysAll (ts : List Triple) : Type 0 where
  text : List ℕ
  same : encode_utf8_all text ≡ written ts
  clean : scalars text ≡ true
  lines : AreLines (slice_split is_break text) (map said ts)

all_say : (ts : List Triple) → AllByRecursion TripleFits ts → SaysAll ts
all_say [] h = record { text = []; same = refl; clean = refl; lines = inl (tt, refl) }
all_say (t ∷ ts) (fits, others_fit) =
    let one = line_says t fits in let rest = all_say ts others_fit in
    let bytes = body_text (node_text t.s) (iri_text t.p) (term_text t.o) in
    let parts : slice_split is_break (one.text ++ 10 ∷ rest.text) ≡ one.text ∷ slice_split is_break rest.text = split_line one.text rest.text one.clean in
    let split : line_text t ++ written ts ≡ bytes ++ 10 ∷ written ts = ap (λ z. z ++ written ts) (line-body t) ∙ append_assoc bytes (10 ∷ []) (written ts) in
    record {
      text = one.text ++ 10 ∷ rest.text;
      same = encodes-append one.text (10 ∷ rest.text) ∙ (ap (λ z. z ++ encode_utf8_all (10 ∷ rest.text)) one.same
          ∙ (ap (λ z. bytes ++ z) (low_append (10 ∷ []) rest.text refl ∙ ap (λ z. 10 ∷ z) rest.same) ∙ sym split));
      clean = scalars-append one.text (10 ∷ rest.text) (good_scalars one.text one.clean) rest.clean;
      lines = subst (λ (z : List (List ℕ)). AreLines z (map said (t ∷ ts))) (sym parts) (inr (said t, map said ts, refl, one.holds, rest.lines));
    }

-- the law
pub written_denotes : (ts : List Triple) → AllByRecursion TripleFits ts → Denotes (written ts) (map said ts)
written_denotes ts h =
    let s = all_say ts h in
    let decoded : chars (written ts) ≡ s.text = ap chars (sym s.same) ∙ chars-encodes s.text s.clean in
    ((s.text, (s.clean, s.same)), subst (λ (z : List ℕ). DenotesText z (map said ts)) (sym decoded) s.lines)
