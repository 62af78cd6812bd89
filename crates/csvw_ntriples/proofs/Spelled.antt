-- What is written is a terminal, and the longest.
use Rattle.std.proofs.Common.{◌≡◌, ℕ, List, [], ◌∷◌, ◌++◌, refl, sym, ap, ◌∙◌, subst, arith, true, false, Bool, cond, not, ◌&&◌, ◌||◌, append_assoc}
use Rattle.std.proofs.Common.{inl, inr, length, length-append}
use Rattle.std.proofs.lemmas.Bool.{and_parts}
use Rattle.std.proofs.lemmas.Bool.Decides.{Decides-eqb}
use Rattle.std.specs.Prelude.{codes, ◌==◌, flat_map}
use Rattle.std.specs.List.{list_all, slice_split, AllByRecursion, onto_first}
use Rattle.csvw_text.specs.Class.{is_letter_char, is_digit_char, is_within}
use Rattle.csvw_text.specs.Language.{is_letter_or_digit_char, is_dash, is_word, are_subtags, is_language_tag}
use Rattle.csvw_ntriples.specs.Character.{is_raw_in_string, is_raw_in_iri, is_label_char, is_label_start, is_label_letter}
use Rattle.csvw_ntriples.specs.Terminal.{IsString, IsIriref, IsLangtag, IsBlankNode, IsLabel, IsLabelTail, StringPiece, IriPiece, Spells, InBytes}
use Rattle.csvw_ntriples.specs.Grammar.{IsLongest, IsMark}
use Rattle.csvw_ntriples.specs.Written.{escaped, iri_text, string_text, label}
use Rattle.csvw_triples_core.specs.declared.origin.Origin.{Origin}
use Rattle.csvw_triples_core.specs.declared.origin.Origin.TheVariants.{Group, Table, Row, Subject, Entry, Note}
use Rattle.csvw_ntriples.proofs.Pieces.{body_once, string_piece_once, string_begins, iri_piece_once, iri_begins}
use Rattle.csvw_ntriples.proofs.Labels.{label_plain}

-- an IRI as it is written
spells_iri : (iri : List ℕ) → list_all is_raw_in_iri iri ≡ true → Spells IriPiece iri iri
spells_iri [] h = refl
spells_iri (c ∷ cs) h =
    let both = and_parts (is_raw_in_iri c) (list_all is_raw_in_iri cs) h in
    (c ∷ [], cs, refl, inl (refl, both.0), spells_iri cs both.1)

pub iri_written : (iri : List ℕ) → list_all is_raw_in_iri iri ≡ true → IsIriref (iri_text iri) iri
iri_written iri h = (iri, refl, spells_iri iri h)

-- a literal as it is written
escaped_raw : (c : ℕ) → (c == 34) ≡ false → (c == 92) ≡ false → (c == 10) ≡ false → (c == 13) ≡ false → is_raw_in_string c ≡ true
escaped_raw c p q r s = rw (p, q, r, s) refl

escaped_piece : (c : ℕ) → StringPiece (escaped c) c
escaped_piece c = by_quote (c == 34) refl
  where
    by_return : (b : Bool) → (c == 34) ≡ false → (c == 92) ≡ false → (c == 10) ≡ false → (c == 13) ≡ b → StringPiece (escaped c) c
    by_return true p q r s = let e : c ≡ 13 = (Decides-eqb c 13).0 s in subst (λ z. StringPiece (escaped z) z) (sym e) (inr (inl (114, refl, refl)))
    by_return false p q r s = rw (p, q, r, s) (inl (refl, refl))

    by_line : (b : Bool) → (c == 34) ≡ false → (c == 92) ≡ false → (c == 10) ≡ b → StringPiece (escaped c) c
    by_line true p q r = let e : c ≡ 10 = (Decides-eqb c 10).0 r in subst (λ z. StringPiece (escaped z) z) (sym e) (inr (inl (110, refl, refl)))
    by_line false p q r = by_return (c == 13) p q r refl

    by_slash : (b : Bool) → (c == 34) ≡ false → (c == 92) ≡ b → StringPiece (escaped c) c
    by_slash true p q = let e : c ≡ 92 = (Decides-eqb c 92).0 q in subst (λ z. StringPiece (escaped z) z) (sym e) (inr (inl (92, refl, refl)))
    by_slash false p q = by_line (c == 10) p q refl

    by_quote : (b : Bool) → (c == 34) ≡ b → StringPiece (escaped c) c
    by_quote true p = let e : c ≡ 34 = (Decides-eqb c 34).0 p in subst (λ z. StringPiece (escaped z) z) (sym e) (inr (inl (34, refl, refl)))
    by_quote false p = by_slash (c == 92) p refl

spells_string : (value : List ℕ) → Spells StringPiece (flat_map escaped value) value
spells_string [] = refl
spells_string (c ∷ cs) = (escaped c, flat_map escaped cs, refl, escaped_piece c, spells_string cs)

pub string_written : (value : List ℕ) → IsString (string_text value) value
string_written value = (flat_map escaped value, refl, spells_string value)

-- a terminal between marks is the longest
module _ (P : List ℕ → ℕ → Type 0) (mark : ℕ) where
  between_longest : (v w b c more : List ℕ) → Spells P b v → Spells P c w → (b ++ mark ∷ []) ++ more ≡ c ++ mark ∷ []
      → ((m n a d x y : List ℕ) → Spells P a m → Spells P d n → a ++ mark ∷ x ≡ d ++ mark ∷ y → (m ≡ n) × (a ≡ d) × (x ≡ y)) → more ≡ []
  between_longest v w b c more f g e once =
      let whole : b ++ mark ∷ more ≡ c ++ mark ∷ [] = sym (append_assoc b (mark ∷ []) more) ∙ e in
      (once v w b c more [] f g whole).2

pub iri_longest : (p v after : List ℕ) → IsIriref p v → IsLongest IsIriref p after
iri_longest p v after f = λ more rest w e g.
    let whole : 60 ∷ ((f.0 ++ 62 ∷ []) ++ more) ≡ 60 ∷ (g.0 ++ 62 ∷ []) = ap (λ z. z ++ more) (sym f.1) ∙ g.1 in
    let tails : (f.0 ++ 62 ∷ []) ++ more ≡ g.0 ++ 62 ∷ [] = cc in
    between_longest IriPiece 62 v w f.0 g.0 more f.2 g.2 tails (body_once IriPiece 62 iri_piece_once iri_begins)

pub string_longest : (p v after : List ℕ) → IsString p v → IsLongest IsString p after
string_longest p v after f = λ more rest w e g.
    let whole : 34 ∷ ((f.0 ++ 34 ∷ []) ++ more) ≡ 34 ∷ (g.0 ++ 34 ∷ []) = ap (λ z. z ++ more) (sym f.1) ∙ g.1 in
    let tails : (f.0 ++ 34 ∷ []) ++ more ≡ g.0 ++ 34 ∷ [] = cc in
    between_longest StringPiece 34 v w f.0 g.0 more f.2 g.2 tails (body_once StringPiece 34 string_piece_once string_begins)

-- a mark is the longest
pub mark_longest : (mark after : List ℕ) → IsLongest (IsMark mark) mark after
mark_longest mark after = λ more rest w e g.
    nil_of more (let n = ap length g in omega (arith, n, length-append mark more))
  where
    nil_of : (xs : List ℕ) → length xs ≡ 0 → xs ≡ []
    nil_of [] h = refl
    nil_of (x ∷ xs) h = absurd (omega arith)

-- a terminal of plain characters ends at a space
module _ (P : List ℕ → List ℕ → Type 0) (plain : ℕ → Bool) (no_space : plain 32 ≡ false) (chars_plain : (p v : List ℕ) → P p v → list_all plain p ≡ true) where
  not_plain : (xs ys : List ℕ) → list_all plain (xs ++ 32 ∷ ys) ≡ true → ⊥
  not_plain [] ys h = let k = (and_parts (plain 32) (list_all plain ys) h).0 in cc
  not_plain (x ∷ xs) ys h = not_plain xs ys (and_parts (plain x) (list_all plain (xs ++ 32 ∷ ys)) h).1

  pub plain_longest : (p after : List ℕ) → IsLongest P p (32 ∷ after)
  plain_longest p after [] rest w e g = refl
  plain_longest p after (m ∷ more) rest w e g =
      let space : m ≡ 32 = cc in
      absurd (not_plain p more (subst (λ z. list_all plain (p ++ z ∷ more) ≡ true) space (chars_plain (p ++ m ∷ more) w g)))

-- labels
start_of : (a b x : Bool) → (a || b) ≡ true → ((a || x) || b) ≡ true
start_of true b x h = refl
start_of false true true h = refl
start_of false true false h = refl
start_of false false x h = cc

char_of : (a b x y z : Bool) → (a || b) ≡ true → ((a || x) || (y || (b || z))) ≡ true
char_of true b x y z h = refl
char_of false true true y z h = refl
char_of false true false true z h = refl
char_of false true false false z h = refl
char_of false false x y z h = cc

label_char : (c : ℕ) → is_letter_or_digit_char c ≡ true → is_label_char c ≡ true
label_char c h = char_of (is_letter_char c) (is_digit_char c) (c == 95
    || (c == 58 || (is_within 0xC0 0xD6 c || (is_within 0xD8 0xF6 c || (is_within 0xF8 0x2FF c
    || (is_within 0x370 0x37D c || (is_within 0x37F 0x1FFF c || (is_within 0x200C 0x200D c
    || (is_within 0x2070 0x218F c || (is_within 0x2C00 0x2FEF c || (is_within 0x3001 0xD7FF c
    || (is_within 0xF900 0xFDCF c || (is_within 0xFDF0 0xFFFD c || is_within 0x10000 0xEFFFF c))))))))))))) (c == 45)
    (c == 0xB7 || (is_within 0x300 0x36F c || is_within 0x203F 0x2040 c)) h

or_left : (a b : Bool) → a ≡ true → (a || b) ≡ true
or_left true b h = refl
or_left false b h = cc

or_right : (a b : Bool) → b ≡ true → (a || b) ≡ true
or_right true b h = refl
or_right false b h = h

plain_tail : (cs : List ℕ) → list_all is_letter_or_digit_char cs ≡ true → IsLabelTail cs
plain_tail [] h = tt
plain_tail (c ∷ []) h = label_char c (and_parts (is_letter_or_digit_char c) true h).0
plain_tail (c ∷ d ∷ cs) h =
    let both = and_parts (is_letter_or_digit_char c) (list_all is_letter_or_digit_char (d ∷ cs)) h in
    (or_left (is_label_char c) (c == 46) (label_char c both.0), plain_tail (d ∷ cs) both.1)

label_ok : (o : Origin) → IsLabel (label o)
label_ok Group = (refl, tt)
label_ok (Table t) = (refl, plain_tail _ (label_plain (Table t)))
label_ok (Row t r) = (refl, plain_tail _ (label_plain (Row t r)))
label_ok (Subject t r) = (refl, plain_tail _ (label_plain (Subject t r)))
label_ok (Entry t r c k) = (refl, plain_tail _ (label_plain (Entry t r c k)))
label_ok (Note n) = (refl, plain_tail _ (label_plain (Note n)))

pub blank_written : (o : Origin) → IsBlankNode (codes "_:" ++ label o) (label o)
blank_written o = (refl, label_ok o)

unfoldable pub in_label : ℕ → Bool
in_label c = is_label_char c || c == 46

swap_or : (a b x y : Bool) → (a || b) ≡ true → (a || (x || (b || y))) ≡ true
swap_or true b x y h = refl
swap_or false true true y h = refl
swap_or false true false y h = refl
swap_or false false x y h = cc

pub start_in_label : (c : ℕ) → is_label_start c ≡ true → in_label c ≡ true
unfolding in_label
start_in_label c h = or_left (is_label_char c) (c == 46)
    (swap_or (is_label_letter c) (is_digit_char c) (c == 45) (c == 0xB7 || (is_within 0x300 0x36F c || is_within 0x203F 0x2040 c)) h)

pub and_both : (a b : Bool) → a ≡ true → b ≡ true → (a && b) ≡ true
and_both true b h k = k
and_both false b h k = cc

tail_in_label : (cs : List ℕ) → IsLabelTail cs → list_all in_label cs ≡ true
unfolding in_label
tail_in_label [] h = refl
tail_in_label (c ∷ []) h = and_both _ true (or_left (is_label_char c) (c == 46) h) refl
tail_in_label (c ∷ d ∷ cs) h = and_both _ _ h.0 (tail_in_label (d ∷ cs) h.1)

pub all_in_label : (v : List ℕ) → IsLabel v → list_all in_label v ≡ true
all_in_label [] h = absurd h
all_in_label (c ∷ cs) h = and_both _ _ (start_in_label c h.0) (tail_in_label cs h.1)

blank_in_label : (p v : List ℕ) → IsBlankNode p v → list_all in_label p ≡ true
unfolding in_label
blank_in_label p v f = rw f.0 (all_in_label v f.1)

no_space_in_label : in_label 32 ≡ false
unfolding in_label
no_space_in_label = refl

pub blank_longest : (p after : List ℕ) → IsLongest IsBlankNode p (32 ∷ after)
blank_longest p after = plain_longest IsBlankNode in_label no_space_in_label blank_in_label p after

-- language tags
unfoldable pub in_tag : ℕ → Bool
in_tag c = is_letter_or_digit_char c || c == 45

in_marked : ℕ → Bool
in_marked c = in_tag c || c == 64

no_space_marked : in_marked 32 ≡ false
unfolding in_tag in_marked
no_space_marked = refl

abbrev pub AllPlain : List (List ℕ) → Type 0
AllPlain parts = AllByRecursion (λ w. list_all is_letter_or_digit_char w ≡ true) parts

onto_parts : (x : ℕ) (parts : List (List ℕ)) → AllPlain (onto_first x parts) → (is_letter_or_digit_char x ≡ true) × AllPlain parts
onto_parts x [] h = ((and_parts (is_letter_or_digit_char x) true h.0).0, tt)
onto_parts x (part ∷ parts) h = let both = and_parts (is_letter_or_digit_char x) (list_all is_letter_or_digit_char part) h.0 in (both.0, (both.1, h.1))

split_at_dash : (x : ℕ) (xs : List ℕ) (b : Bool) → (x == 45) ≡ b
    → AllPlain (cond b ([] ∷ slice_split is_dash xs) (onto_first x (slice_split is_dash xs))) → (in_tag x ≡ true) × AllPlain (slice_split is_dash xs)
unfolding in_tag
split_at_dash x xs true e h = (or_right (is_letter_or_digit_char x) (x == 45) e, h.1)
split_at_dash x xs false e h = let k = onto_parts x (slice_split is_dash xs) h in (or_left (is_letter_or_digit_char x) (x == 45) k.0, k.1)

split_in_tag : (v : List ℕ) → AllPlain (slice_split is_dash v) → list_all in_tag v ≡ true
split_in_tag [] h = refl
split_in_tag (x ∷ xs) h = let k = split_at_dash x xs (x == 45) refl h in and_both _ _ k.0 (split_in_tag xs k.1)

letters_plain : (cs : List ℕ) → list_all is_letter_char cs ≡ true → list_all is_letter_or_digit_char cs ≡ true
letters_plain [] h = refl
letters_plain (c ∷ cs) h =
    let both = and_parts (is_letter_char c) (list_all is_letter_char cs) h in
    and_both _ _ (or_left (is_letter_char c) (is_digit_char c) both.0) (letters_plain cs both.1)

word_all : (p : ℕ → Bool) (w : List ℕ) → is_word p w ≡ true → list_all p w ≡ true
word_all p w h = (and_parts (not (length w == 0)) (list_all p w) h).1

words_plain : (ws : List (List ℕ)) → list_all (is_word is_letter_or_digit_char) ws ≡ true → AllPlain ws
words_plain [] h = tt
words_plain (w ∷ ws) h =
    let both = and_parts (is_word is_letter_or_digit_char w) (list_all (is_word is_letter_or_digit_char) ws) h in
    (word_all is_letter_or_digit_char w both.0, words_plain ws both.1)

subtags_plain : (ws : List (List ℕ)) → are_subtags ws ≡ true → AllPlain ws
subtags_plain [] h = tt
subtags_plain (w ∷ ws) h =
    let both = and_parts (is_word is_letter_char w) (list_all (is_word is_letter_or_digit_char) ws) h in
    (letters_plain w (word_all is_letter_char w both.0), words_plain ws both.1)

-- a tag has letters, digits and dashes
pub tag_chars : (tag : List ℕ) → is_language_tag tag ≡ true → list_all in_tag tag ≡ true
unfolding is_language_tag
tag_chars tag h = split_in_tag tag (subtags_plain (slice_split is_dash tag) h)

marked : (cs : List ℕ) → list_all in_tag cs ≡ true → list_all in_marked cs ≡ true
unfolding in_marked
marked [] h = refl
marked (c ∷ cs) h = let both = and_parts (in_tag c) (list_all in_tag cs) h in and_both _ _ (or_left (in_tag c) (c == 64) both.0) (marked cs both.1)

tag_marked : (p v : List ℕ) → IsLangtag p v → list_all in_marked p ≡ true
unfolding in_marked
tag_marked p v f = rw f.0 (and_both _ _ (or_right (in_tag 64) (64 == 64) refl) (marked v (tag_chars v f.1)))

pub tag_longest : (p after : List ℕ) → IsLongest IsLangtag p (32 ∷ after)
tag_longest p after = plain_longest IsLangtag in_marked no_space_marked tag_marked p after

-- the longest piece for a text is the longest for its bytes
pub bytes_longest : (P : List ℕ → List ℕ → Type 0) (p after : List ℕ) → IsLongest P p after → IsLongest (InBytes P) p after
bytes_longest P p after h = λ more rest v e f. h more rest f.0 e f.1
