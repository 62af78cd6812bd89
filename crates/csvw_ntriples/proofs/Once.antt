-- A text denotes one list of triples at most.
use Rattle.std.proofs.Common.{◌≡◌, ℕ, List, [], ◌∷◌, ◌++◌, refl, sym, ap, ◌∙◌, subst, true, false, append-nil, inl, inr, ◌⊎◌, Option, Some, None}
use Rattle.std.proofs.lemmas.Bool.{and_parts}
use Rattle.std.specs.Prelude.{codes, ◌==◌, encode_utf8_all}
use Rattle.std.proofs.lemmas.Bool.Decides.{Decides-eqb}
use Rattle.std.specs.List.{list_all}
use Rattle.csvw_ntriples.specs.Character.{is_blank}
use Rattle.csvw_ntriples.specs.Terminal.{InBytes, IsString, IsIriref, IsLangtag, IsBlankNode, StringPiece, IriPiece}
use Rattle.csvw_ntriples.specs.Grammar.{Takes, IsLongest, IsMark, TakesIri, TakesBlank, TakesNode, TakesSuffix, TakesLit, TakesTerm, IsIdle}
use Rattle.csvw_ntriples.specs.Grammar.{IsTripleLine, AreLines, Denotes}
use Rattle.csvw_ntriples.specs.Reading.{dark}
use Rattle.csvw_ntriples.specs.declared.term.NtNode.{NtNode}
use Rattle.csvw_ntriples.specs.declared.term.NtNode.TheVariants as node
use Rattle.csvw_ntriples.specs.declared.term.NtLit.{NtLit}
use Rattle.csvw_ntriples.specs.declared.term.NtTerm.{NtTerm}
use Rattle.csvw_ntriples.specs.declared.term.NtTerm.TheVariants as term
use Rattle.csvw_ntriples.specs.declared.term.NtTriple.{NtTriple}
use Rattle.csvw_ntriples.proofs.Pieces.{body_once, string_piece_once, string_begins, iri_piece_once, iri_begins}

dark_after : (gap : List ℕ) (c : ℕ) (rest : List ℕ) → list_all is_blank gap ≡ true → is_blank c ≡ false → dark (gap ++ c ∷ rest) ≡ Some c
dark_after [] c rest h k = rw k refl
dark_after (b ∷ gap) c rest h k = let both = and_parts (is_blank b) (list_all is_blank gap) h in rw both.0 (dark_after gap c rest both.1 k)

-- past the spaces and tabs there is one text
pub gap_once : (g h : List ℕ) (c d : ℕ) (x y : List ℕ) → list_all is_blank g ≡ true → list_all is_blank h ≡ true → is_blank c ≡ false
    → is_blank d ≡ false → g ++ c ∷ x ≡ h ++ d ∷ y → c ∷ x ≡ d ∷ y
gap_once [] [] c d x y p q k l e = e
gap_once [] (b ∷ h) c d x y p q k l e =
    let both = and_parts (is_blank b) (list_all is_blank h) q in let same : c ≡ b = cc in
    let wrong : is_blank b ≡ false = subst (λ z. is_blank z ≡ false) same k in let t = both.0 in cc
gap_once (b ∷ g) [] c d x y p q k l e =
    let both = and_parts (is_blank b) (list_all is_blank g) p in let same : d ≡ b = cc in
    let wrong : is_blank b ≡ false = subst (λ z. is_blank z ≡ false) same l in let t = both.0 in cc
gap_once (a ∷ g) (b ∷ h) c d x y p q k l e =
    let tails : g ++ c ∷ x ≡ h ++ d ∷ y = cc in
    gap_once g h c d x y (and_parts (is_blank a) (list_all is_blank g) p).1 (and_parts (is_blank b) (list_all is_blank h) q).1 k l tails

-- of two fronts of a text one begins with the other
abbrev Goes : List ℕ → List ℕ → List ℕ → List ℕ → Type 0
Goes p q a b = (more : List ℕ) × (q ≡ p ++ more) × (a ≡ more ++ b)

goes_or : (x y : ℕ) (p q a b : List ℕ) → x ≡ y → Goes p q a b ⊎ Goes q p b a → Goes (x ∷ p) (y ∷ q) a b ⊎ Goes (y ∷ q) (x ∷ p) b a
goes_or x y p q a b e (inl (more, longer, left)) = let w : y ∷ q ≡ x ∷ (p ++ more) = cc in inl (more, w, left)
goes_or x y p q a b e (inr (more, longer, left)) = let w : x ∷ p ≡ y ∷ (q ++ more) = cc in inr (more, w, left)

fronts : (p q a b : List ℕ) → p ++ a ≡ q ++ b → Goes p q a b ⊎ Goes q p b a
fronts [] q a b e = inl (q, refl, e)
fronts (x ∷ p) [] a b e = inr (x ∷ p, refl, sym e)
fronts (x ∷ p) (y ∷ q) a b e = let same : x ≡ y = cc in let tails : p ++ a ≡ q ++ b = cc in goes_or x y p q a b same (fronts p q a b tails)

abbrev Functional : {V : Type 0} → (List ℕ → V → Type 0) → Type 0
Functional {V} P = (p : List ℕ) (v w : V) → P p v → P p w → v ≡ w

abbrev Starts : {V : Type 0} → (List ℕ → V → Type 0) → ℕ → Type 0
Starts {V} P mark = (p : List ℕ) (v : V) → P p v → (rest : List ℕ) × (p ≡ mark ∷ rest)

-- a terminal that begins with a mark
module _ {V : Type 0} (P : List ℕ → V → Type 0) (mark : ℕ) (is_dark : is_blank mark ≡ false) (starts : Starts P mark) where
  takes_dark : (v : V) (text a : List ℕ) → Takes P v text a → dark text ≡ Some mark
  takes_dark v text a (gap, p, spelled, blank, has_v, _) =
      let (rest, marked) = starts p v has_v in
      let whole : text ≡ gap ++ mark ∷ (rest ++ a) = spelled ∙ ap (λ z. gap ++ (z ++ a)) marked in
      ap dark whole ∙ dark_after gap mark (rest ++ a) blank is_dark

  piece_once : Functional P → (v w : V) (p q a b : List ℕ) → P p v → P q w → IsLongest P p a → IsLongest P q b → Goes p q a b ⊎ Goes q p b a → (v ≡ w) × (a ≡ b)
  piece_once one v w p q a b f g l k (inl (more, longer, left)) =
      let none : more ≡ [] = l more b w left (subst (λ z. P z w) longer g) in
      let same : q ≡ p = longer ∙ (ap (λ z. p ++ z) none ∙ append-nil p) in
      (one p v w f (subst (λ z. P z w) same g), left ∙ ap (λ z. z ++ b) none)
  piece_once one v w p q a b f g l k (inr (more, longer, left)) =
      let none : more ≡ [] = k more a v left (subst (λ z. P z v) longer f) in
      let same : p ≡ q = longer ∙ (ap (λ z. q ++ z) none ∙ append-nil q) in
      (one q v w (subst (λ z. P z v) same f) g, sym (left ∙ ap (λ z. z ++ a) none))

  takes_once : Functional P → (v w : V) (text a b : List ℕ) → Takes P v text a → Takes P w text b → (v ≡ w) × (a ≡ b)
  takes_once one v w text a b (gap, p, p_spelled, gap_blank, has_v, p_longest) (space, q, q_spelled, space_blank, has_w, q_longest) =
      let (xs, p_marked) = starts p v has_v in let (ys, q_marked) = starts q w has_w in
      let left : p ++ a ≡ mark ∷ (xs ++ a) = ap (λ z. z ++ a) p_marked in
      let right : q ++ b ≡ mark ∷ (ys ++ b) = ap (λ z. z ++ b) q_marked in
      let whole : gap ++ mark ∷ (xs ++ a) ≡ space ++ mark ∷ (ys ++ b) =
      ap (λ z. gap ++ z) (sym left) ∙ (sym p_spelled ∙ (q_spelled ∙ ap (λ z. space ++ z) right)) in
      let past = gap_once gap space mark mark (xs ++ a) (ys ++ b) gap_blank space_blank is_dark is_dark whole in
      piece_once one v w p q a b has_v has_w p_longest q_longest (fronts p q a b (left ∙ (past ∙ sym right)))

-- the bytes of a terminal's text
module _ (P : List ℕ → List ℕ → Type 0) where
  bytes_starts : (mark : ℕ) → Starts P mark → Starts (InBytes P) mark
  bytes_starts mark starts p v (text, stands, _) = starts p text stands

  bytes_one : Functional P → Functional (InBytes P)
  bytes_one one p v w (s, has_s, v_is) (t, has_t, w_is) = v_is ∙ (ap encode_utf8_all (one p s t has_s has_t) ∙ sym w_is)

string_starts : Starts (InBytes IsString) 34
string_starts p v (text, (body, marked, _), _) = (body ++ 34 ∷ [], marked)

iri_starts : Starts (InBytes IsIriref) 60
iri_starts p v (text, (body, marked, _), _) = (body ++ 62 ∷ [], marked)

tag_starts : Starts (InBytes IsLangtag) 64
tag_starts p v (tag, (marked, _), _) = (tag, marked)

blank_starts : Starts (InBytes IsBlankNode) 95
blank_starts p v (label, (marked, _), _) = (58 ∷ label, marked)

string_text_one : Functional IsString
string_text_one p v w (s, s_marked, s_pieces) (t, t_marked, t_pieces) =
    let whole : 34 ∷ (s ++ 34 ∷ []) ≡ 34 ∷ (t ++ 34 ∷ []) = sym s_marked ∙ t_marked in
    let tails : s ++ 34 ∷ [] ≡ t ++ 34 ∷ [] = cc in
    (body_once StringPiece 34 string_piece_once string_begins v w s t [] [] s_pieces t_pieces tails).0

iri_text_one : Functional IsIriref
iri_text_one p v w (s, s_marked, s_pieces) (t, t_marked, t_pieces) =
    let whole : 60 ∷ (s ++ 62 ∷ []) ≡ 60 ∷ (t ++ 62 ∷ []) = sym s_marked ∙ t_marked in
    let tails : s ++ 62 ∷ [] ≡ t ++ 62 ∷ [] = cc in
    (body_once IriPiece 62 iri_piece_once iri_begins v w s t [] [] s_pieces t_pieces tails).0

tag_text_one : Functional IsLangtag
tag_text_one p v w (v_marked, _) (w_marked, _) = let whole : 64 ∷ v ≡ 64 ∷ w = sym v_marked ∙ w_marked in cc

blank_text_one : Functional IsBlankNode
blank_text_one p v w (v_marked, _) (w_marked, _) = let whole : 95 ∷ 58 ∷ v ≡ 95 ∷ 58 ∷ w = sym v_marked ∙ w_marked in cc

string_one : Functional (InBytes IsString)
string_one p v w f g = bytes_one IsString string_text_one p v w f g

iri_one : Functional (InBytes IsIriref)
iri_one p v w f g = bytes_one IsIriref iri_text_one p v w f g

tag_one : Functional (InBytes IsLangtag)
tag_one p v w f g = bytes_one IsLangtag tag_text_one p v w f g

blank_one : Functional (InBytes IsBlankNode)
blank_one p v w f g = bytes_one IsBlankNode blank_text_one p v w f g

mark_starts : (mark : ℕ) (others : List ℕ) → Starts (IsMark (mark ∷ others)) mark
mark_starts mark others p v f = (others, f)

mark_one : (mark : List ℕ) → Functional (IsMark mark)
mark_one mark p v w f g = refl

pub apart : (text : List ℕ) (c d : ℕ) → dark text ≡ Some c → dark text ≡ Some d → (c ≡ d → ⊥) → ⊥
apart text c d f g h = let e : Some c ≡ Some d = sym f ∙ g in let k : c ≡ d = cc in h k

pub iri_dark : (v text a : List ℕ) → TakesIri v text a → dark text ≡ Some 60
iri_dark v text a f = takes_dark (InBytes IsIriref) 60 refl iri_starts v text a f

pub blank_dark : (v text a : List ℕ) → TakesBlank v text a → dark text ≡ Some 95
blank_dark v text a f = takes_dark (InBytes IsBlankNode) 95 refl blank_starts v text a f

pub string_dark : (v text a : List ℕ) → Takes (InBytes IsString) v text a → dark text ≡ Some 34
string_dark v text a f = takes_dark (InBytes IsString) 34 refl string_starts v text a f

pub tag_dark : (v text a : List ℕ) → Takes (InBytes IsLangtag) v text a → dark text ≡ Some 64
tag_dark v text a f = takes_dark (InBytes IsLangtag) 64 refl tag_starts v text a f

pub dot_dark : (text a : List ℕ) → Takes (IsMark (codes ".")) tt text a → dark text ≡ Some 46
dot_dark text a f = takes_dark (IsMark (codes ".")) 46 refl (mark_starts 46 []) tt text a f

pub hats_dark : (text a : List ℕ) → Takes (IsMark (codes "^^")) tt text a → dark text ≡ Some 94
hats_dark text a f = takes_dark (IsMark (codes "^^")) 94 refl (mark_starts 94 (94 ∷ [])) tt text a f

pub differ : (a b : ℕ) → (a == b) ≡ false → a ≡ b → ⊥
differ a b h e = let k = Decides-eqb a b in let t : (a == b) ≡ true = k.1 e in cc

pub iri_once : (v w text a b : List ℕ) → TakesIri v text a → TakesIri w text b → (v ≡ w) × (a ≡ b)
iri_once v w text a b f g = takes_once (InBytes IsIriref) 60 refl iri_starts iri_one v w text a b f g

pub blank_once : (v w text a b : List ℕ) → TakesBlank v text a → TakesBlank w text b → (v ≡ w) × (a ≡ b)
blank_once v w text a b f g = takes_once (InBytes IsBlankNode) 95 refl blank_starts blank_one v w text a b f g

pub string_once : (v w text a b : List ℕ) → Takes (InBytes IsString) v text a → Takes (InBytes IsString) w text b → (v ≡ w) × (a ≡ b)
string_once v w text a b f g = takes_once (InBytes IsString) 34 refl string_starts string_one v w text a b f g

tag_once : (v w text a b : List ℕ) → Takes (InBytes IsLangtag) v text a → Takes (InBytes IsLangtag) w text b → (v ≡ w) × (a ≡ b)
tag_once v w text a b f g = takes_once (InBytes IsLangtag) 64 refl tag_starts tag_one v w text a b f g

pub dot_once : (text a b : List ℕ) → Takes (IsMark (codes ".")) tt text a → Takes (IsMark (codes ".")) tt text b → a ≡ b
dot_once text a b f g = (takes_once (IsMark (codes ".")) 46 refl (mark_starts 46 []) (mark_one (codes ".")) tt tt text a b f g).1

pub node_dark : (n : NtNode) (text a : List ℕ) → TakesNode n text a → (dark text ≡ Some 60) ⊎ (dark text ≡ Some 95)
node_dark (node.Named v) text a f = inl (iri_dark v text a f)
node_dark (node.Blank v) text a f = inr (blank_dark v text a f)

pub node_once : (m n : NtNode) (text a b : List ℕ) → TakesNode m text a → TakesNode n text b → (m ≡ n) × (a ≡ b)
node_once (node.Named v) (node.Named w) text a b f g = let h = iri_once v w text a b f g in (ap node.Named h.0, h.1)
node_once (node.Named v) (node.Blank w) text a b f g = absurd (apart text 60 95 (iri_dark v text a f) (blank_dark w text b g) (differ 60 95 refl))
node_once (node.Blank v) (node.Named w) text a b f g = absurd (apart text 95 60 (blank_dark v text a f) (iri_dark w text b g) (differ 95 60 refl))
node_once (node.Blank v) (node.Blank w) text a b f g = let h = blank_once v w text a b f g in (ap node.Blank h.0, h.1)

-- a dot follows both
abbrev Dotted : List ℕ → List ℕ → Type 0
Dotted a b = (dark a ≡ Some 46) × (dark b ≡ Some 46)

type_once : (v w text a b : List ℕ) → Dotted a b → TakesSuffix None v text a → TakesSuffix None w text b → (v ≡ w) × (a ≡ b)
type_once v w text a b d (inl (v_is, a_is)) (inl (w_is, b_is)) = (v_is ∙ sym w_is, sym a_is ∙ b_is)
type_once v w text a b (a_dot, b_dot) (inl (_, a_is)) (inr (rest, hats, _)) =
    absurd (apart text 46 94 (ap dark a_is ∙ a_dot) (hats_dark text rest hats) (differ 46 94 refl))
type_once v w text a b (a_dot, b_dot) (inr (rest, hats, _)) (inl (_, b_is)) =
    absurd (apart text 94 46 (hats_dark text rest hats) (ap dark b_is ∙ b_dot) (differ 94 46 refl))
type_once v w text a b d (inr (x, x_hats, v_iri)) (inr (y, y_hats, w_iri)) =
    let hats = takes_once (IsMark (codes "^^")) 94 refl (mark_starts 94 (94 ∷ [])) (mark_one (codes "^^")) tt tt text x y x_hats y_hats in
    iri_once v w x a b v_iri (subst (λ z. TakesIri w z b) (sym hats.1) w_iri)

-- a datatype and a language begin differently
type_dark : (v text a : List ℕ) → dark a ≡ Some 46 → TakesSuffix None v text a → (dark text ≡ Some 46) ⊎ (dark text ≡ Some 94)
type_dark v text a d (inl (_, a_is)) = inl (ap dark a_is ∙ d)
type_dark v text a d (inr (rest, hats, _)) = inr (hats_dark text rest hats)

not_tag : (text : List ℕ) → (dark text ≡ Some 46) ⊎ (dark text ≡ Some 94) → dark text ≡ Some 64 → ⊥
not_tag text (inl f) g = apart text 46 64 f g (differ 46 64 refl)
not_tag text (inr f) g = apart text 94 64 f g (differ 94 64 refl)

suffix_once : (m n : Option (List ℕ)) (i j text a b : List ℕ) → Dotted a b → TakesSuffix m i text a → TakesSuffix n j text b → (m ≡ n) × (i ≡ j) × (a ≡ b)
suffix_once None None i j text a b d f g = let t = type_once i j text a b d f g in (refl, t.0, t.1)
suffix_once None (Some w) i j text a b d f g = absurd (not_tag text (type_dark i text a d.0 f) (tag_dark w text b g.1))
suffix_once (Some v) None i j text a b d f g = absurd (not_tag text (type_dark j text b d.1 g) (tag_dark v text a f.1))
suffix_once (Some v) (Some w) i j text a b d f g = let t = tag_once v w text a b f.1 g.1 in (ap Some t.0, f.0 ∙ sym g.0, t.1)

make_lit : List ℕ → List ℕ → Option (List ℕ) → NtLit
make_lit x y z = record { text = x; datatype = y; lang = z }

same_lit : (a b c d : List ℕ) (e f : Option (List ℕ)) → a ≡ b → c ≡ d → e ≡ f → make_lit a c e ≡ make_lit b d f
same_lit a b c d e f p q r = ap (λ z. make_lit z c e) p ∙ (ap (λ z. make_lit b z e) q ∙ ap (λ z. make_lit b d z) r)

lit_once : (m n : NtLit) (text a b : List ℕ) → Dotted a b → TakesLit m text a → TakesLit n text b → (m ≡ n) × (a ≡ b)
unfolding make_lit
lit_once m n text a b d (x, m_string, m_suffix) (y, n_string, n_suffix) =
    let (texts, rests) = string_once m.text n.text text x y m_string n_string in
    let (langs, types, ends) = suffix_once m.lang n.lang m.datatype n.datatype x a b d m_suffix
    (subst (λ z. TakesSuffix n.lang n.datatype z b) (sym rests) n_suffix) in
    (same_lit m.text n.text m.datatype n.datatype m.lang n.lang texts types langs, ends)

pub lit_dark : (m : NtLit) (text a : List ℕ) → TakesLit m text a → dark text ≡ Some 34
lit_dark m text a (rest, string, _) = string_dark m.text text rest string

pub term_once : (m n : NtTerm) (text a b : List ℕ) → Dotted a b → TakesTerm m text a → TakesTerm n text b → (m ≡ n) × (a ≡ b)
term_once (term.Named v) (term.Named w) text a b d f g = let h = iri_once v w text a b f g in (ap term.Named h.0, h.1)
term_once (term.Named v) (term.Blank w) text a b d f g = absurd (apart text 60 95 (iri_dark v text a f) (blank_dark w text b g) (differ 60 95 refl))
term_once (term.Named v) (term.Literal n) text a b d f g = absurd (apart text 60 34 (iri_dark v text a f) (lit_dark n text b g) (differ 60 34 refl))
term_once (term.Blank v) (term.Named w) text a b d f g = absurd (apart text 95 60 (blank_dark v text a f) (iri_dark w text b g) (differ 95 60 refl))
term_once (term.Blank v) (term.Blank w) text a b d f g = let h = blank_once v w text a b f g in (ap term.Blank h.0, h.1)
term_once (term.Blank v) (term.Literal n) text a b d f g = absurd (apart text 95 34 (blank_dark v text a f) (lit_dark n text b g) (differ 95 34 refl))
term_once (term.Literal m) (term.Named w) text a b d f g = absurd (apart text 34 60 (lit_dark m text a f) (iri_dark w text b g) (differ 34 60 refl))
term_once (term.Literal m) (term.Blank w) text a b d f g = absurd (apart text 34 95 (lit_dark m text a f) (blank_dark w text b g) (differ 34 95 refl))
term_once (term.Literal m) (term.Literal n) text a b d f g = let h = lit_once m n text a b d f g in (ap term.Literal h.0, h.1)

make_triple : NtNode → List ℕ → NtTerm → NtTriple
make_triple x y z = record { s = x; p = y; o = z }

same_triple : (a b : NtNode) (c d : List ℕ) (e f : NtTerm) → a ≡ b → c ≡ d → e ≡ f → make_triple a c e ≡ make_triple b d f
same_triple a b c d e f p q r = ap (λ z. make_triple z c e) p ∙ (ap (λ z. make_triple b z e) q ∙ ap (λ z. make_triple b d z) r)

pub triple_once : (line : List ℕ) (t u : NtTriple) → IsTripleLine line t → IsTripleLine line u → t ≡ u
unfolding make_triple
triple_once line t u (a, b, c, d, t_s, t_p, t_o, t_dot, _) (i, j, k, l, u_s, u_p, u_o, u_dot, _) =
    let s = node_once t.s u.s line a i t_s u_s in
    let p = iri_once t.p u.p a b j t_p (subst (λ z. TakesIri u.p z j) (sym s.1) u_p) in
    let o = term_once t.o u.o b c k (dot_dark c d t_dot, dot_dark k l u_dot) t_o (subst (λ z. TakesTerm u.o z k) (sym p.1) u_o) in
    same_triple t.s u.s t.p u.p t.o u.o s.0 p.0 o.0

-- a line with a triple isn't idle
idle_dark : (line : List ℕ) (c : ℕ) → IsIdle line → dark line ≡ Some c → c ≡ 35
idle_dark [] c f g = cc
idle_dark (x ∷ xs) c (inl f) g = let h : dark (35 ∷ xs) ≡ Some c = subst (λ z. dark (z ∷ xs) ≡ Some c) f g in let k : Some 35 ≡ Some c = h in cc
idle_dark (x ∷ xs) c (inr f) g = idle_dark xs c f.1 (rw f.0 at g)

pub not_idle : (line : List ℕ) (t : NtTriple) → IsIdle line → IsTripleLine line t → ⊥
not_idle line t f (a, _, _, _, subject, _, _, _, _) = not_35 (node_dark t.s line a subject)
  where
    not_35 : (dark line ≡ Some 60) ⊎ (dark line ≡ Some 95) → ⊥
    not_35 (inl h) = differ 60 35 refl (idle_dark line 60 f h)
    not_35 (inr h) = differ 95 35 refl (idle_dark line 95 f h)

lines_once : (lines : List (List ℕ)) (xs ys : List NtTriple) → AreLines lines xs → AreLines lines ys → xs ≡ ys
lines_once [] xs ys f g = f ∙ sym g
lines_once (line ∷ lines) xs ys (inl f) (inl g) = lines_once lines xs ys f.1 g.1
lines_once (line ∷ lines) xs ys (inl (idle, _)) (inr (t, _, _, stands, _)) = absurd (not_idle line t idle stands)
lines_once (line ∷ lines) xs ys (inr (t, _, _, stands, _)) (inl (idle, _)) = absurd (not_idle line t idle stands)
lines_once (line ∷ lines) xs ys (inr (t, ts, xs_are, t_stands, ts_are)) (inr (u, us, ys_are, u_stands, us_are)) =
    let first = triple_once line t u t_stands u_stands in let others = lines_once lines ts us ts_are us_are in cc

-- the law
pub denotes_once : (bytes : List ℕ) (xs ys : List NtTriple) → Denotes bytes xs → Denotes bytes ys → xs ≡ ys
denotes_once bytes xs ys f g = lines_once _ xs ys f.1 g.1
