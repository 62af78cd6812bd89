-- Pieces at the front of a text, up to a mark.
use Rattle.std.proofs.Common.{◌≡◌, ◌<◌, ℕ, List, [], ◌∷◌, ◌++◌, refl, sym, ap, ◌∙◌, subst, arith, true, false, length, append_assoc, append-nil, inl}
use Rattle.std.proofs.Common.{inr, ◌⊎◌, Option, Some, None, Bor, length-append}
use Rattle.std.specs.Prelude.{MatchOption, encode_utf8_all, encode_utf8}
use Rattle.csvw_ntriples.specs.Terminal.{IriPiece, Spells}
use Rattle.csvw_ntriples.specs.Reading.{mark_of, is_raw_in, escape_in, PieceOf, Begins, BeginsDigits, ReadsBytes}
use Rattle.csvw_ntriples.specs.declared.reading.enclosed.Enclosed.{Enclosed}
use Rattle.csvw_ntriples.specs.declared.reading.enclosed.Enclosed.TheVariants as enclosed
use Rattle.csvw_ntriples.proofs.Pieces.{Once, BeginsNot, string_piece_once, string_begins, iri_piece_once, iri_begins}
use Rattle.std.proofs.lemmas.Str.{encodes-append}

-- the pieces of IRIs and of strings are those of the grammar
pub to_iri_piece : (p : List ℕ) (c : ℕ) → PieceOf enclosed.Iri p c → IriPiece p c
to_iri_piece p c (inl f) = inl f
to_iri_piece p c (inr (inl f)) = let no : None ≡ Some c = f.2 in cc
to_iri_piece p c (inr (inr f)) = inr f

pub from_iri_piece : (p : List ℕ) (c : ℕ) → IriPiece p c → PieceOf enclosed.Iri p c
from_iri_piece p c (inl f) = inl f
from_iri_piece p c (inr f) = inr (inr f)

pub to_iri : (body value : List ℕ) → Spells (PieceOf enclosed.Iri) body value → Spells IriPiece body value
to_iri body [] s = s
to_iri body (c ∷ cs) s = (s.0, s.1, s.2, to_iri_piece s.0 c s.3, to_iri s.1 cs s.4)

pub from_iri : (body value : List ℕ) → Spells IriPiece body value → Spells (PieceOf enclosed.Iri) body value
from_iri body [] s = s
from_iri body (c ∷ cs) s = (s.0, s.1, s.2, from_iri_piece s.0 c s.3, from_iri s.1 cs s.4)

piece_once : (kind : Enclosed) → Once (PieceOf kind)
piece_once enclosed.Iri p q r s c d f g e = iri_piece_once p q r s c d (to_iri_piece p c f) (to_iri_piece q d g) e
piece_once enclosed.Literal p q r s c d f g e = string_piece_once p q r s c d f g e

begins_not : (kind : Enclosed) → BeginsNot (PieceOf kind) (mark_of kind)
begins_not enclosed.Iri p r s c f e = iri_begins p r s c (to_iri_piece p c f) e
begins_not enclosed.Literal p r s c f e = string_begins p r s c f e

backslash_not_raw : (kind : Enclosed) → is_raw_in kind 92 ≡ false
backslash_not_raw enclosed.Iri = refl
backslash_not_raw enclosed.Literal = refl

no_backslash : (kind : Enclosed) (c : ℕ) → is_raw_in kind c ≡ true → c ≡ 92 → ⊥
no_backslash kind c h e = let k : is_raw_in kind 92 ≡ true = subst (λ x. is_raw_in kind x ≡ true) e h in let n = backslash_not_raw kind in cc

no_escape : (kind : Enclosed) → (escape_in kind 117 ≡ None) × (escape_in kind 85 ≡ None)
no_escape enclosed.Iri = (refl, refl)
no_escape enclosed.Literal = (refl, refl)

escape_no_mark : (kind : Enclosed) (m c : ℕ) → escape_in kind m ≡ Some c → (m ≡ 117) ⊎ (m ≡ 85) → ⊥
escape_no_mark kind m c h (inl e) = let k : None ≡ Some c = sym (no_escape kind).0 ∙ (sym (ap (escape_in kind) e) ∙ h) in cc
escape_no_mark kind m c h (inr e) = let k : None ≡ Some c = sym (no_escape kind).1 ∙ (sym (ap (escape_in kind) e) ∙ h) in cc

-- one piece
pub raw_piece : (kind : Enclosed) (text rest : List ℕ) (c : ℕ) → text ≡ c ∷ rest → is_raw_in kind c ≡ true
    → Begins kind text c rest × (length rest < length text)
raw_piece kind text rest c e h = let n = ap length e in let k : length rest < length text = omega arith in ((c ∷ [], e, inl (refl, h)), k)

pub escape_piece : (kind : Enclosed) (text rest : List ℕ) (c letter : ℕ) → text ≡ 92 ∷ letter ∷ rest → escape_in kind letter ≡ Some c
    → Begins kind text c rest × (length rest < length text)
escape_piece kind text rest c letter e h = let n = ap length e in let k : length rest < length text = omega arith in
    ((92 ∷ letter ∷ [], e, inr (inl (letter, refl, h))), k)

lengths : (m count : ℕ) (n : ℕ) → ((m ≡ 117) × (count ≡ 4)) ⊎ ((m ≡ 85) × (count ≡ 8)) → n ≡ count → ((m ≡ 117) × (n ≡ 4)) ⊎ ((m ≡ 85) × (n ≡ 8))
lengths m count n (inl f) e = inl (f.0, e ∙ f.1)
lengths m count n (inr f) e = inr (f.0, e ∙ f.1)

same_count : (m k count n : ℕ) → m ≡ k → ((m ≡ 117) × (count ≡ 4)) ⊎ ((m ≡ 85) × (count ≡ 8)) → ((k ≡ 117) × (n ≡ 4)) ⊎ ((k ≡ 85) × (n ≡ 8)) → n ≡ count
same_count m k count n e (inl f) (inl g) = g.1 ∙ sym f.1
same_count m k count n e (inl f) (inr g) = let a : m ≡ 117 = f.0 in let b : k ≡ 85 = g.0 in absurd (omega arith)
same_count m k count n e (inr f) (inl g) = let a : m ≡ 85 = f.0 in let b : k ≡ 117 = g.0 in absurd (omega arith)
same_count m k count n e (inr f) (inr g) = g.1 ∙ sym f.1

is_mark : (m count : ℕ) → ((m ≡ 117) × (count ≡ 4)) ⊎ ((m ≡ 85) × (count ≡ 8)) → (m ≡ 117) ⊎ (m ≡ 85)
is_mark m count (inl f) = inl f.0
is_mark m count (inr f) = inr f.0

no_numbered : (kind : Enclosed) (text inner : List ℕ) (m count : ℕ) → text ≡ 92 ∷ m ∷ inner → ((m ≡ 117) × (count ≡ 4)) ⊎ ((m ≡ 85) × (count ≡ 8))
    → ((c : ℕ) (rest : List ℕ) → BeginsDigits count inner c rest → ⊥) → (c : ℕ) (rest : List ℕ) → Begins kind text c rest → ⊥
no_numbered kind text inner m count e k none c rest (p, f, inl g) =
    let whole : c ∷ rest ≡ 92 ∷ m ∷ inner = ap (λ x. x ++ rest) (sym g.0) ∙ (sym f ∙ e) in
    let same : c ≡ 92 = cc in no_backslash kind c g.1 same
no_numbered kind text inner m count e k none c rest (p, f, inr (inl g)) =
    let whole : 92 ∷ g.0 ∷ rest ≡ 92 ∷ m ∷ inner = ap (λ x. x ++ rest) (sym g.1) ∙ (sym f ∙ e) in
    let same : g.0 ≡ m = cc in escape_no_mark kind m c (subst (λ x. escape_in kind x ≡ Some c) same g.2) (is_mark m count k)
no_numbered kind text inner m count e k none c rest (p, f, inr (inr g)) =
    let whole : 92 ∷ g.0 ∷ (g.1 ++ rest) ≡ 92 ∷ m ∷ inner = ap (λ x. x ++ rest) (sym g.2) ∙ (sym f ∙ e) in
    let same : m ≡ g.0 = cc in let digits : inner ≡ g.1 ++ rest = cc in
    none c rest (g.1, digits, same_count m g.0 count (length g.1) same k g.3, g.4, g.5, g.6)

numbered_piece : (kind : Enclosed) (text inner : List ℕ) (m count : ℕ) (c : ℕ) (rest : List ℕ) → text ≡ 92 ∷ m ∷ inner
    → ((m ≡ 117) × (count ≡ 4)) ⊎ ((m ≡ 85) × (count ≡ 8))
    → BeginsDigits count inner c rest → Begins kind text c rest × (length rest < length text)
numbered_piece kind text inner m count c rest e k b =
    let whole : text ≡ 92 ∷ m ∷ (b.0 ++ rest) = e ∙ ap (λ x. 92 ∷ m ∷ x) b.1 in
    let n = ap length whole in
    let small : length rest < length text = omega (arith, n, length-append b.0 rest) in
    ((92 ∷ m ∷ b.0, whole, inr (inr (m, b.0, refl, lengths m count (length b.0) k b.2, b.3, b.4, b.5))), small)

pub numbered_result : (kind : Enclosed) (text inner : List ℕ) (m count : ℕ) (r : Option (ℕ × Bor (List ℕ))) → text ≡ 92 ∷ m ∷ inner
    → ((m ≡ 117) × (count ≡ 4)) ⊎ ((m ≡ 85) × (count ≡ 8))
    → MatchOption r ((c : ℕ) (rest : List ℕ) → BeginsDigits count inner c rest → ⊥) (λ x. BeginsDigits count inner x.0 x.1.now)
    → MatchOption r ((c : ℕ) (rest : List ℕ) → Begins kind text c rest → ⊥) (λ x. Begins kind text x.0 x.1.now × (length x.1.now < length text))
numbered_result kind text inner m count None e k h = no_numbered kind text inner m count e k h
numbered_result kind text inner m count (Some x) e k h = numbered_piece kind text inner m count x.0 x.1.now e k h

-- no piece
pub not_begun : (kind : Enclosed) (text rest : List ℕ) (x : ℕ) → text ≡ x ∷ rest → is_raw_in kind x ≡ false → (x ≡ 92 → ⊥) → (c : ℕ) (after : List ℕ)
    → Begins kind text c after → ⊥
not_begun kind text rest x e h n c after (p, f, inl g) =
    let whole : c ∷ after ≡ x ∷ rest = ap (λ z. z ++ after) (sym g.0) ∙ (sym f ∙ e) in
    let same : c ≡ x = cc in let wrong : is_raw_in kind x ≡ true = subst (λ z. is_raw_in kind z ≡ true) same g.1 in cc
not_begun kind text rest x e h n c after (p, f, inr (inl g)) =
    let whole : 92 ∷ g.0 ∷ after ≡ x ∷ rest = ap (λ z. z ++ after) (sym g.1) ∙ (sym f ∙ e) in
    let same : x ≡ 92 = cc in n same
not_begun kind text rest x e h n c after (p, f, inr (inr g)) =
    let whole : 92 ∷ g.0 ∷ (g.1 ++ after) ≡ x ∷ rest = ap (λ z. z ++ after) (sym g.2) ∙ (sym f ∙ e) in
    let same : x ≡ 92 = cc in n same

-- a backslash alone
pub lone_backslash : (kind : Enclosed) (text rest : List ℕ) (x : ℕ) → text ≡ x ∷ rest → x ≡ 92 → length rest ≡ 0 → (c : ℕ) (after : List ℕ)
    → Begins kind text c after → ⊥
lone_backslash kind text rest x e b z c after (p, f, inl g) =
    let whole : c ∷ after ≡ x ∷ rest = ap (λ y. y ++ after) (sym g.0) ∙ (sym f ∙ e) in
    let same : c ≡ 92 = cc in no_backslash kind c g.1 same
lone_backslash kind text rest x e b z c after (p, f, inr (inl g)) =
    let whole : 92 ∷ g.0 ∷ after ≡ x ∷ rest = ap (λ y. y ++ after) (sym g.1) ∙ (sym f ∙ e) in
    let n = ap length whole in absurd (omega arith)
lone_backslash kind text rest x e b z c after (p, f, inr (inr g)) =
    let whole : 92 ∷ g.0 ∷ (g.1 ++ after) ≡ x ∷ rest = ap (λ y. y ++ after) (sym g.2) ∙ (sym f ∙ e) in
    let n = ap length whole in absurd (omega arith)

-- no escape of the letter
pub no_escaped : (kind : Enclosed) (text rest : List ℕ) (letter : ℕ) → text ≡ 92 ∷ letter ∷ rest → escape_in kind letter ≡ None → (letter ≡ 117 → ⊥)
    → (letter ≡ 85 → ⊥)
    → (c : ℕ) (after : List ℕ) → Begins kind text c after → ⊥
no_escaped kind text rest letter e h n m c after (p, f, inl g) =
    let whole : c ∷ after ≡ 92 ∷ letter ∷ rest = ap (λ z. z ++ after) (sym g.0) ∙ (sym f ∙ e) in
    let same : c ≡ 92 = cc in no_backslash kind c g.1 same
no_escaped kind text rest letter e h n m c after (p, f, inr (inl g)) =
    let whole : 92 ∷ g.0 ∷ after ≡ 92 ∷ letter ∷ rest = ap (λ z. z ++ after) (sym g.1) ∙ (sym f ∙ e) in
    let same : g.0 ≡ letter = cc in
    let some : None ≡ Some c = sym h ∙ (sym (ap (escape_in kind) same) ∙ g.2) in cc
no_escaped kind text rest letter e h n m c after (p, f, inr (inr g)) =
    let whole : 92 ∷ g.0 ∷ (g.1 ++ after) ≡ 92 ∷ letter ∷ rest = ap (λ z. z ++ after) (sym g.2) ∙ (sym f ∙ e) in
    let same : g.0 ≡ letter = cc in
    elim g.3 [ inl k ↦ n (sym same ∙ k.0) | inr k ↦ m (sym same ∙ k.0) ]

-- what is left of a text that is read as pieces up to a mark, after some of them
module _ (P : List ℕ → ℕ → Type 0) (mark : ℕ) (once : Once P) (begins : BeginsNot P mark) where
  body_rest : (m n : List ℕ) (a b rest x : List ℕ) → Spells P a m → Spells P b n → a ++ rest ≡ b ++ mark ∷ x
      → (k : List ℕ) × (body : List ℕ) × (rest ≡ body ++ mark ∷ x) × Spells P body k
  body_rest [] n a b rest x f g e = (n, b, ap (λ z. z ++ rest) (sym f) ∙ e, g)
  body_rest (c ∷ m) [] a b rest x f g e =
      let whole : f.0 ++ (f.1 ++ rest) ≡ mark ∷ x = sym (append_assoc f.0 f.1 rest) ∙ (ap (λ z. z ++ rest) (sym f.2) ∙ (e ∙ ap (λ z. z ++ mark ∷ x) g)) in
      absurd (begins f.0 (f.1 ++ rest) x c f.3 whole)
  body_rest (c ∷ m) (d ∷ n) a b rest x f g e =
      let whole : f.0 ++ (f.1 ++ rest) ≡ g.0 ++ (g.1 ++ mark ∷ x) =
      sym (append_assoc f.0 f.1 rest) ∙ (ap (λ z. z ++ rest) (sym f.2) ∙ (e ∙ (ap (λ z. z ++ mark ∷ x) g.2 ∙ append_assoc g.0 g.1 (mark ∷ x)))) in
      let one = once f.0 g.0 (f.1 ++ rest) (g.1 ++ mark ∷ x) c d f.3 g.3 whole in
      body_rest m n f.1 g.1 rest x f.4 g.4 one.2

-- nothing is read if the rest begins neither with the mark nor with a piece
no_body : (kind : Enclosed) (rest k x body : List ℕ) → ((c : ℕ) (after : List ℕ) → Begins kind rest c after → ⊥)
    → ((after : List ℕ) → rest ≡ mark_of kind ∷ after → ⊥)
    → rest ≡ body ++ mark_of kind ∷ x → Spells (PieceOf kind) body k → ⊥
no_body kind rest [] x b no_piece no_mark e s = no_mark x (e ∙ ap (λ z. z ++ mark_of kind ∷ x) s)
no_body kind rest (c ∷ k) x b no_piece no_mark e s =
    no_piece c (s.1 ++ mark_of kind ∷ x) (s.0, e ∙ (ap (λ z. z ++ mark_of kind ∷ x) s.2 ∙ append_assoc s.0 s.1 (mark_of kind ∷ x)), s.3)

-- one piece more
spells_more : (P : List ℕ → ℕ → Type 0) (m : List ℕ) (a p : List ℕ) (c : ℕ) → Spells P a m → P p c → Spells P (a ++ p) (m ++ c ∷ [])
spells_more P [] a p c f h = (p, [], ap (λ z. z ++ p) f ∙ sym (append-nil p), h, refl)
spells_more P (d ∷ m) a p c f h = (f.0, f.1 ++ p, ap (λ z. z ++ p) f.2 ∙ append_assoc f.0 f.1 p, f.3, spells_more P m f.1 p c f.4 h)

pub two_heads : (text after rest : List ℕ) (x y c d : ℕ) → text ≡ x ∷ after → after ≡ y ∷ rest → x ≡ c → y ≡ d → text ≡ c ∷ d ∷ rest
two_heads text after rest x y c d e f g h = cc

-- the loop's invariant after one more piece
pub body_more : (kind : Enclosed) (text front rest next : List ℕ) (m : List ℕ) (c : ℕ) (bytes more : List ℕ) → text ≡ front ++ rest
    → Spells (PieceOf kind) front m → bytes ≡ encode_utf8_all m
    → Begins kind rest c next → more ≡ bytes ++ encode_utf8 c
    → (so_far : List ℕ) × (before : List ℕ) × (text ≡ before ++ next) × Spells (PieceOf kind) before so_far × (more ≡ encode_utf8_all so_far)
body_more kind text front rest next m c bytes more e s b p q = (
  m ++ c ∷ [],
  front ++ p.0,
  e ∙ (ap (λ z. front ++ z) p.1 ∙ sym (append_assoc front p.0 next)),
  spells_more (PieceOf kind) m front p.0 c s p.2,
  q ∙ (ap (λ z. z ++ encode_utf8 c) b ∙ rw (encodes-append, append-nil) refl),
)

-- the body is read
pub body_found : (kind : Enclosed) (text front rest after m bytes : List ℕ) (c : ℕ) → text ≡ front ++ rest → rest ≡ c ∷ after → c ≡ mark_of kind
    → Spells (PieceOf kind) front m → bytes ≡ encode_utf8_all m
    → ReadsBytes kind text bytes after
body_found kind text front rest after m bytes c e f g s b =
    (m, (front, e ∙ ap (λ z. front ++ z) (f ∙ ap (λ z. z ∷ after) g), s), b)

-- nothing is read
body_none : (kind : Enclosed) (text front rest m : List ℕ) → text ≡ front ++ rest → Spells (PieceOf kind) front m
    → ((c : ℕ) (after : List ℕ) → Begins kind rest c after → ⊥)
    → ((after : List ℕ) → rest ≡ mark_of kind ∷ after → ⊥) → (bytes after : List ℕ) → ReadsBytes kind text bytes after → ⊥
body_none kind text front rest m e s no_piece no_mark bytes after (value, r, same) =
    let left = body_rest (PieceOf kind) (mark_of kind) (piece_once kind) (begins_not kind) m value front r.0 rest after s r.2 (sym e ∙ r.1) in
    no_body kind rest left.0 after left.1 no_piece no_mark left.2 left.3

pub no_empty_piece : (kind : Enclosed) (text : List ℕ) → length text ≡ 0 → (c : ℕ) (after : List ℕ) → Begins kind text c after → ⊥
no_empty_piece kind text z c after (p, e, inl f) = let n = ap length (e ∙ ap (λ x. x ++ after) f.0) in absurd (omega arith)
no_empty_piece kind text z c after (p, e, inr (inl f)) = let n = ap length (e ∙ ap (λ x. x ++ after) f.1) in absurd (omega arith)
no_empty_piece kind text z c after (p, e, inr (inr f)) = let n = ap length (e ∙ ap (λ x. x ++ after) f.2) in absurd (omega arith)

pub body_end : (kind : Enclosed) (text front rest m : List ℕ) → text ≡ front ++ rest → Spells (PieceOf kind) front m → length rest ≡ 0
    → (bytes after : List ℕ) → ReadsBytes kind text bytes after → ⊥
body_end kind text front rest m e s z =
    body_none kind text front rest m e s (no_empty_piece kind rest z) (λ after f. let n = ap length f in absurd (omega arith))

pub body_stuck : (kind : Enclosed) (text front rest m : List ℕ) (x : ℕ) (others : List ℕ) → text ≡ front ++ rest → Spells (PieceOf kind) front m
    → rest ≡ x ∷ others → (x ≡ mark_of kind → ⊥)
    → ((c : ℕ) (after : List ℕ) → Begins kind rest c after → ⊥) → (bytes after : List ℕ) → ReadsBytes kind text bytes after → ⊥
body_stuck kind text front rest m x others e s f g none = body_none kind text front rest m e s none (λ after h. let same : x ≡ mark_of kind = cc in g same)
