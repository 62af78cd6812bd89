-- A text is read as pieces in one way.
use Rattle.std.proofs.Common.{◌≡◌, ℕ, List, [], ◌∷◌, ◌++◌, refl, sym, ap, ◌∙◌, subst, arith, true, length, append_assoc, inl, inr, ◌⊎◌, Some, None}
use Rattle.std.specs.Str.Parse.{digits_value}
use Rattle.csvw_ntriples.specs.Character.{is_raw_in_iri, is_raw_in_string, escape_of}
use Rattle.csvw_ntriples.specs.Terminal.{IsEscape, IsNumbered, StringPiece, IriPiece, Spells}

-- two fronts of one length
pub same_fronts : (xs ys r s : List ℕ) → xs ++ r ≡ ys ++ s → length xs ≡ length ys → (xs ≡ ys) × (r ≡ s)
same_fronts [] [] r s e h = (refl, e)
same_fronts [] (y ∷ ys) r s e h = absurd (omega arith)
same_fronts (x ∷ xs) [] r s e h = absurd (omega arith)
same_fronts (x ∷ xs) (y ∷ ys) r s e h =
    let tails : xs ++ r ≡ ys ++ s = cc in let len : length xs ≡ length ys = omega arith in
    let rest = same_fronts xs ys r s tails len in
    let front : (x ∷ xs) ≡ (y ∷ ys) = let t = rest.0 in cc in
    (front, rest.1)

-- what two pieces at the front of one text have in common
abbrev pub Once : (List ℕ → ℕ → Type 0) → Type 0
Once P = (p q r s : List ℕ) (c d : ℕ) → P p c → P q d → p ++ r ≡ q ++ s → (p ≡ q) × (c ≡ d) × (r ≡ s)

-- no piece begins with the mark
abbrev pub BeginsNot : (List ℕ → ℕ → Type 0) → ℕ → Type 0
BeginsNot P mark = (p r s : List ℕ) (c : ℕ) → P p c → p ++ r ≡ mark ∷ s → ⊥

same_lengths : (m n : ℕ) (ds es : List ℕ) → m ≡ n → ((m ≡ 117) × (length ds ≡ 4)) ⊎ ((m ≡ 85) × (length ds ≡ 8))
    → ((n ≡ 117) × (length es ≡ 4)) ⊎ ((n ≡ 85) × (length es ≡ 8)) → length ds ≡ length es
same_lengths m n ds es e (inl f) (inl g) = f.1 ∙ sym g.1
same_lengths m n ds es e (inl f) (inr g) = let a : m ≡ 117 = f.0 in let b : n ≡ 85 = g.0 in absurd (omega arith)
same_lengths m n ds es e (inr f) (inl g) = let a : m ≡ 85 = f.0 in let b : n ≡ 117 = g.0 in absurd (omega arith)
same_lengths m n ds es e (inr f) (inr g) = f.1 ∙ sym g.1

numbered_once : Once IsNumbered
numbered_once p q r s c d f g e =
    let m = f.0 in let ds = f.1 in let n = g.0 in let es = g.1 in
    let fp : p ≡ 92 ∷ m ∷ ds = f.2 in let gp : q ≡ 92 ∷ n ∷ es = g.2 in
    let whole : 92 ∷ m ∷ (ds ++ r) ≡ 92 ∷ n ∷ (es ++ s) = ap (λ x. x ++ r) (sym fp) ∙ (e ∙ ap (λ x. x ++ s) gp) in
    let mark : m ≡ n = cc in
    let tails : ds ++ r ≡ es ++ s = cc in
    let rest = same_fronts ds es r s tails (same_lengths m n ds es mark f.3 g.3) in
    let same : ds ≡ es = rest.0 in
    let k : p ≡ q = cc in
    let v : c ≡ d = sym f.5 ∙ (ap (λ x. digits_value 16 x) same ∙ g.5) in
    (k, v, rest.1)

pub no_backslash : (c : ℕ) → is_raw_in_string c ≡ true → c ≡ 92 → ⊥
no_backslash c h e = let k : is_raw_in_string 92 ≡ true = subst (λ x. is_raw_in_string x ≡ true) e h in cc

no_backslash_iri : (c : ℕ) → is_raw_in_iri c ≡ true → c ≡ 92 → ⊥
no_backslash_iri c h e = let k : is_raw_in_iri 92 ≡ true = subst (λ x. is_raw_in_iri x ≡ true) e h in cc

escape_once : Once IsEscape
escape_once p q r s c d f g e =
    let fp : p ≡ 92 ∷ f.0 ∷ [] = f.1 in let gp : q ≡ 92 ∷ g.0 ∷ [] = g.1 in
    let whole : 92 ∷ f.0 ∷ r ≡ 92 ∷ g.0 ∷ s = ap (λ x. x ++ r) (sym fp) ∙ (e ∙ ap (λ x. x ++ s) gp) in
    let letter : f.0 ≡ g.0 = cc in
    let value : Some c ≡ Some d = sym f.2 ∙ (ap escape_of letter ∙ g.2) in
    let k : p ≡ q = cc in
    let v : c ≡ d = cc in
    let t : r ≡ s = cc in
    (k, v, t)

pub escape_no_mark : (m c : ℕ) → escape_of m ≡ Some c → (m ≡ 117) ⊎ (m ≡ 85) → ⊥
escape_no_mark m c h (inl e) = let k : None ≡ Some c = sym (ap escape_of e) ∙ h in cc
escape_no_mark m c h (inr e) = let k : None ≡ Some c = sym (ap escape_of e) ∙ h in cc

mark_of : (m : ℕ) (ds : List ℕ) → ((m ≡ 117) × (length ds ≡ 4)) ⊎ ((m ≡ 85) × (length ds ≡ 8)) → (m ≡ 117) ⊎ (m ≡ 85)
mark_of m ds (inl f) = inl f.0
mark_of m ds (inr f) = inr f.0

escape_not_numbered : (p q r s : List ℕ) (c d : ℕ) → IsEscape p c → IsNumbered q d → p ++ r ≡ q ++ s → ⊥
escape_not_numbered p q r s c d f g e =
    let whole : 92 ∷ f.0 ∷ r ≡ 92 ∷ g.0 ∷ (g.1 ++ s) = ap (λ x. x ++ r) (sym f.1) ∙ (e ∙ ap (λ x. x ++ s) g.2) in
    let letter : f.0 ≡ g.0 = cc in
    escape_no_mark g.0 c (subst (λ x. escape_of x ≡ Some c) letter f.2) (mark_of g.0 g.1 g.3)

raw_not_backslash : (p q r s : List ℕ) (c m : ℕ) (ds : List ℕ) → p ≡ c ∷ [] → (c ≡ 92 → ⊥) → q ≡ 92 ∷ m ∷ ds → p ++ r ≡ q ++ s → ⊥
raw_not_backslash p q r s c m ds f h g e =
    let whole : c ∷ r ≡ 92 ∷ m ∷ (ds ++ s) = ap (λ x. x ++ r) (sym f) ∙ (e ∙ ap (λ x. x ++ s) g) in
    let same : c ≡ 92 = cc in
    h same

raw_once : (p q r s : List ℕ) (c d : ℕ) → p ≡ c ∷ [] → q ≡ d ∷ [] → p ++ r ≡ q ++ s → (p ≡ q) × (c ≡ d) × (r ≡ s)
raw_once p q r s c d f g e =
    let whole : c ∷ r ≡ d ∷ s = ap (λ x. x ++ r) (sym f) ∙ (e ∙ ap (λ x. x ++ s) g) in
    let v : c ≡ d = cc in let t : r ≡ s = cc in let k : p ≡ q = cc in
    (k, v, t)

pub string_piece_once : Once StringPiece
string_piece_once p q r s c d (inl f) (inl g) e = raw_once p q r s c d f.0 g.0 e
string_piece_once p q r s c d (inl f) (inr (inl g)) e = absurd (raw_not_backslash p q r s c g.0 [] f.0 (no_backslash c f.1) g.1 e)
string_piece_once p q r s c d (inl f) (inr (inr g)) e = absurd (raw_not_backslash p q r s c g.0 g.1 f.0 (no_backslash c f.1) g.2 e)
string_piece_once p q r s c d (inr (inl f)) (inl g) e = absurd (raw_not_backslash q p s r d f.0 [] g.0 (no_backslash d g.1) f.1 (sym e))
string_piece_once p q r s c d (inr (inr f)) (inl g) e = absurd (raw_not_backslash q p s r d f.0 f.1 g.0 (no_backslash d g.1) f.2 (sym e))
string_piece_once p q r s c d (inr (inl f)) (inr (inl g)) e = escape_once p q r s c d f g e
string_piece_once p q r s c d (inr (inl f)) (inr (inr g)) e = absurd (escape_not_numbered p q r s c d f g e)
string_piece_once p q r s c d (inr (inr f)) (inr (inl g)) e = absurd (escape_not_numbered q p s r d c g f (sym e))
string_piece_once p q r s c d (inr (inr f)) (inr (inr g)) e = numbered_once p q r s c d f g e

pub iri_piece_once : Once IriPiece
iri_piece_once p q r s c d (inl f) (inl g) e = raw_once p q r s c d f.0 g.0 e
iri_piece_once p q r s c d (inl f) (inr g) e = absurd (raw_not_backslash p q r s c g.0 g.1 f.0 (no_backslash_iri c f.1) g.2 e)
iri_piece_once p q r s c d (inr f) (inl g) e = absurd (raw_not_backslash q p s r d f.0 f.1 g.0 (no_backslash_iri d g.1) f.2 (sym e))
iri_piece_once p q r s c d (inr f) (inr g) e = numbered_once p q r s c d f g e

head_is : (p r s : List ℕ) (c x mark : ℕ) (xs : List ℕ) → p ≡ x ∷ xs → p ++ r ≡ mark ∷ s → x ≡ mark
head_is p r s c x mark xs f e = let whole : x ∷ (xs ++ r) ≡ mark ∷ s = ap (λ z. z ++ r) (sym f) ∙ e in cc

raw_no_quote : (c : ℕ) → is_raw_in_string c ≡ true → c ≡ 34 → ⊥
raw_no_quote c h e = let k : is_raw_in_string 34 ≡ true = subst (λ x. is_raw_in_string x ≡ true) e h in cc

iri_no_end : (c : ℕ) → is_raw_in_iri c ≡ true → c ≡ 62 → ⊥
iri_no_end c h e = let k : is_raw_in_iri 62 ≡ true = subst (λ x. is_raw_in_iri x ≡ true) e h in cc

pub string_begins : BeginsNot StringPiece 34
string_begins p r s c (inl f) e = raw_no_quote c f.1 (head_is p r s c c 34 [] f.0 e)
string_begins p r s c (inr (inl f)) e = let h = head_is p r s c 92 34 (f.0 ∷ []) f.1 e in absurd (omega arith)
string_begins p r s c (inr (inr f)) e = let h = head_is p r s c 92 34 (f.0 ∷ f.1) f.2 e in absurd (omega arith)

pub iri_begins : BeginsNot IriPiece 62
iri_begins p r s c (inl f) e = iri_no_end c f.1 (head_is p r s c c 62 [] f.0 e)
iri_begins p r s c (inr f) e = let h = head_is p r s c 92 62 (f.0 ∷ f.1) f.2 e in absurd (omega arith)

-- pieces up to a mark are read in one way
module _ (P : List ℕ → ℕ → Type 0) (mark : ℕ) (once : Once P) (begins : BeginsNot P mark) where
  pub body_once : (m n : List ℕ) (a b x y : List ℕ) → Spells P a m → Spells P b n → a ++ mark ∷ x ≡ b ++ mark ∷ y → (m ≡ n) × (a ≡ b) × (x ≡ y)
  body_once [] [] a b x y f g e =
      let whole : mark ∷ x ≡ mark ∷ y = ap (λ z. z ++ mark ∷ x) (sym f) ∙ (e ∙ ap (λ z. z ++ mark ∷ y) g) in
      let t : x ≡ y = cc in (refl, f ∙ sym g, t)
  body_once [] (d ∷ n) a b x y f g e =
      let piece = g.0 in let rest = g.1 in
      let whole : piece ++ (rest ++ mark ∷ y) ≡ mark ∷ x = sym (append_assoc piece rest (mark ∷ y))
      ∙ (ap (λ z. z ++ mark ∷ y) (sym g.2) ∙ (sym e ∙ ap (λ z. z ++ mark ∷ x) f)) in
      absurd (begins piece (rest ++ mark ∷ y) x d g.3 whole)
  body_once (c ∷ m) [] a b x y f g e =
      let piece = f.0 in let rest = f.1 in
      let whole : piece ++ (rest ++ mark ∷ x) ≡ mark ∷ y = sym (append_assoc piece rest (mark ∷ x))
      ∙ (ap (λ z. z ++ mark ∷ x) (sym f.2) ∙ (e ∙ ap (λ z. z ++ mark ∷ y) g)) in
      absurd (begins piece (rest ++ mark ∷ x) y c f.3 whole)
  body_once (c ∷ m) (d ∷ n) a b x y f g e =
      let whole : f.0 ++ (f.1 ++ mark ∷ x) ≡ g.0 ++ (g.1 ++ mark ∷ y) =
      sym (append_assoc f.0 f.1 (mark ∷ x)) ∙ (ap (λ z. z ++ mark ∷ x) (sym f.2) ∙ (e ∙ (ap (λ z. z ++ mark ∷ y) g.2 ∙ append_assoc g.0 g.1 (mark ∷ y)))) in
      let one = once f.0 g.0 (f.1 ++ mark ∷ x) (g.1 ++ mark ∷ y) c d f.3 g.3 whole in
      let others = body_once m n f.1 g.1 x y f.4 g.4 one.2 in
      let v : (c ∷ m) ≡ (d ∷ n) = let h = one.1 in let k = others.0 in cc in
      let w : a ≡ b = f.2 ∙ (ap (λ z. z ++ f.1) one.0 ∙ (ap (λ z. g.0 ++ z) others.1 ∙ sym g.2)) in
      (v, w, others.2)
