-- No terminal has a CR or LF.
use Rattle.std.proofs.Common.{◌≡◌, ◌<◌, ℕ, List, [], ◌∷◌, ◌++◌, refl, sym, ◌∙◌, subst, arith, true, false, Bool, not, inl, inr, Some}
use Rattle.std.proofs.lemmas.Bool.{and_parts}
use Rattle.std.proofs.lemmas.Bool.Decides.{Decides-eqb}
use Rattle.std.proofs.lemmas.List.Folds.{list_all-append}
use Rattle.std.specs.Prelude.{◌==◌}
use Rattle.std.specs.List.{list_all}
use Rattle.std.specs.Char.{digit_value}
use Rattle.std.specs.Str.Parse.{AllDigits}
use Rattle.csvw_ntriples.specs.Character.{is_break, is_blank, is_raw_in_string, is_raw_in_iri, escape_of}
use Rattle.csvw_ntriples.specs.Terminal.{InBytes, IsString, IsIriref, IsLangtag, IsBlankNode, IsEscape, IsNumbered, StringPiece, IriPiece, Spells}
use Rattle.csvw_ntriples.specs.Document.{IsInLine}
use Rattle.csvw_ntriples.proofs.Spelled.{and_both, in_label, all_in_label, in_tag, tag_chars}

-- what holds of no break
no_break : (A : ℕ → Type 0) (c : ℕ) → A c → (A 13 → ⊥) → (A 10 → ⊥) → not (is_break c) ≡ true
no_break A c h k l = at_return (c == 13) refl
  where
    at_line : (b : Bool) → (c == 13) ≡ false → (c == 10) ≡ b → not (is_break c) ≡ true
    at_line true e f = absurd (l (subst A ((Decides-eqb c 10).0 f) h))
    at_line false e f = rw (e, f) refl

    at_return : (b : Bool) → (c == 13) ≡ b → not (is_break c) ≡ true
    at_return true e = absurd (k (subst A ((Decides-eqb c 13).0 e) h))
    at_return false e = at_line (c == 10) e refl

no_break_test : (p : ℕ → Bool) (c : ℕ) → p c ≡ true → p 13 ≡ false → p 10 ≡ false → not (is_break c) ≡ true
no_break_test p c h k l = no_break (λ x. p x ≡ true) c h (λ e. clash (p 13) e k) (λ e. clash (p 10) e l)
  where
    clash : (b : Bool) → b ≡ true → b ≡ false → ⊥
    clash b e f = cc

pub in_line-append : (xs ys : List ℕ) → IsInLine xs → IsInLine ys → IsInLine (xs ++ ys)
in_line-append xs ys h k = list_all-append (λ c. not (is_break c)) xs ys ∙ and_both _ _ h k

pub in_line-parts : (xs ys : List ℕ) → IsInLine (xs ++ ys) → IsInLine xs × IsInLine ys
in_line-parts xs ys h = and_parts _ _ (sym (list_all-append (λ c. not (is_break c)) xs ys) ∙ h)

all_in_line : (p : ℕ → Bool) (cs : List ℕ) → list_all p cs ≡ true → p 13 ≡ false → p 10 ≡ false → IsInLine cs
all_in_line p [] h k l = refl
all_in_line p (c ∷ cs) h k l = let b = and_parts (p c) (list_all p cs) h in and_both _ _ (no_break_test p c b.0 k l) (all_in_line p cs b.1 k l)

pub blank_in_line : (gap : List ℕ) → list_all is_blank gap ≡ true → IsInLine gap
blank_in_line gap h = all_in_line is_blank gap h refl refl

-- pieces
digits_in_line : (ds : List ℕ) → AllDigits 16 ds → IsInLine ds
digits_in_line [] h = refl
digits_in_line (d ∷ ds) h =
    let return : digit_value 13 < 16 → ⊥ = λ e. omega arith in let line : digit_value 10 < 16 → ⊥ = λ e. omega arith in
    and_both _ _ (no_break (λ x. digit_value x < 16) d h.0 return line) (digits_in_line ds h.1)

numbered_in_line : (p : List ℕ) (c : ℕ) → IsNumbered p c → IsInLine p
numbered_in_line p c (m, ds, whole, inl kind, all, value, scalar) = rw (whole, kind.0) (digits_in_line ds all)
numbered_in_line p c (m, ds, whole, inr kind, all, value, scalar) = rw (whole, kind.0) (digits_in_line ds all)

escape_in_line : (p : List ℕ) (c : ℕ) → IsEscape p c → IsInLine p
escape_in_line p c (letter, whole, e) = rw whole (and_both _ true (no_break (λ x. escape_of x ≡ Some c) letter e (λ k. cc) (λ k. cc)) refl)

string_piece_in_line : (p : List ℕ) (c : ℕ) → StringPiece p c → IsInLine p
string_piece_in_line p c (inl f) = rw f.0 (and_both _ true (no_break_test is_raw_in_string c f.1 refl refl) refl)
string_piece_in_line p c (inr (inl f)) = escape_in_line p c f
string_piece_in_line p c (inr (inr f)) = numbered_in_line p c f

iri_piece_in_line : (p : List ℕ) (c : ℕ) → IriPiece p c → IsInLine p
iri_piece_in_line p c (inl f) = rw f.0 (and_both _ true (no_break_test is_raw_in_iri c f.1 refl refl) refl)
iri_piece_in_line p c (inr f) = numbered_in_line p c f

spelled_in_line : (P : List ℕ → ℕ → Type 0) → ((p : List ℕ) (c : ℕ) → P p c → IsInLine p) → (cs text : List ℕ) → Spells P text cs → IsInLine text
spelled_in_line P clean [] text h = rw h refl
spelled_in_line P clean (c ∷ cs) text (piece, rest, whole, one, more) =
    rw whole (in_line-append piece rest (clean piece c one) (spelled_in_line P clean cs rest more))

-- terminals
abbrev pub Unbroken : {V : Type 0} → (List ℕ → V → Type 0) → Type 0
Unbroken {V} P = (p : List ℕ) (v : V) → P p v → IsInLine p

string_unbroken : Unbroken IsString
string_unbroken p v f = rw f.1 (in_line-append f.0 (34 ∷ []) (spelled_in_line StringPiece string_piece_in_line v f.0 f.2) refl)

iri_unbroken : Unbroken IsIriref
iri_unbroken p v f = rw f.1 (in_line-append f.0 (62 ∷ []) (spelled_in_line IriPiece iri_piece_in_line v f.0 f.2) refl)

label_breaks : (in_label 13 ≡ false) × (in_label 10 ≡ false)
unfolding in_label
label_breaks = (refl, refl)

blank_unbroken : Unbroken IsBlankNode
blank_unbroken p v f = rw f.0 (all_in_line in_label v (all_in_label v f.1) label_breaks.0 label_breaks.1)

tag_breaks : (in_tag 13 ≡ false) × (in_tag 10 ≡ false)
unfolding in_tag
tag_breaks = (refl, refl)

tag_unbroken : Unbroken IsLangtag
tag_unbroken p v f = rw f.0 (all_in_line in_tag v (tag_chars v f.1) tag_breaks.0 tag_breaks.1)

bytes_unbroken : (P : List ℕ → List ℕ → Type 0) → Unbroken P → Unbroken (InBytes P)
bytes_unbroken P h p v f = h p f.0 f.1

pub string_bytes_unbroken : Unbroken (InBytes IsString)
string_bytes_unbroken = bytes_unbroken IsString string_unbroken

pub iri_bytes_unbroken : Unbroken (InBytes IsIriref)
iri_bytes_unbroken = bytes_unbroken IsIriref iri_unbroken

pub blank_bytes_unbroken : Unbroken (InBytes IsBlankNode)
blank_bytes_unbroken = bytes_unbroken IsBlankNode blank_unbroken

pub tag_bytes_unbroken : Unbroken (InBytes IsLangtag)
tag_bytes_unbroken = bytes_unbroken IsLangtag tag_unbroken
