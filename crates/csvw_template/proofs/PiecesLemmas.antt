-- A text cut at each `{`, and a piece cut at its first `}`.
use Rattle.std.proofs.Common.{◌≡◌, ℕ, ◌+◌, ◌<◌, ◌≤◌, List, [], ◌∷◌, ◌++◌, Bool, true, false, not, Ok, length, drop, get_or, refl, ap, sym, subst, ◌∙◌}
use Rattle.std.proofs.Common.{append_assoc, arith, ◌||◌, flat_map, All, length-append, ⊎_elim}
use Rattle.std.specs.List.{slice_split, onto_first, list_any, position_or_len, before_first, after_first}
use Rattle.std.proofs.lemmas.Bool.{cond_both, cond-true, cases_lt, false≢true, false_from_ne_true}
use Rattle.std.proofs.lemmas.List.{take_at, drop_at, get_or-take, length-take}
use Rattle.std.proofs.lemmas.List.Elements.{All-head, All-tail, All-nil, All-cons, All-take, All-drop}
use Rattle.std.proofs.lemmas.List.Folds.{list_any_none, list_any-append, list_any_at}
use Rattle.std.proofs.lemmas.List.Sums.{fails_before_first, passes_at_first, split_at_first}
use Rattle.std.proofs.lemmas.List.Splits.{slice_split-cons_no}
use Rattle.csvw_template.specs.Fault.{◌>>=◌}
use Rattle.csvw_template.specs.Grammar.{is_open, is_close, HasNoBrace}
use Rattle.csvw_template.specs.Reading.{expression, outside, opened}
use Rattle.csvw_template.proofs.NamesLemmas.{is_same}

abbrev pub HasNoOpen : List ℕ → Type 0
HasNoOpen text = All (λ b. is_open b ≡ false) text

abbrev pub HasNoClose : List ℕ → Type 0
HasNoClose text = All (λ b. is_close b ≡ false) text

pub or_left : (x y : Bool) → (x || y) ≡ false → x ≡ false
or_left true y e = e
or_left false y e = refl

pub or_right : (x y : Bool) → (x || y) ≡ false → y ≡ false
or_right true y e = absurd (false≢true (sym e))
or_right false y e = e

or_false : (x y : Bool) → x ≡ false → y ≡ false → (x || y) ≡ false
or_false x y e f = rw (e, f) refl

pub no_open : (text : List ℕ) → HasNoBrace text → HasNoOpen text
no_open text h = λ k d l. or_left _ _ (h k d l)

pub no_close : (text : List ℕ) → HasNoBrace text → HasNoClose text
no_close text h = λ k d l. or_right _ _ (h k d l)

pub no_brace : (text : List ℕ) → HasNoOpen text → HasNoClose text → HasNoBrace text
no_brace text a b = λ k d l. or_false _ _ (a k d l) (b k d l)

-- a piece after its `{`
abbrev pub after_open : List ℕ → List ℕ
after_open piece = 123 ∷ piece

-- the text is the pieces with a `{` between them
abbrev pub IsCut : List ℕ → List (List ℕ) → Type 0
IsCut text [] = ⊥
IsCut text (p ∷ ps) = (text ≡ p ++ flat_map after_open ps) × HasNoOpen p × All HasNoOpen ps

at_open : (b : ℕ) (bs : List ℕ) (ps : List (List ℕ)) → is_open b ≡ true → IsCut bs ps → IsCut (b ∷ bs) ([] ∷ ps)
at_open b bs [] e c = absurd c
at_open b bs (p ∷ ps) e c =
    (ap (λ x. x ∷ bs) (is_same b 123 e) ∙ ap (λ x. 123 ∷ x) c.0, All-nil (λ b. is_open b ≡ false), All-cons HasNoOpen p ps c.1 c.2)

before_piece : (b : ℕ) (bs : List ℕ) (ps : List (List ℕ)) → is_open b ≡ false → IsCut bs ps → IsCut (b ∷ bs) (onto_first b ps)
before_piece b bs [] e c = absurd c
before_piece b bs (p ∷ ps) e c = (ap (λ x. b ∷ x) c.0, All-cons (λ b. is_open b ≡ false) b p e c.1, c.2)

pub cut : (text : List ℕ) → IsCut text (slice_split is_open text)
cut [] = (refl, All-nil (λ b. is_open b ≡ false), All-nil HasNoOpen)
cut (b ∷ bs) =
    cond_both (is_open b) ([] ∷ slice_split is_open bs) (onto_first b (slice_split is_open bs)) (IsCut (b ∷ bs))
    (λ e. at_open b bs _ e (cut bs)) (λ e. before_piece b bs _ e (cut bs))

-- more before the first piece
abbrev pub onto : List ℕ → List (List ℕ) → List (List ℕ)
onto front [] = front ∷ []
onto front (p ∷ ps) = (front ++ p) ∷ ps

onto-nil : (text : List ℕ) (ps : List (List ℕ)) → IsCut text ps → ps ≡ onto [] ps
onto-nil text [] c = absurd c
onto-nil text (p ∷ ps) c = refl

onto-cons : (x : ℕ) (xs : List ℕ) (ps : List (List ℕ)) → onto_first x (onto xs ps) ≡ onto (x ∷ xs) ps
onto-cons x xs [] = refl
onto-cons x xs (p ∷ ps) = refl

pub split_onto : (front rest : List ℕ) → HasNoOpen front → slice_split is_open (front ++ rest) ≡ onto front (slice_split is_open rest)
split_onto [] rest h = onto-nil rest _ (cut rest)
split_onto (x ∷ xs) rest h =
    slice_split-cons_no is_open x (xs ++ rest) (All-head (λ b. is_open b ≡ false) x xs h)
    ∙ ap (onto_first x) (split_onto xs rest (All-tail (λ b. is_open b ≡ false) x xs h)) ∙ onto-cons x xs (slice_split is_open rest)

-- the first `}` stands behind a text without one
at_close : (inner rest : List ℕ) → HasNoClose inner → position_or_len is_close (inner ++ 125 ∷ rest) ≡ length inner
at_close [] rest h = refl
at_close (b ∷ bs) rest h =
    let same = at_close bs rest (All-tail (λ b. is_close b ≡ false) b bs h) in
    cond-true _ _ _ (ap not (All-head (λ b. is_close b ≡ false) b bs h)) ∙ omega (arith, same)

before_close : (inner rest : List ℕ) → HasNoClose inner → before_first is_close (inner ++ 125 ∷ rest) ≡ inner
before_close inner rest h = take_at inner (125 ∷ rest) _ (sym (at_close inner rest h))

after_close : (inner rest : List ℕ) → HasNoClose inner → after_first is_close (inner ++ 125 ∷ rest) ≡ rest
after_close inner rest h =
    let n : length (inner ++ 125 ∷ []) ≡ position_or_len is_close (inner ++ 125 ∷ rest) + 1 =
    omega (arith, length-append inner (125 ∷ []), at_close inner rest h) in
    ap (drop (position_or_len is_close (inner ++ 125 ∷ rest) + 1)) (sym (append_assoc inner (125 ∷ []) rest)) ∙ drop_at (inner ++ 125 ∷ []) rest _ n

pub closes : (inner rest : List ℕ) → HasNoClose inner → list_any is_close (inner ++ 125 ∷ rest) ≡ true
closes inner rest h = list_any-append is_close inner (125 ∷ rest) ∙ ap (λ x. x || true) (list_any_none is_close inner h)

pub opened_of : (inner rest : List ℕ) → HasNoClose inner
    → opened (inner ++ 125 ∷ rest) ≡ (expression inner >>= λ e. outside rest >>= λ es. Ok (e ∷ es))
opened_of inner rest h =
    cond-true _ _ _ (closes inner rest h)
    ∙ ap (λ x. expression x >>= λ e. outside (after_first is_close (inner ++ 125 ∷ rest)) >>= λ es. Ok (e ∷ es)) (before_close inner rest h)
    ∙ ap (λ x. expression inner >>= λ e. outside x >>= λ es. Ok (e ∷ es)) (after_close inner rest h)

-- a text with a `}` is what stands before its first, that `}`, and the rest
pub record IsClosed (text : List ℕ) : Type 0 where
  pub inner : List ℕ
  pub rest : List ℕ
  pub lacks : HasNoClose inner
  pub split : text ≡ inner ++ 125 ∷ rest

fails_all : (text : List ℕ) → length text ≤ position_or_len is_close text → list_any is_close text ≡ false
fails_all text le = list_any_none is_close text (λ k d l. fails_before_first is_close text k d (omega (arith, le, l)))

has_place : (text : List ℕ) → list_any is_close text ≡ true → position_or_len is_close text < length text
has_place text e =
    ⊎_elim (λ (l : position_or_len is_close text < length text). l)
    (λ (le : length text ≤ position_or_len is_close text). absurd (false≢true (sym (fails_all text le) ∙ e)))
    (cases_lt (position_or_len is_close text) (length text))

lacks_before : (text : List ℕ) → HasNoClose (before_first is_close text)
lacks_before text = λ k d l.
    let n = position_or_len is_close text in
    let within : k < n = omega (arith, l, length-take n text) in
    ap is_close (get_or-take n text k d within) ∙ fails_before_first is_close text k d within

pub closed : (text : List ℕ) → list_any is_close text ≡ true → IsClosed text
closed text e =
    let lt = has_place text e in
    let is : get_or text (position_or_len is_close text) 0 ≡ 125 = is_same _ 125 (passes_at_first is_close text 0 lt) in
    record {
      inner = before_first is_close text;
      rest = after_first is_close text;
      lacks = lacks_before text;
      split = split_at_first is_close text 0 lt ∙ ap (λ b. before_first is_close text ++ b ∷ after_first is_close text) is;
    }

pub no_open_left : (a b : List ℕ) → HasNoOpen (a ++ b) → HasNoOpen a
no_open_left a b h = subst HasNoOpen (take_at a b (length a) refl) (All-take (λ b. is_open b ≡ false) (length a) (a ++ b) h)

pub no_open_right : (a b : List ℕ) → HasNoOpen (a ++ b) → HasNoOpen b
no_open_right a b h = subst HasNoOpen (drop_at a b (length a) refl) (All-drop (λ b. is_open b ≡ false) (length a) (a ++ b) h)

pub lacks_close : (text : List ℕ) → list_any is_close text ≡ false → HasNoClose text
lacks_close text e = λ k d l. false_from_ne_true _ (λ h. false≢true (sym e ∙ list_any_at is_close text k d l h))
