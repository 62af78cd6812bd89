-- Runs of characters.
use Rattle.std.proofs.Common.{◌≡◌, ◌<◌, ◌≤◌, ◌+◌, ℕ, zero, suc, List, [], ◌∷◌, ◌++◌, refl, sym, ap, ◌∙◌, subst, arith, true, false, Bool, length}
use Rattle.std.proofs.Common.{take, drop, get_or, add-one, take_all, Option, Some, None}
use Rattle.std.proofs.lemmas.Bool.{and_parts}
use Rattle.std.specs.List.{list_all}
use Rattle.csvw_ntriples.specs.Character.{is_blank}
use Rattle.csvw_ntriples.specs.Reading.{Stops, IsRun, dark}
use Rattle.csvw_ntriples.proofs.Spelled.{and_both}

-- a run that ends at a character
pub run_at : (p : ℕ → Bool) (text : List ℕ) (i c : ℕ) → i < length text → list_all p (take i text) ≡ true → c ≡ get_or text i c → p c ≡ false
    → IsRun p text (take i text) (drop i text)
run_at p [] i c l h e b = absurd (omega arith)
run_at p (x ∷ xs) zero c l h e b = (refl, refl, subst (λ z. p z ≡ false) e b)
run_at p (x ∷ xs) (suc i) c l h e b =
    let both = and_parts (p x) (list_all p (take i xs)) h in
    let rest = run_at p xs i c (omega arith) both.1 e b in
    (ap (λ z. x ∷ z) rest.0, and_both _ _ both.0 rest.1, rest.2)

-- one character more
pub run_on : (p : ℕ → Bool) (text : List ℕ) (i c : ℕ) → i < length text → list_all p (take i text) ≡ true → c ≡ get_or text i c → p c ≡ true
    → list_all p (take (i + 1) text) ≡ true
run_on p text i c l h e b = rw add-one (go text i l h e)
  where
    go : (ys : List ℕ) (k : ℕ) → k < length ys → list_all p (take k ys) ≡ true → c ≡ get_or ys k c → list_all p (take (suc k) ys) ≡ true
    go [] k l h e = absurd (omega arith)
    go (y ∷ ys) zero l h e = and_both _ true (subst (λ z. p z ≡ true) e b) refl
    go (y ∷ ys) (suc k) l h e = let both = and_parts (p y) (list_all p (take k ys)) h in and_both _ _ both.0 (go ys k (omega arith) both.1 e)

-- a run of the whole text
pub run_all : (p : ℕ → Bool) (text : List ℕ) (i : ℕ) → length text ≤ i → list_all p (take i text) ≡ true
    → IsRun p text (take (length text) text) (drop (length text) text)
run_all p text i l h =
    let whole : list_all p text ≡ true = subst (λ (z : List ℕ). list_all p z ≡ true) (take_all i text l) h in
    go text whole
  where
    go : (ys : List ℕ) → list_all p ys ≡ true → IsRun p ys (take (length ys) ys) (drop (length ys) ys)
    go [] k = (refl, refl, tt)
    go (y ∷ ys) k =
        let both = and_parts (p y) (list_all p ys) k in let rest = go ys both.1 in
        (ap (λ z. y ∷ z) rest.0, and_both _ _ both.0 rest.1, rest.2)

-- the first character past the spaces and tabs
abbrev pub first_of : List ℕ → Option ℕ
first_of [] = None
first_of (c ∷ cs) = Some c

pub dark_run : (text gap rest : List ℕ) → IsRun is_blank text gap rest → dark text ≡ first_of rest
dark_run text [] rest r = ap dark r.0 ∙ at rest r.2
  where
    at : (xs : List ℕ) → Stops is_blank xs → dark xs ≡ first_of xs
    at [] s = refl
    at (x ∷ xs) s = rw s refl
dark_run text (c ∷ gap) rest r =
    let both = and_parts (is_blank c) (list_all is_blank gap) r.1 in
    ap dark r.0 ∙ rw both.0 (dark_run (gap ++ rest) gap rest (refl, both.1, r.2))

pub dark_is : (text gap rest others : List ℕ) (c d : ℕ) → IsRun is_blank text gap rest → rest ≡ c ∷ others → c ≡ d → dark text ≡ Some d
dark_is text gap rest others c d r e f = dark_run text gap rest r ∙ (ap first_of e ∙ ap Some f)

pub dark_not : (text gap rest others : List ℕ) (c d : ℕ) → IsRun is_blank text gap rest → rest ≡ c ∷ others → (c ≡ d → ⊥) → dark text ≡ Some d → ⊥
dark_not text gap rest others c d r e f g = let k : Some c ≡ Some d = sym (dark_run text gap rest r ∙ ap first_of e) ∙ g in let same : c ≡ d = cc in f same

pub dark_none : (text gap rest : List ℕ) (d : ℕ) → IsRun is_blank text gap rest → length rest ≡ 0 → dark text ≡ Some d → ⊥
dark_none text gap [] d r e g = let k : None ≡ Some d = sym (dark_run text gap [] r) ∙ g in cc
dark_none text gap (x ∷ xs) d r e g = absurd (omega arith)

-- a text is a run in one way
pub run_once : (p : ℕ → Bool) (f g a b : List ℕ) → list_all p f ≡ true → list_all p g ≡ true → Stops p a → Stops p b → f ++ a ≡ g ++ b → (f ≡ g) × (a ≡ b)
run_once p [] [] a b h k s t e = (refl, e)
run_once p [] (y ∷ g) [] b h k s t e = cc
run_once p [] (y ∷ g) (x ∷ a) b h k s t e =
    let both = and_parts (p y) (list_all p g) k in let same : x ≡ y = cc in
    let wrong : p y ≡ false = subst (λ z. p z ≡ false) same s in let yes = both.0 in cc
run_once p (x ∷ f) [] a [] h k s t e = cc
run_once p (x ∷ f) [] a (y ∷ b) h k s t e =
    let both = and_parts (p x) (list_all p f) h in let same : y ≡ x = cc in
    let wrong : p x ≡ false = subst (λ z. p z ≡ false) same t in let yes = both.0 in cc
run_once p (x ∷ f) (y ∷ g) a b h k s t e =
    let tails : f ++ a ≡ g ++ b = cc in
    let rest = run_once p f g a b (and_parts (p x) (list_all p f) h).1 (and_parts (p y) (list_all p g) k).1 s t tails in
    let r = rest.0 in let front : (x ∷ f) ≡ (y ∷ g) = cc in (front, rest.1)
