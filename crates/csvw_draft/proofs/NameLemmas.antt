-- A name that gains a letter, a digit or `_`.
use Rattle.std.proofs.Common.{◌≡◌, ◌==◌, ℕ, List, [], ◌∷◌, ◌++◌, true, false, refl}
use Rattle.std.proofs.Common.{◌<◌, arith, Result, Ok, Err, OnOk}
use Rattle.std.specs.Char.{is_ascii_alphanumeric, IsAsciiAlphanumeric}
use Rattle.std.specs.List.{All}
use Rattle.std.proofs.lemmas.List.Elements.{All-push, All-nil}
use Rattle.csvw_draft.specs.Names.{is_made_of, begins_well, IsMade}

pub begins-push : (name : List ℕ) (b : ℕ) → begins_well name ≡ true → (name ≡ [] → (b == 95) ≡ false) → begins_well (name ++ b ∷ []) ≡ true
begins-push [] b p q = rw (q refl) refl
begins-push (x ∷ xs) b p q = p

pub IsMade-push : (name : List ℕ) (b : ℕ) → is_made_of b ≡ true → (name ≡ [] → (b == 95) ≡ false) → IsMade name → IsMade (name ++ b ∷ [])
IsMade-push name b p q made = (All-push (λ x. is_made_of x ≡ true) name b made.0 p, begins-push name b made.1 q)

pub IsMade-nil : IsMade []
IsMade-nil = (All-nil (λ x. is_made_of x ≡ true), refl)

pub is_small : (c : ℕ) → IsAsciiAlphanumeric c → c < 128
is_small c p = grind arith

pub is_no_gap : (c : ℕ) → IsAsciiAlphanumeric c → (c == 95) ≡ false
is_no_gap c p = grind arith

pub is_letter : (c : ℕ) → is_ascii_alphanumeric c ≡ true → is_made_of c ≡ true
is_letter c p = rw p refl

-- a letter or a digit was added, if the name could grow
pub IsMade-letter : {X E : Type 0} (r : Result X E) (old new : List ℕ) (c : ℕ) → is_ascii_alphanumeric c ≡ true → IsAsciiAlphanumeric c
    → (OnOk r (new ≡ old ++ c ∷ [])) → OnOk r (IsMade old → IsMade new)
IsMade-letter (Ok x) old new c p q grows = λ made. rw grows (IsMade-push old c (is_letter c p) (λ _. is_no_gap c q) made)
IsMade-letter (Err e) old new c p q grows = tt
