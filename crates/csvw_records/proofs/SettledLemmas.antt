-- The text without a CR at its end that may begin a terminator, by its last character.
use Rattle.std.proofs.Common.{◌≡◌, ℕ, ◌+◌, ◌-◌, ◌<◌, ◌≤◌, Bool, true, false, ◌&&◌, ◌==◌, if◌then◌else◌, List, [], ◌∷◌, ◌++◌, length, take, get_or, refl, sym}
use Rattle.std.proofs.Common.{ap, ◌∙◌, arith}
use Rattle.std.proofs.lemmas.Bool.Decides.{nat_tests}
use Rattle.std.proofs.lemmas.Grind.{common_steps}
use Rattle.std.proofs.lemmas.List.{take_more}
use Rattle.csvw_records.specs.declared.dialect.Dialect.{Dialect}
use Rattle.csvw_records.specs.NextRow.{settled}

-- the settled text, by its last character
settled_snoc : (d : Dialect) (p : List ℕ) (c : ℕ) → settled d (p ++ c ∷ []) ≡ (if d.line_terminators.crlf && (c == 13) then p else p ++ c ∷ [])
settled_snoc d [] c = refl
settled_snoc d (x ∷ []) c = by_test (d.line_terminators.crlf && (c == 13))
  where
    by_test : (b : Bool) → x ∷ (if b then [] else c ∷ []) ≡ (if b then x ∷ [] else x ∷ c ∷ [])
    by_test true = refl
    by_test false = refl
settled_snoc d (x ∷ y ∷ ys) c = ap (λ l. x ∷ l) (settled_snoc d (y ∷ ys) c) ∙ by_test (d.line_terminators.crlf && (c == 13))
  where
    by_test : (b : Bool) → x ∷ (if b then y ∷ ys else y ∷ ys ++ c ∷ []) ≡ (if b then x ∷ y ∷ ys else x ∷ y ∷ ys ++ c ∷ [])
    by_test true = refl
    by_test false = refl

take_all : (n : ℕ) (l : List ℕ) → length l ≤ n → take n l ≡ l
take_all n l h = grind (arith, common_steps)

last_of : (text : List ℕ) → 0 < length text → text ≡ take (length text - 1) text ++ get_or text (length text - 1) 0 ∷ []
last_of text h =
    let e : length text - 1 + 1 ≡ length text = omega arith in
    sym (take_all (length text) text (omega arith)) ∙ ap (λ n. take n text) (sym e) ∙ take_more text (length text - 1) 0 (omega (arith, h))

pub settled_last : (d : Dialect) (text : List ℕ) → d.line_terminators.crlf ≡ true → 0 < length text → get_or text (length text - 1) 0 ≡ 13
    → take (length text - 1) text ≡ settled d text
settled_last d text e h c =
    let p = take (length text - 1) text in
    let x = get_or text (length text - 1) 0 in
    let test : (d.line_terminators.crlf && (x == 13)) ≡ true = ap (λ b. b && (x == 13)) e ∙ ap (λ n. n == 13) c in
    sym (ap (settled d) (last_of text h) ∙ settled_snoc d p x ∙ ap (λ (b : Bool). if b then p else p ++ x ∷ []) test)

test_false : (crlf : Bool) (x : ℕ) → (crlf ≡ true → x ≡ 13 → ⊥) → (crlf && (x == 13)) ≡ false
test_false false x n = refl
test_false true x n = not_thirteen (x == 13) refl
  where
    not_thirteen : (b : Bool) → (x == 13) ≡ b → b ≡ false
    not_thirteen false e = refl
    not_thirteen true e = absurd (n refl (grind (arith, nat_tests)))

pub settled_same : (d : Dialect) (text : List ℕ) → (d.line_terminators.crlf ≡ true → 0 < length text → get_or text (length text - 1) 0 ≡ 13 → ⊥)
    → text ≡ settled d text
settled_same d [] n = refl
settled_same d (c ∷ cs) n =
    let text = c ∷ cs in
    let p = take (length text - 1) text in
    let x = get_or text (length text - 1) 0 in
    let some : 0 < length text = omega arith in
    let test = test_false d.line_terminators.crlf x (λ e f. n e some f) in
    last_of text some ∙ sym (ap (settled d) (last_of text some) ∙ settled_snoc d p x ∙ ap (λ (b : Bool). if b then p else p ++ x ∷ []) test)
