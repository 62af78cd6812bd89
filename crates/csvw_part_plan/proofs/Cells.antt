-- A number and the byte that ends it can be read in one way.
use Rattle.std.proofs.Common.{◌≡◌, ℕ, ◌+◌, ◌%◌, ◌<◌, ◌^◌, ◌==◌, List, [], ◌∷◌, ◌++◌, Bool, true, false, ◌||◌, refl, sym, arith}
use Rattle.std.specs.List.{list_any}
use Rattle.std.specs.Prelude.{decimal}
use Rattle.std.proofs.lemmas.Bool.{ne_eqb}
use Rattle.std.proofs.lemmas.Bool.Decides.{nat_tests}
use Rattle.std.proofs.lemmas.Fmt.{decimal_by_steps, decimal_injective}
use Rattle.std.proofs.lemmas.List.Folds.{list_any-append}
use Rattle.csvw_part_plan.specs.Plans.{cell}

-- a byte is not in the text
abbrev pub IsWithout : ℕ → List ℕ → Type 0
IsWithout e text = list_any (λ b. b == e) text ≡ false

head_of : (c : ℕ) (cs : List ℕ) (d : ℕ) (ds : List ℕ) → c ∷ cs ≡ d ∷ ds → c ≡ d
head_of c cs d ds is = cc

pub tail_of : (c : ℕ) (cs : List ℕ) (d : ℕ) (ds : List ℕ) → c ∷ cs ≡ d ∷ ds → cs ≡ ds
tail_of c cs d ds is = cc

not_first : (e d : ℕ) (ds : List ℕ) → IsWithout e (d ∷ ds) → e ≡ d → ⊥
not_first e d ds without is =
    let same : (d == e) ≡ true = grind (arith, nat_tests) in
    let now : (true || list_any (λ b. b == e) ds) ≡ false = rw same at without in cc

others : (e d : ℕ) (ds : List ℕ) → IsWithout e (d ∷ ds) → IsWithout e ds
others e d ds without = of (d == e) without
  where
    of : (b : Bool) → (b || list_any (λ x. x == e) ds) ≡ false → IsWithout e ds
    of true h = cc
    of false h = h

-- what stands before the first such byte and after it
pub first_unique : (e : ℕ) (a b x y : List ℕ) → IsWithout e a → IsWithout e b → a ++ e ∷ x ≡ b ++ e ∷ y → (a ≡ b) × (x ≡ y)
first_unique e [] [] x y p q is = (refl, tail_of e x e y is)
first_unique e [] (d ∷ b) x y p q is = absurd (not_first e d b q (head_of e x d (b ++ e ∷ y) is))
first_unique e (c ∷ a) [] x y p q is = absurd (not_first e c a p (sym (head_of c (a ++ e ∷ x) e y is)))
first_unique e (c ∷ a) (d ∷ b) x y p q is =
    let one = head_of c (a ++ e ∷ x) d (b ++ e ∷ y) is in
    let more = first_unique e a b x y (others e c a p) (others e d b q) (tail_of c (a ++ e ∷ x) d (b ++ e ∷ y) is) in
    let parts = more.0 in
    (cc, more.1)

digit_is_not : (e d : ℕ) → e < 48 → IsWithout e ((48 + d) ∷ [])
digit_is_not e d small =
    let differs : ((48 + d) == e) ≡ false = ne_eqb (48 + d) e (λ is. omega (arith, is)) in
    rw differs refl

digits_are_not : (e d : ℕ) (text : List ℕ) → e < 48 → IsWithout e text → IsWithout e (text ++ ((48 + d) ∷ []))
digits_are_not e d text small without =
    rw (list_any-append (λ b. b == e) text ((48 + d) ∷ []), without) (digit_is_not e d small)

-- a byte below the digits is not among them
pub without_end : (e n : ℕ) → e < 48 → n < 2 ^ 64 → IsWithout e (decimal n)
without_end e n small fits =
    decimal_by_steps (λ m text. IsWithout e text) (λ m one. digit_is_not e m small) (λ m text large p. digits_are_not e (m % 10) text small p) n fits

pub cell_unique : (n m e : ℕ) (x y : List ℕ) → e < 48 → n < 2 ^ 64 → m < 2 ^ 64 → cell n e x ≡ cell m e y → (n ≡ m) × (x ≡ y)
cell_unique n m e x y small p q is =
    let same = first_unique e (decimal n) (decimal m) x y (without_end e n small p) (without_end e m small q) is in
    (decimal_injective n m p q same.0, same.1)

-- the digits before the first end are those of the number
pub digits_of_cell : (n e : ℕ) (digits x y : List ℕ) → e < 48 → n < 2 ^ 64 → IsWithout e digits → digits ++ e ∷ x ≡ cell n e y → digits ≡ decimal n
digits_of_cell n e digits x y small p without is = (first_unique e digits (decimal n) x y without (without_end e n small p) is).0
