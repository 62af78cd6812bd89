-- The parts that `split_once` returns are the text before the first character and the text after it.
use Rattle.std.proofs.Common.{◌≡◌, ◌≢◌, ℕ, suc, ◌<◌, ◌==◌, length, Bool, true, false, Option, Some, None, List, [], ◌∷◌, ◌++◌}
use Rattle.std.proofs.Common.{refl, sym, ap, ◌∙◌, arith, MatchOption, Bor}
use Rattle.std.specs.Prelude.{option_map}
use Rattle.std.specs.List.{AllByRecursion}
use Rattle.std.proofs.Math.ListN.{get_or}
use Rattle.std.proofs.lemmas.Bool.{eqb-true, eq-eqb}
use Rattle.csvw_datatype.specs.Splits.{parts_at}

-- no byte is this one
abbrev HasNone : ℕ → List ℕ → Type 0
HasNone c bs = AllByRecursion (λ b. b ≢ c) bs

is_other : (c b : ℕ) (same : Bool) → b ≢ c → (b == c) ≡ same → same ≡ false
is_other c b false differs e = refl
is_other c b true differs e = absurd (differs (eqb-true b c e))

abbrev onto_front : ℕ → Option (List ℕ × List ℕ) → Option (List ℕ × List ℕ)
onto_front b o = option_map (λ x. (b ∷ x.0, x.1)) o

found_at : (c : ℕ) (front rest : List ℕ) → HasNone c front → parts_at c (front ++ (c ∷ rest)) ≡ Some (front, rest)
found_at c [] rest p = let here = eq-eqb c c refl in rw here refl
found_at c (b ∷ bs) rest p = let other = is_other c b (b == c) p.0 refl in rw other (ap (onto_front b) (found_at c bs rest p.1))

none_in : (c : ℕ) (bs : List ℕ) → HasNone c bs → parts_at c bs ≡ None
none_in c [] p = refl
none_in c (b ∷ bs) p = let other = is_other c b (b == c) p.0 refl in rw other (ap (onto_front b) (none_in c bs p.1))

-- the same by the places of the bytes
by_places : (c : ℕ) (bs : List ℕ) → ((i : ℕ) → i < length bs → get_or bs i 0 ≢ c) → HasNone c bs
by_places c [] free = tt
by_places c (b ∷ bs) free = (free 0 (omega arith), by_places c bs (λ i low. free (suc i) (omega (arith, low))))

pub parts_are : (c : ℕ) (bs : List ℕ) (o : Option (Bor (List ℕ) × Bor (List ℕ)))
    → MatchOption o ((i : ℕ) → i < length bs → get_or bs i 0 ≢ c)
    (λ x. (bs ≡ x.0.now ++ (c ∷ x.1.now)) × ((i : ℕ) → i < length x.0.now → get_or x.0.now i 0 ≢ c))
    → option_map (λ x. (x.0.now, x.1.now)) o ≡ parts_at c bs
parts_are c bs None h = sym (none_in c bs (by_places c bs h))
parts_are c bs (Some x) h = sym (ap (parts_at c) h.0 ∙ found_at c x.0.now x.1.now (by_places c x.0.now h.1))
