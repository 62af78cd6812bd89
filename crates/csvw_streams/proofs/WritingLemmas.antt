-- One more write of a loop.
use Rattle.std.proofs.Common.{◌≡◌, ◌≤◌, ◌<◌, ◌+◌, ℕ, zero, suc, List, [], ◌∷◌, length, take, drop, refl, subst, arith, Option, ◌-◌, length-drop}
use Rattle.std.proofs.Math.Seq.{take-add}
use Rattle.std.proofs.KnownBytes.{Appends-trans}
use Rattle.std.proofs.lemmas.List.{take_all}
use Rattle.std.specs.Io.KnownBytes.{Appends}
use Rattle.std.specs.Prelude.{Result, Ok, Err}
use Rattle.csvw_streams.specs.Count.{after_write}

-- what went out in two writes
pub sent_more : (a b c : Option (List ℕ)) (bytes : List ℕ) (n m : ℕ) → Appends a b (take n bytes) → Appends b c (take m (drop n bytes))
    → Appends a c (take (n + m) bytes)
sent_more a b c bytes n m p q = rw (take-add n m bytes) (Appends-trans a b c (take n bytes) (take m (drop n bytes)) p q)

-- the bytes that are left, as a slice of the whole
rest_is : (bytes : List ℕ) (n : ℕ) → take (length bytes - n) (drop n bytes) ≡ drop n bytes
rest_is bytes n = take_all (length bytes - n) (drop n bytes) (omega (arith, length-drop n bytes))

-- what went out in two writes, the second of what the first left
pub sent_rest : (a b c : Option (List ℕ)) (bytes : List ℕ) (n m : ℕ) → Appends a b (take n bytes)
    → Appends b c (take m (take (length bytes - n) (drop n bytes))) → Appends a c (take (n + m) bytes)
sent_rest a b c bytes n m p q = sent_more a b c bytes n m p (subst (λ (xs : List ℕ). Appends b c (take m xs)) (rest_is bytes n) q)

-- all went out
pub sent_all : (a b : Option (List ℕ)) (bytes : List ℕ) (n : ℕ) → Appends a b (take n bytes) → length bytes ≤ n → Appends a b bytes
sent_all a b bytes n p h = subst (λ xs. Appends a b xs) (take_all n bytes h) p

-- a write that took something is no failure
pub after_write-some : {E : Type 0} (r : Result ℕ E) (k : ℕ) (bytes : List ℕ) (n : ℕ) → r ≡ Ok k → 0 < k → after_write r bytes n ≡ n
after_write-some (Err e) k bytes n is h = cc
after_write-some (Ok zero) k bytes n is h = let z : 0 ≡ k = cc in absurd (omega arith)
after_write-some (Ok (suc j)) k [] n is h = refl
after_write-some (Ok (suc j)) k (b ∷ bytes) n is h = refl
