-- Tests of characters, and the terminators that they are.
use Rattle.std.proofs.Common.{◌≡◌, ◌≢◌, ℕ, Bool, true, false, ◌&&◌, ◌==◌, if◌then◌else◌, List, ◌∷◌, refl, ap, arith, nat_eq, nat_lt}
use Rattle.std.proofs.lemmas.Bool.Decides.{nat_tests}
use Rattle.csvw_records.specs.declared.dialect.Dialect.{Dialect}
use Rattle.csvw_records.specs.Grammar.{terminator_len}
use Rattle.csvw_records.specs.PassLaws.{ends_at}

pub is_char : (a c : ℕ) → nat_eq a c ≡ true → c ≡ a
is_char a c e = grind (arith, nat_tests)

pub differs : (a b : ℕ) → a ≢ b → (a == b) ≡ false
differs a b n = grind (arith, nat_tests)

pub no_end : (d : Dialect) (text : List ℕ) → terminator_len d text ≡ 0 → ends_at d text ≡ false
no_end d text e = ap (λ n. nat_lt 0 n) e

pub lf_again : (d : Dialect) (more : List ℕ) → d.line_terminators.lf ≡ true → terminator_len d (10 ∷ more) ≡ 1
lf_again d more e = tests d.line_terminators.crlf d.line_terminators.lf e
  where
    tests : (crlf lf : Bool) → lf ≡ true → ◌≡◌ {A = ℕ} (if crlf && false then 2 else (if lf && true then 1 else 0)) 1
    tests true lf e = rw e refl
    tests false lf e = rw e refl

pub crlf_again : (d : Dialect) (more : List ℕ) → d.line_terminators.crlf ≡ true → terminator_len d (13 ∷ 10 ∷ more) ≡ 2
crlf_again d more e = rw e refl
