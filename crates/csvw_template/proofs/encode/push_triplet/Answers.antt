-- A triplet is written as it is, since each of its characters is one byte.
use Rattle.std.proofs.Common.{◌≡◌, ℕ, ◌<◌, ◌≤◌, List, [], ◌∷◌, ◌++◌, true, take, get_or, ap, arith, append_assoc, ⊎_elim}
use Rattle.std.proofs.Common.{◌||◌, ◌&&◌, ◌==◌, Result, Ok, Err, OnOk, is_ok, cond}
use Rattle.std.specs.declared.alloc.AllocError.{AllocError}
use Rattle.std.proofs.lemmas.Bool.{and_parts, or_cases, leb-true, eqb-true}
use Rattle.csvw_text.specs.Class.{is_within, is_digit_char}
use Rattle.csvw_template.specs.Name.{is_hex}
use Rattle.csvw_template.specs.Expand.{begins_triplet}
use Rattle.csvw_template.proofs.encode.push_triplet.Goals as goal

at_most : (low high b : ℕ) → is_within low high b ≡ true → b ≤ high
at_most low high b h = leb-true b high (and_parts _ _ h).1

digit_is_ascii : (b : ℕ) → is_hex b ≡ true → b < 128
digit_is_ascii b h = ⊎_elim
    (λ other. ⊎_elim
    (λ digit. let le = at_most 48 57 b digit in omega arith)
    (λ capital. let le = at_most 65 70 b capital in omega arith)
    (or_cases (is_digit_char b) (is_within 65 70 b) other))
    (λ small. let le = at_most 97 102 b small in omega arith)
    (or_cases (is_digit_char b || is_within 65 70 b) (is_within 97 102 b) h)

its_bytes : (bs : List ℕ) → begins_triplet bs ≡ true
    → (take 3 bs ≡ 37 ∷ get_or bs 1 0 ∷ get_or bs 2 0 ∷ []) × (get_or bs 1 0 < 128) × (get_or bs 2 0 < 128)
its_bytes [] h = cc
its_bytes (b ∷ []) h = cc
its_bytes (b ∷ c ∷ []) h = cc
its_bytes (b ∷ c ∷ d ∷ rest) h =
    let (front, low) = and_parts (b == 37 && is_hex c) (is_hex d) h in
    let (percent, high) = and_parts (b == 37) (is_hex c) front in
    (ap (λ x. x ∷ c ∷ d ∷ []) (eqb-true b 37 percent), digit_is_ascii c high, digit_is_ascii d low)

written : (r : Result (Unit {0}) AllocError) (old one two new : List ℕ) (a b c : ℕ)
    → one ≡ old ++ a ∷ [] → two ≡ one ++ b ∷ [] → new ≡ cond (is_ok r) (two ++ c ∷ []) two → OnOk r (new ≡ old ++ a ∷ b ∷ c ∷ [])
written (Ok _) old one two new a b c first second third = rw (third, second, first) (simp append_assoc)
written (Err _) old one two new a b c first second third = tt

pub returns : goal.returns
returns c =
    let (bytes, high, low) = its_bytes c.args.text.now c.requires in
    let first = c.push.ensures.ascii (omega arith) in
    let second = rw (c.push-2.ensures.ascii high) at c.in_ok-push-2.ensures.bytes in
    let third = rw (c.push-3.ensures.ascii low) at c.push-3.ensures.bytes in
    rw bytes (written c.push-3.result _ _ _ _ _ _ _ (rw first at c.in_ok-push.ensures.bytes) second third)
