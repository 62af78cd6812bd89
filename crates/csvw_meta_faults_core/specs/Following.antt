-- Faults of the parts of an object, which are added one part after the other: a law for each number of parts.
use Rattle.std.specs.Prelude.{◌≡◌, List, [], ◌++◌}
use Rattle.std.proofs.Common.{sym, ap, ◌∙◌, append_assoc, append-nil}

-- The first part is added to what was there. What follows it leads to all.
pub first_then : {A : Type 0} (old a one rest all : List A) → one ≡ old ++ a → one ++ rest ≡ all → old ++ (a ++ rest) ≡ all
first_then old a one rest all h k = sym (append_assoc old a rest) ∙ ap (λ xs. xs ++ rest) (sym h) ∙ k

pub at_last : {A : Type 0} (old a : List A) → old ++ (a ++ []) ≡ old ++ a
at_last old a = ap (λ xs. old ++ xs) (append-nil a)

pub two_parts : {A : Type 0} (old a b one : List A) → one ≡ old ++ a → old ++ (a ++ (b ++ [])) ≡ one ++ b
two_parts old a b one h = first_then old a one (b ++ []) (one ++ b) h (at_last one b)

pub three_parts : {A : Type 0} (old a b c one two : List A) → one ≡ old ++ a → two ≡ one ++ b → old ++ (a ++ (b ++ (c ++ []))) ≡ two ++ c
three_parts old a b c one two h k = first_then old a one (b ++ (c ++ [])) (two ++ c) h (two_parts one b c two k)

pub four_parts : {A : Type 0} (old a b c d one two three : List A) → one ≡ old ++ a → two ≡ one ++ b → three ≡ two ++ c
    → old ++ (a ++ (b ++ (c ++ (d ++ [])))) ≡ three ++ d
four_parts old a b c d one two three h k l = first_then old a one (b ++ (c ++ (d ++ []))) (three ++ d) h (three_parts one b c d two three k l)

pub five_parts : {A : Type 0} (old a b c d e one two three four : List A) → one ≡ old ++ a → two ≡ one ++ b → three ≡ two ++ c → four ≡ three ++ d
    → old ++ (a ++ (b ++ (c ++ (d ++ (e ++ []))))) ≡ four ++ e
five_parts old a b c d e one two three four h k l m =
    first_then old a one (b ++ (c ++ (d ++ (e ++ [])))) (four ++ e) h (four_parts one b c d e two three four k l m)

pub six_parts : {A : Type 0} (old a b c d e f one two three four five : List A) → one ≡ old ++ a → two ≡ one ++ b → three ≡ two ++ c
    → four ≡ three ++ d → five ≡ four ++ e → old ++ (a ++ (b ++ (c ++ (d ++ (e ++ (f ++ [])))))) ≡ five ++ f
six_parts old a b c d e f one two three four five h k l m n =
    first_then old a one (b ++ (c ++ (d ++ (e ++ (f ++ []))))) (five ++ f) h (five_parts one b c d e f two three four five k l m n)

pub seven_parts : {A : Type 0} (old a b c d e f g one two three four five six : List A) → one ≡ old ++ a → two ≡ one ++ b → three ≡ two ++ c
    → four ≡ three ++ d → five ≡ four ++ e → six ≡ five ++ f → old ++ (a ++ (b ++ (c ++ (d ++ (e ++ (f ++ (g ++ []))))))) ≡ six ++ g
seven_parts old a b c d e f g one two three four five six h k l m n o =
    first_then old a one (b ++ (c ++ (d ++ (e ++ (f ++ (g ++ [])))))) (six ++ g) h (six_parts one b c d e f g two three four five six k l m n o)
