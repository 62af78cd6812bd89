-- The first line of a text or of bytes, and what a line gives.
use Rattle.std.proofs.Common.{◌≡◌, ◌<◌, ℕ, zero, suc, List, [], ◌∷◌, ◌++◌, refl, sym, ap, ◌∙◌, arith, inl, inr, length, ◌+◌}
use Rattle.std.proofs.Common.{◌-◌, true, false, take, drop, get_or, add-one, length-drop, drop-cons}
use Rattle.std.proofs.lemmas.List.{take_rest, take-append-drop}
use Rattle.std.specs.Prelude.{Option, Some, None, option_to_list, Result, Err}
use Rattle.std.specs.List.{slice_split, AllByRecursion}
use Rattle.csvw_ntriples.specs.Character.{is_break}
use Rattle.csvw_ntriples.specs.Grammar.{AreLines}
use Rattle.csvw_ntriples.specs.Passing.{IsFirstLine}
use Rattle.csvw_ntriples.specs.Reading.{LineGives}
use Rattle.csvw_ntriples.specs.declared.term.NtFault.{NtFault}
use Rattle.csvw_ntriples.specs.declared.term.NtFault.TheVariants.{Syntax}
use Rattle.csvw_ntriples.specs.declared.term.NtTriple.{NtTriple}

-- one line more
pub line_front : (line : List ℕ) (lines : List (List ℕ)) (o : Option NtTriple) (ts : List NtTriple) → LineGives line o → AreLines lines ts
    → AreLines (line ∷ lines) (option_to_list o ++ ts)
line_front line lines None ts g f = inl (g, f)
line_front line lines (Some t) ts g f = inr (t, ts, refl, g, f)

pub line_none : (line : List ℕ) (lines : List (List ℕ)) (ts : List NtTriple) → ((o : Option NtTriple) → LineGives line o → ⊥) → AreLines (line ∷ lines) ts → ⊥
line_none line lines ts none (inl f) = none None f.0
line_none line lines ts none (inr f) = none (Some f.0) f.3

abbrev pub NoBreak : ℕ → Type 0
NoBreak c = is_break c ≡ false

pub split_no_break : (xs : List ℕ) → AllByRecursion NoBreak xs → slice_split is_break xs ≡ xs ∷ []
split_no_break [] h = refl
split_no_break (x ∷ xs) h = rw (h.0, split_no_break xs h.1) refl

at_zero : (cs : List ℕ) (i x : ℕ) → i < length cs → x ≡ get_or cs i x → get_or cs i 0 ≡ x
at_zero [] i x l e = absurd (omega arith)
at_zero (c ∷ cs) zero x l e = sym e
at_zero (c ∷ cs) (suc i) x l e = at_zero cs i x (omega arith) e

pub first_break : (xs : List ℕ) (i c : ℕ) → i < length xs → AllByRecursion NoBreak (take i xs) → c ≡ get_or xs i c → is_break c ≡ true
    → IsFirstLine xs (take i xs) (take (length xs - (i + 1)) (drop (i + 1) xs)) × (length (take (length xs - (i + 1)) (drop (i + 1) xs)) < length xs)
first_break xs i c l h e b =
    let here : drop i xs ≡ c ∷ drop (i + 1) xs = drop-cons xs i 0 l ∙ ap (λ x. x ∷ drop (suc i) xs) (at_zero xs i c l e)
    ∙ ap (λ k. c ∷ drop k xs) (sym (add-one i)) in
    let whole : xs ≡ take i xs ++ c ∷ drop (i + 1) xs = sym (take-append-drop i xs) ∙ ap (λ l. take i xs ++ l) here in
    let short : length (drop (i + 1) xs) < length xs = simp length-drop (omega arith) in
    rw (take_rest xs (i + 1)) ((h, inr (c, whole, b)), short)

-- one result has one error
pub err_same : {X : Type 0} (r : Result X NtFault) (e : NtFault) → r ≡ Err e → r ≡ Err Syntax → e ≡ Syntax
err_same r e p q = cc
