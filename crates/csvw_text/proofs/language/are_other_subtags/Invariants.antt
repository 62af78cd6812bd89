-- The words passed so far are subtags.
use Rattle.std.proofs.Common.{◌≡◌, true, take, Bor, List, ℕ}
use Rattle.std.specs.List.{list_all}
use Rattle.csvw_text.specs.Language.{is_word, is_letter_or_digit_char}
use Rattle.csvw_text.proofs.language.are_other_subtags.Given as goal

abbrev pub invariant-loop-word : goal.invariant-loop-word
invariant-loop-word l = list_all (λ (w : Bor (List ℕ)). is_word is_letter_or_digit_char w.now) (take l.word-index l.words) ≡ true
