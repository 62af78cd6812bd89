-- The loop tests each word through its reference.
use Rattle.std.proofs.Common.{Bor, List, ℕ}
use Rattle.csvw_text.specs.Language.{is_word, is_letter_or_digit_char}
use Rattle.csvw_text.proofs.LanguageLemmas.{list_all-false, list_all-one_more, list_all-whole, list_all-now}
use Rattle.csvw_text.proofs.language.are_other_subtags.Goals as goal

pub loop-word-preserved : goal.loop-word-preserved
loop-word-preserved c =
    list_all-one_more (λ (w : Bor (List ℕ)). is_word is_letter_or_digit_char w.now) c.args.words.now c.loop-word.word-index _ c.is_subtag.result
    c.loop-word-test.true c.is_subtag.ensures c.if-not-is_subtag.false c.loop-word.invariant

pub returns-then-not-is_subtag : goal.returns-then-not-is_subtag
returns-then-not-is_subtag c =
    list_all-now (is_word is_letter_or_digit_char) c.args.words.now _
    (list_all-false (λ (w : Bor (List ℕ)). is_word is_letter_or_digit_char w.now) c.args.words.now c.loop-word.word-index _ c.is_subtag.result
    c.loop-word-test.true c.is_subtag.ensures c.if-not-is_subtag.true)

pub returns : goal.returns
returns c =
    list_all-now (is_word is_letter_or_digit_char) c.args.words.now _
    (list_all-whole (λ (w : Bor (List ℕ)). is_word is_letter_or_digit_char w.now) c.args.words.now c.loop-word.word-index c.loop-word-test.false
    c.loop-word.invariant)
