use Rattle.std.proofs.Common.{ℕ, List, sym, subst, ap, ◌∙◌, take}
use Rattle.std.specs.Char.{is_ascii_digit}
use Rattle.std.specs.List.{prefix_len}
use Rattle.std.specs.Str.Parse.{AllDigits}
use Rattle.csvw_duration.proofs.DigitLemmas.{digits_first, front_again}
use Rattle.csvw_duration.proofs.digits.digits_at.Goals as goal

pub returns-then-is_short-clause-digits : goal.returns-then-is_short-clause-digits
returns-then-is_short-clause-digits c =
    let bs = c.args.bytes.now in
    let P : List ℕ → Type 0 = λ l. AllDigits 10 l in
    subst P (sym (c.split_at.ensures.front ∙ ap (λ n. take n bs) c.digit_count-count.ensures ∙ front_again (prefix_len is_ascii_digit bs) bs))
    (digits_first bs)
