-- A digit more is a digit.
use Rattle.std.proofs.Common.{rules}
use Rattle.std.proofs.lemmas.Int.Digits.{digits_more}
use Rattle.csvw_double.proofs.DigitLemmas.{digit_is}
use Rattle.csvw_double.proofs.canonical.digits_len.Goals as goal

pub loop-len-preserved : goal.loop-len-preserved
loop-len-preserved c =
    let more = digits_more 10 c.args.text.now c.loop-len.len in
    search (rules, more, digit_is)
