use Rattle.std.proofs.Common.{◌∙◌, arith}
use Rattle.csvw_row_keys.proofs.ListLemmas.{decimal_digits, on_more}
use Rattle.csvw_row_keys.proofs.spelling.push_digits.Goals as goal

pub returns : goal.returns
returns c =
    let digits = decimal_digits c.args.size (omega (arith, c.if-size-eq0.false)) (omega (arith, c.ranges.size.fits)) in
    on_more c.extend_from_slice.result _ _ _ _ c.extend_from_slice.ensures.items (c.as_bytes.ensures.value ∙ c.format.ensures.text ∙ digits)
