use Rattle.std.proofs.Common.{rules, sym, ℤ, FitsSigned, subst}
use mir.Syntax.{w128}
use Rattle.std.specs.Str.{chars}
use Rattle.std.proofs.lemmas.Int.{to_z-of_z}
use Rattle.csvw_datatype_core.specs.Numbers.{ReadsNumber}
use Rattle.csvw_datatype_core.proofs.ShortLemmas.{counted_reads}
use Rattle.csvw_datatype_core.proofs.short_number.short_number.Goals as goal

pub returns : goal.returns
returns c =
    let read = c.sign_read-read.result in
    let fits : FitsSigned w128 c.signed.result = search rules in
    let P : ℤ → Type 0 = λ z. ReadsNumber c.args.rules.now (chars c.args.text.now) z in
    subst P (sym (to_z-of_z w128 c.signed.result fits))
    (counted_reads c.args.rules.now c.requires read.has_sign read.minus c.args.text.now read.digits.now c.in_ok-count.count c.signed.result
    (c.sign_read-read.ensures c.args.rules.now) c.in_ok-count.ensures.count (cc))
