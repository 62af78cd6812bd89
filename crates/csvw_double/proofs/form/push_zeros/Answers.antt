-- As many zeros of the constant are zeros.
use Rattle.std.proofs.Common.{rules, subst, sym}
use Rattle.std.specs.Str.{IsAscii}
use Rattle.csvw_double.proofs.FormLemmas.{zeros, zeros_ascii}
use Rattle.csvw_double.proofs.form.push_zeros.Goals as goal

pub as_text-requires : goal.as_text-requires
as_text-requires c = subst IsAscii (sym (zeros c.args.count c.requires)) (zeros_ascii c.args.count)

pub returns : goal.returns
returns c =
    let is = zeros c.args.count c.requires in
    search (rules, is)
