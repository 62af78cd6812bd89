-- A text that begins with the digits of a number begins with those of no other one.
use Rattle.std.proofs.Common.{◌≡◌, ◌∙◌, ap, sym, None, arith, rules}
use Rattle.csvw_key_records.specs.Records.{cell}
use Rattle.csvw_key_records.proofs.Cells.{peel_number, wider}
use Rattle.csvw_key_records.proofs.digits.short_number.Goals as goal

pub returns-in_err-long : goal.returns-in_err-long
returns-in_err-long c =
    let none : c.from_residual.result ≡ None = search rules in
    rw none (λ n rest small is. c.in_err-long.ensures n rest (wider n small) is)

pub returns-in_err-short : goal.returns-in_err-short
returns-in_err-short c =
    let none : c.from_residual-in_err-short.result ≡ None = search rules in
    rw none (λ n rest small is.
    let same = peel_number c.args.end c.in_ok-long.long n c.args.text.now _ rest c.requires c.in_ok-long.ensures.1 (wider n small) c.in_ok-long.ensures.0 is in
    omega (arith, c.in_err-short.ensures))

pub returns : goal.returns
returns c = (
  c.in_ok-long.ensures.0 ∙ ap (λ n. cell n c.args.end c.in_ok-long.rest.now) (sym c.in_ok-short.ensures.0),
  c.in_ok-short.ensures.1,
)
