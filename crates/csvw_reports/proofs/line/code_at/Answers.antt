-- The name of a code has no comma, so it ends at the first one.
use Rattle.std.proofs.Common.{◌≡◌, None, sym, ◌∙◌, rules}
use Rattle.csvw_part_plan.proofs.Cells.{first_unique}
use Rattle.csvw_fault.specs.Code.{name_of}
use Rattle.csvw_reports.proofs.Names.{code_without_comma}
use Rattle.csvw_reports.proofs.line.code_at.Goals as goal

pub returns-in_err-code_named : goal.returns-in_err-code_named
returns-in_err-code_named c =
    let none : c.from_residual-in_err-code_named.result ≡ None = search rules in
    rw none (λ code rest is.
    let parts = c.in_ok-name.ensures in
    let same = first_unique 44 c.in_ok-name.name.now (name_of code) c.in_ok-name.rest.now rest parts.1 (code_without_comma code) (sym parts.0 ∙ is) in
    c.in_err-code_named.ensures code same.0)
