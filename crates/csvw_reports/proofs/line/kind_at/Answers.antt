-- The name of a kind has no comma, so it ends at the first one.
use Rattle.std.proofs.Common.{◌≡◌, None, sym, ◌∙◌, rules}
use Rattle.csvw_part_plan.proofs.Cells.{first_unique}
use Rattle.csvw_report.specs.Report.{kind_name}
use Rattle.csvw_reports.proofs.Names.{kind_without_comma}
use Rattle.csvw_reports.proofs.line.kind_at.Goals as goal

pub returns-in_err-kind_named : goal.returns-in_err-kind_named
returns-in_err-kind_named c =
    let none : c.from_residual-in_err-kind_named.result ≡ None = search rules in
    rw none (λ kind rest is.
    let parts = c.in_ok-name.ensures in
    let same = first_unique 44 c.in_ok-name.name.now (kind_name kind) c.in_ok-name.rest.now rest parts.1 (kind_without_comma kind) (sym parts.0 ∙ is) in
    c.in_err-kind_named.ensures kind same.0)
