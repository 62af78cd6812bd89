-- A text that begins with the line of a fault begins with its kind; what follows that begins with its code, and then its place.
use Rattle.std.proofs.Common.{◌≡◌, None, sym, ◌∙◌, rules}
use Rattle.csvw_reports.proofs.Lines.{after_code, after_kind, line-cells, line_read}
use Rattle.csvw_reports.proofs.line.fault_at.Goals as goal

pub returns-in_err-kind : goal.returns-in_err-kind
returns-in_err-kind c =
    let none : c.from_residual.result ≡ None = search rules in
    rw none (λ f rest fits is. c.in_err-kind.ensures f.kind _ (is ∙ line-cells f rest))

pub returns-in_err-code : goal.returns-in_err-code
returns-in_err-code c =
    let none : c.from_residual-in_err-code.result ≡ None = search rules in
    rw none (λ f rest fits is.
    let t1 = (after_kind c.in_ok-kind.kind f.kind _ _ (sym c.in_ok-kind.ensures ∙ is ∙ line-cells f rest)).1 in
    c.in_err-code.ensures f.code _ t1)

pub returns-in_err-place : goal.returns-in_err-place
returns-in_err-place c =
    let none : c.from_residual-in_err-place.result ≡ None = search rules in
    rw none (λ f rest fits is.
    let t1 = (after_kind c.in_ok-kind.kind f.kind _ _ (sym c.in_ok-kind.ensures ∙ is ∙ line-cells f rest)).1 in
    let t2 = (after_code c.in_ok-code.code f.code _ _ (sym c.in_ok-code.ensures ∙ t1)).1 in
    c.in_err-place.ensures f.place rest fits t2)

pub returns : goal.returns
returns c = (line_read _ _ _ _ _ c.in_ok-kind.ensures c.in_ok-code.ensures c.in_ok-place.ensures.0, c.in_ok-place.ensures.1)
