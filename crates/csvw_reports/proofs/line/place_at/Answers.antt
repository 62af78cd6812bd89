-- A text that begins with the numbers of a place begins with its first number; what follows that begins with the second one, and so on.
use Rattle.std.proofs.Common.{◌≡◌, None, arith, rules, lit<}
use Rattle.csvw_reports.proofs.Lines.{peel, peel_number}
use Rattle.csvw_reports.proofs.line.place_at.Goals as goal

pub returns-in_err-row : goal.returns-in_err-row
returns-in_err-row c =
    let none : c.from_residual-in_err-row.result ≡ None = search rules in
    rw none (λ p rest fits is.
    let t1 = peel 44 c.in_ok-table.table p.table _ _ _ (lit< tt) c.in_ok-table.ensures.1 (omega (arith, fits.table)) c.in_ok-table.ensures.0 is in
    c.in_err-row.ensures p.row _ fits.row t1)

pub returns-in_err-column : goal.returns-in_err-column
returns-in_err-column c =
    let none : c.from_residual-in_err-column.result ≡ None = search rules in
    rw none (λ p rest fits is.
    let t1 = peel 44 c.in_ok-table.table p.table _ _ _ (lit< tt) c.in_ok-table.ensures.1 (omega (arith, fits.table)) c.in_ok-table.ensures.0 is in
    let t2 = peel 44 c.in_ok-row.row p.row _ _ _ (lit< tt) c.in_ok-row.ensures.1 fits.row c.in_ok-row.ensures.0 t1 in
    c.in_err-column.ensures p.column _ (omega (arith, fits.column)) t2)

pub returns-in_err-narrow : goal.returns-in_err-narrow
returns-in_err-narrow c =
    let none : c.from_residual-in_err-narrow.result ≡ None = search rules in
    rw none (λ p rest fits is.
    let same = peel_number 44 c.in_ok-table.table p.table _ _ _ (lit< tt) c.in_ok-table.ensures.1 (omega (arith, fits.table)) c.in_ok-table.ensures.0 is in
    omega (arith, c.in_err-narrow.ensures, fits.table))

pub returns-in_err-narrow-2 : goal.returns-in_err-narrow-2
returns-in_err-narrow-2 c =
    let none : c.from_residual-in_err-narrow-2.result ≡ None = search rules in
    rw none (λ p rest fits is.
    let t1 = peel 44 c.in_ok-table.table p.table _ _ _ (lit< tt) c.in_ok-table.ensures.1 (omega (arith, fits.table)) c.in_ok-table.ensures.0 is in
    let t2 = peel 44 c.in_ok-row.row p.row _ _ _ (lit< tt) c.in_ok-row.ensures.1 fits.row c.in_ok-row.ensures.0 t1 in
    let same = peel_number 10 c.in_ok-column.column p.column _ _ _ (lit< tt) c.in_ok-column.ensures.1 (omega (arith, fits.column)) c.in_ok-column.ensures.0 t2 in
    omega (arith, c.in_err-narrow-2.ensures, fits.column))
