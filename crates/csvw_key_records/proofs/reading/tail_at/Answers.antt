-- A text that begins with the rest of a line begins with its role; what follows that begins with the table, and so on.
use Rattle.std.proofs.Common.{◌≡◌, ◌∙◌, ap, sym, None, rules, lit<}
use Rattle.csvw_key_records.specs.Records.{cell, role_field}
use Rattle.csvw_key_records.proofs.Cells.{peel, wider}
use Rattle.csvw_key_records.proofs.Lines.{peel_role, tail-cells}
use Rattle.csvw_key_records.proofs.reading.tail_at.Goals as goal

pub returns-in_err-role : goal.returns-in_err-role
returns-in_err-role c =
    let none : c.from_residual.result ≡ None = search rules in
    rw none (λ role place rest fits is. c.in_err-role.ensures role _ (is ∙ tail-cells role place rest))

pub returns-in_err-table : goal.returns-in_err-table
returns-in_err-table c =
    let none : c.from_residual-in_err-table.result ≡ None = search rules in
    rw none (λ role place rest fits is.
    let t1 = peel_role c.args.text.now c.in_ok-role.role role _ _ c.in_ok-role.ensures (is ∙ tail-cells role place rest) in
    c.in_err-table.ensures place.table _ fits.table t1)

pub returns-in_err-row : goal.returns-in_err-row
returns-in_err-row c =
    let none : c.from_residual-in_err-row.result ≡ None = search rules in
    rw none (λ role place rest fits is.
    let t1 = peel_role c.args.text.now c.in_ok-role.role role _ _ c.in_ok-role.ensures (is ∙ tail-cells role place rest) in
    let t2 = peel 44 c.in_ok-table.table place.table _ _ _ (lit< tt) (wider _ c.in_ok-table.ensures.1) (wider _ fits.table) c.in_ok-table.ensures.0 t1 in
    c.in_err-row.ensures place.row _ fits.row t2)

pub returns-in_err-column : goal.returns-in_err-column
returns-in_err-column c =
    let none : c.from_residual-in_err-column.result ≡ None = search rules in
    rw none (λ role place rest fits is.
    let t1 = peel_role c.args.text.now c.in_ok-role.role role _ _ c.in_ok-role.ensures (is ∙ tail-cells role place rest) in
    let t2 = peel 44 c.in_ok-table.table place.table _ _ _ (lit< tt) (wider _ c.in_ok-table.ensures.1) (wider _ fits.table) c.in_ok-table.ensures.0 t1 in
    let t3 = peel 44 c.in_ok-row.row place.row _ _ _ (lit< tt) c.in_ok-row.ensures.1 fits.row c.in_ok-row.ensures.0 t2 in
    c.in_err-column.ensures place.column _ fits.column t3)

pub returns : goal.returns
returns c = (
  c.in_ok-role.ensures
      ∙ (ap (role_field c.in_ok-role.role) (c.in_ok-table.ensures.0 ∙ ap (cell c.in_ok-table.table 44) (c.in_ok-row.ensures.0
      ∙ ap (cell c.in_ok-row.row 44) c.in_ok-column.ensures.0)) ∙ sym (tail-cells c.in_ok-role.role _ _)),
  record { table = c.in_ok-table.ensures.1; row = c.in_ok-row.ensures.1; column = c.in_ok-column.ensures.1 },
)
