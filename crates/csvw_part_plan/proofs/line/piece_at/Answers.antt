-- A text that begins with the line of a piece begins with its first number; what follows that begins with the second one, and so on.
use Rattle.std.proofs.Common.{◌≡◌, None, sym, ◌∙◌, ap, arith, rules, lit<}
use Rattle.csvw_part_plan.specs.Plans.{cell}
use Rattle.csvw_part_plan.proofs.Lines.{line-cells, line_read, peel, peel_number}
use Rattle.csvw_part_plan.proofs.line.piece_at.Goals as goal

pub returns-in_err-part : goal.returns-in_err-part
returns-in_err-part c =
    let none : c.from_residual.result ≡ None = search rules in
    rw none (λ p rest fits is.
    let t0 = is ∙ line-cells p rest in
    c.in_err-part.ensures p.part _ (omega (arith, fits.part)) t0)

pub returns-in_err-table : goal.returns-in_err-table
returns-in_err-table c =
    let none : c.from_residual-in_err-table.result ≡ None = search rules in
    rw none (λ p rest fits is.
    let t0 = is ∙ line-cells p rest in
    let t1 = peel 44 c.in_ok-part.part p.part _ _ _ (lit< tt) c.in_ok-part.ensures.1 (omega (arith, fits.part)) c.in_ok-part.ensures.0 t0 in
    c.in_err-table.ensures p.table _ (omega (arith, fits.table)) t1)

pub returns-in_err-first_byte : goal.returns-in_err-first_byte
returns-in_err-first_byte c =
    let none : c.from_residual-in_err-first_byte.result ≡ None = search rules in
    rw none (λ p rest fits is.
    let t0 = is ∙ line-cells p rest in
    let t1 = peel 44 c.in_ok-part.part p.part _ _ _ (lit< tt) c.in_ok-part.ensures.1 (omega (arith, fits.part)) c.in_ok-part.ensures.0 t0 in
    let t2 = peel 44 c.in_ok-table.table p.table _ _ _ (lit< tt) c.in_ok-table.ensures.1 (omega (arith, fits.table)) c.in_ok-table.ensures.0 t1 in
    c.in_err-first_byte.ensures p.first_byte _ (omega (arith, fits.first_byte)) t2)

pub returns-in_err-bytes : goal.returns-in_err-bytes
returns-in_err-bytes c =
    let none : c.from_residual-in_err-bytes.result ≡ None = search rules in
    rw none (λ p rest fits is.
    let t0 = is ∙ line-cells p rest in
    let t1 = peel 44 c.in_ok-part.part p.part _ _ _ (lit< tt) c.in_ok-part.ensures.1 (omega (arith, fits.part)) c.in_ok-part.ensures.0 t0 in
    let t2 = peel 44 c.in_ok-table.table p.table _ _ _ (lit< tt) c.in_ok-table.ensures.1 (omega (arith, fits.table)) c.in_ok-table.ensures.0 t1 in
    let t3 = peel 44 c.in_ok-first_byte.first_byte p.first_byte _ _ _ (lit< tt) c.in_ok-first_byte.ensures.1 (omega (arith, fits.first_byte)) c.in_ok-first_byte.ensures.0 t2 in
    c.in_err-bytes.ensures p.bytes _ (omega (arith, fits.bytes)) t3)

pub returns-in_err-rows_before : goal.returns-in_err-rows_before
returns-in_err-rows_before c =
    let none : c.from_residual-in_err-rows_before.result ≡ None = search rules in
    rw none (λ p rest fits is.
    let t0 = is ∙ line-cells p rest in
    let t1 = peel 44 c.in_ok-part.part p.part _ _ _ (lit< tt) c.in_ok-part.ensures.1 (omega (arith, fits.part)) c.in_ok-part.ensures.0 t0 in
    let t2 = peel 44 c.in_ok-table.table p.table _ _ _ (lit< tt) c.in_ok-table.ensures.1 (omega (arith, fits.table)) c.in_ok-table.ensures.0 t1 in
    let t3 = peel 44 c.in_ok-first_byte.first_byte p.first_byte _ _ _ (lit< tt) c.in_ok-first_byte.ensures.1 (omega (arith, fits.first_byte)) c.in_ok-first_byte.ensures.0 t2 in
    let t4 = peel 44 c.in_ok-bytes.bytes p.bytes _ _ _ (lit< tt) c.in_ok-bytes.ensures.1 (omega (arith, fits.bytes)) c.in_ok-bytes.ensures.0 t3 in
    c.in_err-rows_before.ensures p.rows_before _ (omega (arith, fits.rows)) t4)

pub returns-in_err-data_rows_before : goal.returns-in_err-data_rows_before
returns-in_err-data_rows_before c =
    let none : c.from_residual-in_err-data_rows_before.result ≡ None = search rules in
    rw none (λ p rest fits is.
    let t0 = is ∙ line-cells p rest in
    let t1 = peel 44 c.in_ok-part.part p.part _ _ _ (lit< tt) c.in_ok-part.ensures.1 (omega (arith, fits.part)) c.in_ok-part.ensures.0 t0 in
    let t2 = peel 44 c.in_ok-table.table p.table _ _ _ (lit< tt) c.in_ok-table.ensures.1 (omega (arith, fits.table)) c.in_ok-table.ensures.0 t1 in
    let t3 = peel 44 c.in_ok-first_byte.first_byte p.first_byte _ _ _ (lit< tt) c.in_ok-first_byte.ensures.1 (omega (arith, fits.first_byte)) c.in_ok-first_byte.ensures.0 t2 in
    let t4 = peel 44 c.in_ok-bytes.bytes p.bytes _ _ _ (lit< tt) c.in_ok-bytes.ensures.1 (omega (arith, fits.bytes)) c.in_ok-bytes.ensures.0 t3 in
    let t5 = peel 44 c.in_ok-rows_before.rows_before p.rows_before _ _ _ (lit< tt) c.in_ok-rows_before.ensures.1 (omega (arith, fits.rows)) c.in_ok-rows_before.ensures.0 t4 in
    c.in_err-data_rows_before.ensures p.data_rows_before _ (omega (arith, fits.data_rows)) t5)

pub returns-in_err-header_bytes : goal.returns-in_err-header_bytes
returns-in_err-header_bytes c =
    let none : c.from_residual-in_err-header_bytes.result ≡ None = search rules in
    rw none (λ p rest fits is.
    let t0 = is ∙ line-cells p rest in
    let t1 = peel 44 c.in_ok-part.part p.part _ _ _ (lit< tt) c.in_ok-part.ensures.1 (omega (arith, fits.part)) c.in_ok-part.ensures.0 t0 in
    let t2 = peel 44 c.in_ok-table.table p.table _ _ _ (lit< tt) c.in_ok-table.ensures.1 (omega (arith, fits.table)) c.in_ok-table.ensures.0 t1 in
    let t3 = peel 44 c.in_ok-first_byte.first_byte p.first_byte _ _ _ (lit< tt) c.in_ok-first_byte.ensures.1 (omega (arith, fits.first_byte)) c.in_ok-first_byte.ensures.0 t2 in
    let t4 = peel 44 c.in_ok-bytes.bytes p.bytes _ _ _ (lit< tt) c.in_ok-bytes.ensures.1 (omega (arith, fits.bytes)) c.in_ok-bytes.ensures.0 t3 in
    let t5 = peel 44 c.in_ok-rows_before.rows_before p.rows_before _ _ _ (lit< tt) c.in_ok-rows_before.ensures.1 (omega (arith, fits.rows)) c.in_ok-rows_before.ensures.0 t4 in
    let t6 = peel 44 c.in_ok-data_rows_before.data_rows_before p.data_rows_before _ _ _ (lit< tt) c.in_ok-data_rows_before.ensures.1 (omega (arith, fits.data_rows)) c.in_ok-data_rows_before.ensures.0 t5 in
    c.in_err-header_bytes.ensures p.header_bytes _ (omega (arith, fits.header)) t6)

pub returns-in_err-narrow : goal.returns-in_err-narrow
returns-in_err-narrow c =
    let none : c.from_residual-in_err-narrow.result ≡ None = search rules in
    rw none (λ p rest fits is.
    let t0 = is ∙ line-cells p rest in
    let same = peel_number 44 c.in_ok-part.part p.part _ _ _ (lit< tt) c.in_ok-part.ensures.1 (omega (arith, fits.part)) c.in_ok-part.ensures.0 t0 in
    omega (arith, c.in_err-narrow.ensures, fits.part))

pub returns-in_err-narrow-2 : goal.returns-in_err-narrow-2
returns-in_err-narrow-2 c =
    let none : c.from_residual-in_err-narrow-2.result ≡ None = search rules in
    rw none (λ p rest fits is.
    let t0 = is ∙ line-cells p rest in
    let t1 = peel 44 c.in_ok-part.part p.part _ _ _ (lit< tt) c.in_ok-part.ensures.1 (omega (arith, fits.part)) c.in_ok-part.ensures.0 t0 in
    let same = peel_number 44 c.in_ok-table.table p.table _ _ _ (lit< tt) c.in_ok-table.ensures.1 (omega (arith, fits.table)) c.in_ok-table.ensures.0 t1 in
    omega (arith, c.in_err-narrow-2.ensures, fits.table))

pub returns : goal.returns
returns c = (
  line_read _ _ _ _ _ _ _ _ _ (c.in_ok-part.ensures.0 ∙ ap (λ n. cell n 44 c.in_ok-part.text.now) (sym c.in_ok-narrow.ensures.0))
      (c.in_ok-table.ensures.0 ∙ ap (λ n. cell n 44 c.in_ok-table.text.now) (sym c.in_ok-narrow-2.ensures.0)) c.in_ok-first_byte.ensures.0 c.in_ok-bytes.ensures.0
      c.in_ok-rows_before.ensures.0 c.in_ok-data_rows_before.ensures.0 c.in_ok-header_bytes.ensures.0,
  record {
    part = c.in_ok-narrow.ensures.1;
    table = c.in_ok-narrow-2.ensures.1;
    first_byte = c.in_ok-first_byte.ensures.1;
    bytes = c.in_ok-bytes.ensures.1;
    rows = c.in_ok-rows_before.ensures.1;
    data_rows = c.in_ok-data_rows_before.ensures.1;
    header = c.in_ok-header_bytes.ensures.1;
  },
)
