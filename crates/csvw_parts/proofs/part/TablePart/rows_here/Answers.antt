-- Where nothing is unread, the bytes so far are whole rows.
use Rattle.std.proofs.Common.{◌≡◌, ◌∙◌, ◌<◌, ◌++◌, ℕ, List, [], append-nil, ap, sym, subst, arith}
use Rattle.csvw_part_laws.specs.Parts.{AreWholeRows}
use Rattle.csvw_engine_core.specs.Tables.{max_rows}
use Rattle.csvw_rows.specs.RowsState.{reading_of}
use Rattle.csvw_parts.proofs.Lists.{none_left}
use Rattle.csvw_parts.proofs.part.TablePart.rows_here.Goals as goal

pub returns-clause-ends : goal.returns-clause-ends
returns-clause-ends c = λ mode bytes given annotated h some.
    let s = c.args.self.now.table.rows in
    let d = c.args.self.now.plan.now.dialect in
    let read = c.rows_read.ensures in
    let begun : 1 < reading_of s = omega (arith, read, some) in
    let e = c.row_ends.ensures s d max_rows bytes given h.reader begun in
    let none : e.unread ≡ [] = none_left e.unread
    (let n = e.count in let u = c.unread_bytes.ensures in let z = c.if-unread_bytes-gt0.false in omega (arith, n, u, z)) in
    let all : bytes ≡ e.front = e.spelled ∙ ap (λ (l : List ℕ). e.front ++ l) none ∙ append-nil e.front in (
      e.rows,
      subst (λ (l : List ℕ). AreWholeRows d l e.rows) (sym all) e.are_rows,
      e.body,
      (let r = e.reading in omega (arith, r, read)),
      c.in_ok-data_rows.ensures ∙ e.remained,
    )
