-- Nothing is unread, and there is a row.
use Rattle.std.proofs.Common.{◌∙◌, ◌<◌, ◌+◌, sym, arith}
use Rattle.std.proofs.lemmas.Bool.Decides.{nat_tests}
use Rattle.csvw_split.proofs.FileLemmas.{row_ends, rows_given}
use Rattle.csvw_split.proofs.file.FileRows.is_at_row_end.Goals as goal

pub returns-then-unread_bytes-eq0-clause-rows : goal.returns-then-unread_bytes-eq0-clause-rows
returns-then-unread_bytes-eq0-clause-rows c = λ d text f more.
    let row = c.row.ensures in
    let some : 1 < c.args.self.now.rows.row + 1 = grind (arith, nat_tests) in
    row_ends c.args.self.now d text f (sym c.unread_bytes.ensures ∙ c.if-unread_bytes-eq0.true) some

pub returns-then-unread_bytes-eq0-clause-given : goal.returns-then-unread_bytes-eq0-clause-given
returns-then-unread_bytes-eq0-clause-given c = λ d text f more.
    let row = c.row.ensures in
    let some : 1 < c.args.self.now.rows.row + 1 = grind (arith, nat_tests) in
    rows_given c.args.self.now d text f (sym c.unread_bytes.ensures ∙ c.if-unread_bytes-eq0.true) some
