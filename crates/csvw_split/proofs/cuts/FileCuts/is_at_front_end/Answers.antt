-- All rows that are needed were read, and a row ends here.
use Rattle.std.proofs.Common.{◌≡◌, ◌≤◌, true, arith, rules}
use Rattle.std.proofs.lemmas.Bool.Decides.{nat_tests}
use Rattle.csvw_split.specs.FileState.{given_of, rows_of}
use Rattle.csvw_split.proofs.CutLemmas.{front_here}
use Rattle.csvw_split.proofs.cuts.FileCuts.is_at_front_end.Goals as goal

pub returns-clause-front : goal.returns-clause-front
returns-clause-front c = λ yes t text h.
    let s = c.args.self.now in
    let ends : c.is_at_row_end.result ≡ true = search rules in
    let enough : s.wanted.front_rows ≤ c.given.result = grind (arith, nat_tests) in
    let rows = c.row_count.ensures in
    let given = c.given.ensures in
    front_here s t text (rows_of s.file) (given_of s.file) h (c.is_at_row_end.ensures.given t.dialect text h.follows ends) (omega arith) (omega arith)
