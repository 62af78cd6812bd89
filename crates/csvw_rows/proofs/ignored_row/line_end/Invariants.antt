use Rattle.csvw_rows.specs.IgnoredRows.{NoneBegins}
use Rattle.csvw_rows.proofs.ignored_row.line_end.Given as goal

abbrev pub invariant-loop-i : goal.invariant-loop-i
invariant-loop-i l = NoneBegins l.d l.text l.from l.i
