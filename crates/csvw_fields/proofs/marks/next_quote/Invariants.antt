use Rattle.std.proofs.Common.{◌≤◌, ◌-◌, length}
use Rattle.memchr.specs.Find.{Nowhere, Passes}
use Rattle.csvw_fields.specs.Marked.{is_symbol, is_quote, AreMarks}
use Rattle.csvw_fields.proofs.marks.next_quote.Given as goal

abbrev pub invariant-loop-len : goal.invariant-loop-len
invariant-loop-len l = record {
  behind : l.at ≤ l.from;
  within : l.from ≤ length l.text;
  marks : AreMarks (is_symbol l.symbols) l.text l.marks;
  none : Nowhere (Passes (is_quote l.symbols) l.text) l.at l.from;
}

abbrev pub decreases-loop-len : goal.decreases-loop-len
decreases-loop-len l = length l.text - l.from
