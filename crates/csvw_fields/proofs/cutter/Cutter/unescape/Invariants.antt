use Rattle.std.proofs.Common.{◌≡◌, ◌≤◌, ◌-◌, true, length, take, drop}
use Rattle.std.specs.Str.{is_utf8}
use Rattle.csvw_fields.specs.Cuts.{Unescapes}
use Rattle.csvw_fields.specs.Marked.{is_symbol, is_quote, AreMarks, StandsAhead}
use Rattle.csvw_fields.proofs.cutter.Cutter.unescape.Given as goal

abbrev pub invariant-loop-spare : goal.invariant-loop-spare
invariant-loop-spare l = record {
  behind : l.start ≤ l.at;
  within : l.at ≤ length l.self.text.now;
  front : is_utf8 (take (l.at - l.start) (drop l.start l.self.text.now)) ≡ true;
  back : is_utf8 (drop (l.at - l.start) (drop l.start l.self.text.now)) ≡ true;
  marks : AreMarks (is_symbol l.self.symbols) l.self.text.now l.marks;
  ahead : StandsAhead (is_quote l.self.symbols) l.self.text.now l.at (length l.self.text.now) l.len;
  written : Unescapes l.self.symbols.quote (take (l.at - l.start) (drop l.start l.self.text.now)) l.fn.spare.items l.spare.items;
}

abbrev pub decreases-loop-spare : goal.decreases-loop-spare
decreases-loop-spare l = length l.self.text.now - l.at
