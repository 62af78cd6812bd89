use Rattle.std.proofs.Common.{◌≡◌, ◌≤◌, ◌-◌, true, length, drop}
use Rattle.std.specs.Str.{is_utf8}
use Rattle.csvw_fields.specs.Bounds.{are_bounds}
use Rattle.csvw_fields.specs.Cuts.{IsCutTo}
use Rattle.csvw_fields.specs.Marked.{is_symbol, AreMarks}
use Rattle.csvw_fields.proofs.cutter.Cutter.cut_row.Given as goal

abbrev pub invariant-loop-len : goal.invariant-loop-len
invariant-loop-len l = record {
  from_start : l.start ≤ l.at;
  within : l.at ≤ length l.self.text.now;
  is_text : is_utf8 (drop l.at l.self.text.now) ≡ true;
  bounded : are_bounds l.self.text.now l.spare.items l.bounds.items ≡ true;
  marks : AreMarks (is_symbol l.self.symbols) l.self.text.now l.marks;
  cut_to : IsCutTo l.self.dialect.now l.self.text.now l.start l.at l.spare.items l.bounds.items;
}

abbrev pub decreases-loop-len : goal.decreases-loop-len
decreases-loop-len l = length l.self.text.now - l.at
