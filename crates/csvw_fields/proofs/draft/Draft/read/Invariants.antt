use Rattle.std.proofs.Common.{◌≡◌, ◌≤◌, ◌-◌, true, length, drop, chars}
use Rattle.std.specs.Str.{is_utf8}
use Rattle.csvw_fields.specs.Drafts.{read_of, runs_on}
use Rattle.csvw_fields.proofs.draft.Draft.read.Given as goal

abbrev pub invariant-loop-left : goal.invariant-loop-left
invariant-loop-left l = record {
  within : length l.rest ≤ length l.text;
  back : drop (length l.text - length l.rest) l.text ≡ l.rest;
  is_text : is_utf8 l.rest ≡ true;
  read : read_of l.self ≡ read_of l.fn.self;
  runs : runs_on l.rules.dialect l.fn.self (chars l.text) ≡ runs_on l.rules.dialect l.self (chars l.rest);
}

abbrev pub decreases-loop-left : goal.decreases-loop-left
decreases-loop-left l = length l.rest
