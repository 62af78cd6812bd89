use Rattle.std.proofs.Common.{◌≡◌, ◌≤◌, ◌-◌, true, length, drop, chars}
use Rattle.std.specs.Str.{is_utf8}
use Rattle.csvw_text.specs.Strip.{strip_start}
use Rattle.csvw_text.proofs.strip.strip_start.Given as goal

abbrev pub invariant-loop-c : goal.invariant-loop-c
invariant-loop-c l = record {
  within : length l.rest ≤ length l.text;
  back : drop (length l.text - length l.rest) l.text ≡ l.rest;
  is_text : is_utf8 l.rest ≡ true;
  same : strip_start (chars l.text) ≡ strip_start (chars l.rest);
}

abbrev pub decreases-loop-c : goal.decreases-loop-c
decreases-loop-c l = length l.rest
