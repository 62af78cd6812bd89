use Rattle.std.proofs.Common.{◌≡◌, ◌≤◌, length, take, drop, chars}
use Rattle.std.specs.Prelude.{encode_utf8_all}
use Rattle.csvw_fields.proofs.rules.same_len.Given as goal

abbrev pub invariant-loop-i : goal.invariant-loop-i
invariant-loop-i l = record {
  left : l.rest.rest.now ≡ encode_utf8_all (drop l.i (chars l.b));
  in_text : l.i ≤ length (chars l.b);
  same : take l.i l.a ≡ take l.i (chars l.b);
}
