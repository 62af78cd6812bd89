use Rattle.std.proofs.Common.{◌≡◌, drop, chars}
use Rattle.std.specs.Prelude.{encode_utf8_all}
use Rattle.csvw_fields.proofs.decode.front_len.Given as goal

abbrev pub invariant-loop-i : goal.invariant-loop-i
invariant-loop-i l = l.rest.rest.now ≡ encode_utf8_all (drop l.i (chars l.text))
