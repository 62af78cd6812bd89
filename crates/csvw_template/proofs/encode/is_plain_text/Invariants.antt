-- The rest of the text decides.
use Rattle.std.proofs.Common.{◌≡◌, drop}
use Rattle.std.specs.List.{list_all}
use Rattle.csvw_template.specs.Expand.{is_plain}
use Rattle.csvw_template.proofs.encode.is_plain_text.Given as goal

abbrev pub invariant-loop-b : goal.invariant-loop-b
invariant-loop-b l = list_all is_plain l.text ≡ list_all is_plain (drop l.b-index l.bytes)
