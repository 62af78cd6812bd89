-- The parts of what is left are subtags just where all are.
use Rattle.std.proofs.Common.{◌≡◌, length}
use Rattle.std.specs.List.{list_all}
use denote.Text.{Utf8}
use denote.Shadow.{shadow}
use Rattle.csvw_datatype_core.specs.Languages.{subtags, is_subtag}
use Rattle.csvw_datatype_core.proofs.language.are_subtags.Given as goal

abbrev pub invariant-loop-subtag : goal.invariant-loop-subtag
invariant-loop-subtag l = (same : list_all is_subtag (subtags l.text) ≡ list_all is_subtag (subtags l.rest)) × shadow (Utf8 l.rest)

abbrev pub decreases-loop-subtag : goal.decreases-loop-subtag
decreases-loop-subtag l = length l.rest
