-- The text is a value of each datatype so far.
use Rattle.std.proofs.Common.{◌≡◌, true, take}
use Rattle.std.specs.List.{list_all}
use Rattle.csvw_draft.specs.Kinds.{reads}
use Rattle.csvw_draft.proofs.narrowed.is_read.Given as goal

abbrev pub invariant-loop-kind : goal.invariant-loop-kind
invariant-loop-kind l = list_all (λ kind. reads kind l.text) (take l.kind-index l.kinds) ≡ true
