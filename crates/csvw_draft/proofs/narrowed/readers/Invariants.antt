-- What is found are the datatypes so far of which the text is a value.
use Rattle.std.proofs.Common.{◌≡◌, take}
use Rattle.csvw_draft.specs.Kinds.{readers}
use Rattle.csvw_draft.proofs.narrowed.readers.Given as goal

abbrev pub invariant-loop-kind : goal.invariant-loop-kind
invariant-loop-kind l = l.found.items ≡ readers (take l.kind-index l.kinds) l.text
