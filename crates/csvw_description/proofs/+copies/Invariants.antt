-- The annotations passed so far are copied.
use Rattle.std.proofs.Common.{◌≡◌, take}
use Rattle.csvw_description.proofs.+copies.Given as goal

abbrev pub invariant-copies::copies-loop-note : goal.invariant-copies::copies-loop-note
invariant-copies::copies-loop-note l = l.copies.items ≡ take l.note-index l.notes
