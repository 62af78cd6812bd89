-- The draft has the triples of the types passed so far.
use Rattle.std.proofs.Common.{◌≡◌, ◌++◌, map, take}
use Rattle.csvw_triples.specs.NotesTriples.{kind_triple}
use Rattle.csvw_triples.proofs.notes.push_kinds.Given as goal

abbrev pub invariant-loop-kind : goal.invariant-loop-kind
invariant-loop-kind l =
    (l.draft.triples.items ≡ l.initial.draft.triples.items ++ map (kind_triple l.node) (take l.kind-index l.types))
    × (l.draft.blanks ≡ l.initial.draft.blanks)
