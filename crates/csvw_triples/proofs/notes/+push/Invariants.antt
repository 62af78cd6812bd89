-- The triples so far, with those of the annotations that are left, are the triples of all annotations.
use Rattle.std.proofs.Common.{◌≡◌, ◌+◌, ◌++◌, drop}
use Rattle.csvw_triples.specs.Annotations.{annotations}
use Rattle.csvw_triples.specs.Blanks.{blanks}
use Rattle.csvw_triples.specs.NotesTriples.{notes_triples}
use Rattle.csvw_triples.proofs.notes.+push.Given as goal

abbrev pub invariant-push_notes-loop-note : goal.invariant-push_notes-loop-note
invariant-push_notes-loop-note l =
    (l.draft.triples.items ++ notes_triples l.subject l.draft.blanks (annotations (drop l.note-index l.notes))
    ≡ l.initial.draft.triples.items ++ notes_triples l.subject l.initial.draft.blanks (annotations l.notes))
    × (l.draft.blanks + blanks (annotations (drop l.note-index l.notes)) ≡ l.initial.draft.blanks + blanks (annotations l.notes))
