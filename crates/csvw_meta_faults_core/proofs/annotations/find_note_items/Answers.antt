-- The notes of an array have the predicate csvw:note.
use Rattle.std.proofs.Common.{ap, ◌∙◌}
use Rattle.serde_json.proofs.Views.{view-Array}
use Rattle.serde_json.specs.View.{view}
use Rattle.csvw_meta_notes.specs.Vocabulary.{csvw_note}
use Rattle.csvw_meta_faults_core.proofs.annotations.find_note_items.Goals as goal

pub returns-in-Array : goal.returns-in-Array
returns-in-Array c = λ language.
    rw (ap view c.in-Array.is ∙ view-Array c.in-Array.items) (rw c.as_slice.ensures.value at c.find_items.ensures language csvw_note)
