use Rattle.csvw_meta_notes.proofs.FitsLemmas.{annotations_fit, notes_fit}
use Rattle.csvw_meta_notes.proofs.laws.notes_fit.Goals as goal

pub returns : goal.returns
returns c = record { annotations = annotations_fit; notes = notes_fit }
