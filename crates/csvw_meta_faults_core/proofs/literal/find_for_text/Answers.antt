-- A language beside a value that is no text is at most one fault.
use Rattle.std.proofs.Common.{codes}
use Rattle.serde_json.specs.Find.{get}
use Rattle.serde_json.specs.View.{view}
use Rattle.csvw_meta_core.specs.Pointer.{text_of}
use Rattle.csvw_meta_notes.specs.Literals.{for_text}
use Rattle.csvw_meta_faults_core.specs.SoleNotes.{for_text_has_one}
use Rattle.csvw_meta_faults_core.proofs.literal.find_for_text.Goals as goal

pub returns : goal.returns
returns c =
    let at = text_of c.args.part.now.at in
    let value = view c.args.value.now in
    let language = get (codes "@language") (view c.args.part.now.value.now) in
    c.add_only.ensures (for_text at value language) c.check_for_text.ensures (for_text_has_one at value language)
