-- A name has at most one fault.
use Rattle.serde_json.specs.View.{view}
use Rattle.csvw_meta_core.specs.Pointer.{text_of}
use Rattle.csvw_meta_notes.specs.Names.{name_of}
use Rattle.csvw_meta_faults_core.specs.SoleNotes.{name_of_has_one}
use Rattle.csvw_meta_faults_core.proofs.names.find_name.Goals as goal

pub returns : goal.returns
returns c =
    let at = text_of c.args.part.now.at in
    let d = view c.args.part.now.value.now in
    let name = c.args.name.now in
    c.add_only.ensures (name_of at d name) c.read_name.ensures (name_of_has_one at d name)
