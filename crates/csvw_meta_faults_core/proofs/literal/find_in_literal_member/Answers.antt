-- A member has at most one fault.
use Rattle.serde_json.specs.View.{view}
use Rattle.csvw_meta_core.specs.Pointer.{text_of}
use Rattle.csvw_meta_notes.specs.Members.{literal_member}
use Rattle.csvw_meta_faults_core.specs.SoleNotes.{literal_member_has_one}
use Rattle.csvw_meta_faults_core.proofs.literal.find_in_literal_member.Goals as goal

pub returns : goal.returns
returns c =
    let at = text_of c.args.part.now.at in
    let name = c.args.name.now in
    let d = view c.args.value.now in
    c.add_only.ensures (literal_member at name d) c.check_literal_member.ensures (literal_member_has_one at name d)
