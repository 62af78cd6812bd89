-- A language beside a type is at most one fault.
use Rattle.std.proofs.Common.{codes}
use Rattle.serde_json.specs.Find.{get}
use Rattle.serde_json.specs.View.{view}
use Rattle.csvw_meta_core.specs.Pointer.{text_of}
use Rattle.csvw_meta_notes.specs.Literals.{one_of}
use Rattle.csvw_meta_faults_core.specs.SoleNotes.{one_of_has_one}
use Rattle.csvw_meta_faults_core.proofs.literal.find_one.Goals as goal

pub returns : goal.returns
returns c =
    let at = text_of c.args.part.now.at in
    let language = get (codes "@language") (view c.args.part.now.value.now) in
    let type = get (codes "@type") (view c.args.part.now.value.now) in
    c.add_only.ensures (one_of at language type) c.check_one.ensures (one_of_has_one at language type)
