-- The warnings on an object are no faults.
use Rattle.serde_json.specs.View.{view}
use Rattle.csvw_meta_core.specs.declared.others.CommonProperty.TheVariants.{Allowed}
use Rattle.csvw_meta_core.specs.Others.{others}
use Rattle.csvw_meta_core.specs.Pointer.{text_of}
use Rattle.csvw_meta_notes.specs.Annotations.{annotations}
use Rattle.csvw_meta_notes.specs.Unlisted.{unlisted}
use Rattle.csvw_meta_faults_core.specs.NoFaults.{others_none}
use Rattle.csvw_meta_faults_core.proofs.EachLemmas.{none_after}
use Rattle.csvw_meta_faults_core.proofs.annotations.find_unlisted.Goals as goal

pub returns : goal.returns
unfolding unlisted
returns c = λ language names place.
    let at = text_of c.args.part.now.at in
    let d = view c.args.part.now.value.now in
    rw (none_after (annotations c.args.base.now language at d).faults (others names Allowed place at d).faults (others_none names place at d))
    (c.find_annotations.ensures language)
