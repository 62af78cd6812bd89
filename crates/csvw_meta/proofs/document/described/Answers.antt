-- The context has no faults, so it is the one in which the parts are read.
use Rattle.std.proofs.Common.{subst}
use Rattle.serde_json.specs.View.{view}
use Rattle.csvw_meta_core.specs.Pointer.{text_of}
use Rattle.csvw_meta_core.specs.Reads.{Reads}
use Rattle.csvw_meta.specs.Described.{within}
use Rattle.csvw_meta.proofs.UsableLemmas.{reads_described}
use Rattle.csvw_meta.proofs.document.described.Goals as goal

pub returns : goal.returns
returns c =
    let at = text_of c.args.part.now.at in
    let d = view c.args.part.now.value.now in
    reads_described c.args.base.now c.args.profile at d c.in_ok-found.found c.within.result c.in_ok-found.ensures
    (subst (λ x. Reads c.within.result (within x at d)) c.in_profile-context.ensures c.within.ensures)
