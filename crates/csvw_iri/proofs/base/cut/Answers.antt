use Rattle.csvw_iri.proofs.LinkLemmas.{with_tail-same}
use Rattle.csvw_iri.proofs.base.cut.Goals as goal

pub returns-in-Ok : goal.returns-in-Ok
returns-in-Ok c = let e = with_tail-same c.args.url c.fragment.ensures.valid in record { value = cc (c.in-Ok.ensures.0, e) }
