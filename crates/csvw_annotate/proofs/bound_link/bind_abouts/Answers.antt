-- One more about link.
use Rattle.std.proofs.Common.{◌∙◌, ap, arith}
use Rattle.csvw_annotate.specs.declared.bound_link.BoundLink.TheVariants.{Same}
use Rattle.csvw_annotate.specs.BoundLinks.{told_abouts}
use Rattle.csvw_annotate.specs.Links.{no_link}
use Rattle.csvw_annotate.proofs.AboutLemmas.{about_more}
use Rattle.csvw_annotate.proofs.bound_link.bind_abouts.Goals as goal

pub loop-i-preserved : goal.loop-i-preserved
loop-i-preserved c =
    ap (told_abouts (Same no_link)) c.in_ok-push.ensures.ok
    ∙ about_more c.args.columns.now c.loop-i.links _ c.loop-i.i (omega arith) c.loop-i.invariant c.in_ok-bind_about.ensures
