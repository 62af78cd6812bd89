-- The URL has no faults.
use Rattle.std.proofs.Common.{[], subst}
use Rattle.csvw_meta_core.specs.declared.profile.Profile.TheVariants.{Core}
use Rattle.csvw_meta_core.specs.Reads.{Reads}
use Rattle.csvw_meta.specs.Described.{described}
use Rattle.csvw_meta.specs.Document.{judged}
use Rattle.csvw_meta.specs.Group.{no_group}
use Rattle.csvw_meta.specs.UrlAlone.{own_base, plain_document}
use Rattle.csvw_meta.proofs.OverLemmas.{reads_over}
use Rattle.csvw_meta.proofs.url_alone.plain_description.Goals as goal

pub returns : goal.returns
unfolding judged
returns c =
    let url = c.args.url.now in
    let base = c.in_ok-base.base in
    reads_over no_group (λ b. described Core b [] (plain_document url)) c.described.result (own_base [] url) base c.in_ok-base.ensures
    (subst (λ v. Reads c.described.result (described Core base [] v)) c.in_ok-document.ensures c.described.ensures)
