-- The object is that of the resource without its context, and with an `@id`.
use Rattle.std.proofs.Common.{not, sym, ap, ◌∙◌, codes}
use Rattle.serde_json.specs.Data.{put, string}
use Rattle.serde_json.specs.View.{view, members_view}
use Rattle.csvw_iri.specs.Link.{iri_of}
use Rattle.csvw_bundle.specs.Resources.{without}
use Rattle.csvw_bundle.proofs.ObjectLemmas.{is_found, is_identified, removed, stays}
use Rattle.csvw_bundle.proofs.resource.own_object.Goals as goal
use Rattle.csvw_bundle.proofs.resource.own_object.Goals.{then-is_none+in_ok-identify, else-is_none}

pub returns : goal.returns
returns c =
    let url = iri_of c.args.url.now in
    let d = view c.args.value.now in
    let gone = ap members_view c.remove.ensures.entries ∙ removed (codes "@context") c.in_ok-object.object.entries
    ∙ ap (without (codes "@context")) c.in_ok-object.ensures in
    let found = is_found c.get.result _ c.get.ensures ∙ c.is_none.ensures in
    elim c.if-is_none.branch [
      | then-is_none+in_ok-identify w ↦
          rw w.object-is (w.in_ok-identify.ensures ∙ ap (put (codes "@id") (string url)) gone ∙ sym (is_identified url d _ (found ∙ ap not w.if-is_none.true)))
      | else-is_none w ↦ rw w.object-is (gone ∙ sym (stays url d _ (found ∙ ap not w.if-is_none.false)))
    ]
