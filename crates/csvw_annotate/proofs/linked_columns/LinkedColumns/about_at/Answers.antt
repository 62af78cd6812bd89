-- Its own about link, or that of the column before.
use Rattle.std.proofs.Common.{◌<◌, ◌∙◌, ap, arith, length, rules}
use Rattle.csvw_columns_core.specs.declared.columns.Columns.{Columns}
use Rattle.csvw_annotate.specs.declared.bound_link.BoundLink.TheVariants.{Same}
use Rattle.csvw_annotate.specs.declared.bound_link.Which.TheVariants.{About}
use Rattle.csvw_annotate.specs.BoundLinks.{bound_links, link_in, told_abouts}
use Rattle.csvw_annotate.specs.Links.{no_link}
use Rattle.csvw_annotate.proofs.AboutLemmas.{about_places, before_at, own_at}
use Rattle.csvw_annotate.proofs.linked_columns.LinkedColumns.about_at.Goals as goal

pub bounds-abouts-place : goal.bounds-abouts-place
bounds-abouts-place g c =
    let told = ap (told_abouts (Same no_link)) c.as_slice-abouts.ensures ∙ c.self.invariant.0 ∙ ap (bound_links About) c.self.view_is in
    let places = about_places c.args.self.now c.as_slice-abouts.result.now told in
    omega arith

pub offset_bounds-abouts-place : goal.offset_bounds-abouts-place
offset_bounds-abouts-place g c = let below : c.args.place < length c.as_slice-abouts.result.now = bounds-abouts-place g c in search rules

pub returns-in-AsBefore : goal.returns-in-AsBefore
returns-in-AsBefore g c =
    let told = ap (told_abouts (Same no_link)) c.as_slice-abouts.ensures ∙ c.self.invariant.0 ∙ ap (bound_links About) c.self.view_is in
    before_at c.args.self.now c.as_slice-abouts.result.now told (g.V.Values.values c.args.values.now) c.args.place c.index-abouts-place.result c.args.before
    c.requires.place c.index-abouts-place.is c.in-AsBefore.is c.requires.before

pub returns-in_ok-made-in-Own : goal.returns-in_ok-made-in-Own
returns-in_ok-made-in-Own g c =
    let told = ap (told_abouts (Same no_link)) c.as_slice-abouts.ensures ∙ c.self.invariant.0 ∙ ap (bound_links About) c.self.view_is in
    let values = g.V.Values.values c.args.values.now in
    own_at c.args.self.now c.as_slice-abouts.result.now told values c.args.place c.in-Own.link c.index-abouts-place.result c.in_ok-made-in-Own.made
    c.requires.place c.index-abouts-place.is c.in-Own.is (c.in_ok-made-in-Own.ensures ∙ ap (λ (x : Columns). link_in x.url values c.in-Own.link) c.self.view_is)
