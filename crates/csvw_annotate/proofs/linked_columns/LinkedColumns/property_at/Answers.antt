-- The link that is bound at the place.
use Rattle.std.proofs.Common.{◌<◌, ◌∙◌, ap, arith, length, rules}
use Rattle.std.proofs.lemmas.List.{length-map}
use Rattle.csvw_columns_core.specs.declared.columns.Columns.{Columns}
use Rattle.csvw_annotate.specs.declared.bound_link.Which.TheVariants.{Property}
use Rattle.csvw_annotate.specs.BoundLinks.{bound_links, link_in, link_of_column}
use Rattle.csvw_annotate.proofs.AboutLemmas.{bound_at}
use Rattle.csvw_annotate.proofs.linked_columns.LinkedColumns.property_at.Goals as goal

pub bounds-links-place : goal.bounds-links-place
bounds-links-place g c =
    let is = c.as_slice-links.ensures ∙ c.self.invariant.1 ∙ ap (bound_links Property) c.self.view_is in
    let places = ap length is ∙ length-map c.args.self.now.columns (link_of_column Property c.args.self.now) in
    omega arith

pub offset_bounds-links-place : goal.offset_bounds-links-place
offset_bounds-links-place g c = let below : c.args.place < length c.as_slice-links.result.now = bounds-links-place g c in search rules

pub returns : goal.returns
returns g c =
    let is = c.as_slice-links.ensures ∙ c.self.invariant.1 ∙ ap (bound_links Property) c.self.view_is in
    let values = g.V.Values.values c.args.values.now in
    let link = c.index-links-place.result in
    bound_at Property c.args.self.now c.as_slice-links.result.now values c.args.place link c.in_ok-made.made is c.requires.place c.index-links-place.is
    (c.in_ok-made.ensures ∙ ap (λ (x : Columns). link_in x.url values link) c.self.view_is)
