-- Without templates there are no links.
use Rattle.std.proofs.Common.{◌∙◌, sym}
use Rattle.csvw_annotate.specs.Linked.{values_of}
use Rattle.csvw_annotate.proofs.Unlinked.{unlinked}
use Rattle.csvw_annotate.proofs.linking.link_row.Goals as goal

pub returns-else-any_has_template : goal.returns-else-any_has_template
returns-else-any_has_template c =
    let none = sym c.any_has_template.ensures ∙ c.if-any_has_template.false in
    sym (unlinked c.args.columns.now c.args.row
    (values_of c.args.cells.now) c.args.columns.now.columns c.args.cells.now c.requires.places none c.requires.plain)
