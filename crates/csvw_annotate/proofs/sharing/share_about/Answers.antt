-- Equal templates that name no variable of a column.
use Rattle.std.proofs.Common.{◌∙◌, sym, ap}
use Rattle.std.specs.List.{list_any}
use Rattle.csvw_annotate.specs.Sharing.{names_column}
use Rattle.csvw_annotate.proofs.SharingLemmas.{fails, shared}
use Rattle.csvw_annotate.proofs.sharing.share_about.Goals as goal

pub returns-then-is_same : goal.returns-then-is_same
returns-then-is_same c = λ h base columns.
    let one = c.get-one.ensures in
    let other = c.get.ensures in
    let same = sym one ∙ c.is_same.ensures.0 c.if-is_same.true ∙ other in
    let parts = c.parts.ensures ∙ one in
    let none = ap (list_any names_column) (sym parts) ∙ sym c.any_names_column.ensures ∙ fails c.any_names_column.result h in
    shared base columns c.args.one.now c.args.other.now
    c.in-Some-Some.one c.in-Some-Some.other c.in-Some-Some.is-0 c.in-Some-Some.is-1 same none
