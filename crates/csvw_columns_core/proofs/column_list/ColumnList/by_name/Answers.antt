-- The column at the place of the name.
use Rattle.std.proofs.Common.{◌∙◌, ap, slice_get, sym}
use Rattle.std.specs.Option.{option_copied}
use Rattle.csvw_columns_core.specs.ByName.{place_of}
use Rattle.csvw_columns_core.proofs.PlaceLemmas.{at_place, lent_at, no_place}
use Rattle.csvw_columns_core.proofs.column_list.ColumnList.by_name.Goals as goal

pub returns-in_err-place : goal.returns-in_err-place
returns-in_err-place c =
    let name = c.args.name.now in
    let none = sym (ap (λ cs. place_of cs name) c.self.view_is) ∙ sym (c.self.invariant name) ∙ sym c.in_err-place.ensures.value in
    ap option_copied c.from_residual.ensures ∙ sym (no_place c.args.self.now name none)

pub returns : goal.returns
returns c =
    let name = c.args.name.now in
    let at = sym (ap (λ cs. place_of cs name) c.self.view_is) ∙ sym (c.self.invariant name) ∙ sym c.in_ok-place.ensures.value in
    lent_at c.as_slice.result.now c.in_ok-place.place.now c.get-2.result c.get-2.ensures.lookup ∙ ap (λ cs. slice_get cs c.in_ok-place.place.now)
    (c.as_slice.ensures ∙ c.self.view_is)
    ∙ sym (at_place c.args.self.now name c.in_ok-place.place.now at)
