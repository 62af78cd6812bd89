-- A fault of each part is reported.
use Rattle.csvw_meta_keys.proofs.ReadLemmas.{fails_first, fails_last}
use Rattle.csvw_meta_keys.proofs.NamingLemmas.{behind, told}
use Rattle.csvw_meta_keys.proofs.naming.check_table.Goals as goal

pub returns-in_err-check_names : goal.returns-in_err-check_names
returns-in_err-check_names c =
    told c.from_residual.result c.in_err-check_names.field-0.0 _ _ c.from_residual.ensures.1
    (fails_first _ _ _ (rw c.as_slice.ensures at c.in_err-check_names.ensures))

pub returns-in_err-check_names-2 : goal.returns-in_err-check_names-2
returns-in_err-check_names-2 c =
    told c.from_residual-in_err-check_names-2.result c.in_err-check_names-2.field-0.0 _ _ c.from_residual-in_err-check_names-2.ensures.1
    (fails_last _ _ _ (fails_first _ _ _ (rw (c.as_slice-2.ensures, c.as_slice-3.ensures) at c.in_err-check_names-2.ensures)))

pub returns : goal.returns
returns c =
    let own = rw c.as_slice.ensures at c.in_ok-check_names.ensures in
    let referred = rw (c.as_slice-2.ensures, c.as_slice-3.ensures) at c.in_ok-check_names-2.ensures in
    behind c.check_sides.result _ _ own (behind c.check_sides.result _ _ referred c.check_sides.ensures)
