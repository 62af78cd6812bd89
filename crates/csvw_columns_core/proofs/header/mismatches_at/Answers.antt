-- One more column.
use Rattle.std.proofs.Common.{◌∙◌, ◌++◌, ◌∷◌, [], ap, Bool, ℕ}
use Rattle.std.specs.Prelude.{if◌then◌else◌}
use Rattle.csvw_fault.specs.declared.fault.Fault.{Fault}
use Rattle.csvw_fault.specs.declared.fault.Code.TheVariants.{HeaderMismatch}
use Rattle.csvw_columns_core.specs.HeaderFits.{last_source, error_at}
use Rattle.csvw_columns_core.proofs.HeaderLemmas.{one_more}
use Rattle.csvw_columns_core.proofs.header.mismatches_at.Goals as goal

pub loop-i-preserved : goal.loop-i-preserved
loop-i-preserved c =
    let rows = c.args.rows.now in
    let column = c.index-columns-i.result in
    let faults = c.loop-i.faults in
    let f = c.in_ok-fits.field-0 in
    one_more c.args.table (last_source rows) rows c.args.columns.now c.loop-i.i column faults _ c.loop-i-test.true c.index-columns-i.is c.loop-i.invariant
    (c.in_ok-tell_unless.ensures
    ∙ ap (λ (x : Fault). faults ++ (if f then [] else x ∷ [])) c.error_at-mismatch.ensures
    ∙ ap (λ (n : ℕ). faults ++ (if f then [] else error_at c.args.table n column.number HeaderMismatch ∷ [])) c.last_source-source.ensures
    ∙ ap (λ (b : Bool). faults ++ (if b then [] else error_at c.args.table (last_source rows) column.number HeaderMismatch ∷ [])) c.in_ok-fits.ensures)
