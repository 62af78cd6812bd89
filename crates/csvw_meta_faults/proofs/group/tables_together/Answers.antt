-- The rule doesn't look at what is left out of what is seen of a table.
use Rattle.std.proofs.Common.{◌≡◌, ◌∙◌, IfOk, List, ap, subst}
use Rattle.serde_json.specs.View.{view}
use Rattle.csvw_meta_core.specs.declared.fault.MetaFault.{MetaFault}
use Rattle.csvw_meta_core.specs.Pointer.{text_of}
use Rattle.csvw_meta_core.specs.Several.{several}
use Rattle.csvw_meta.specs.Group.{url_faults}
use Rattle.csvw_meta.specs.Table.{table}
use Rattle.csvw_meta.specs.declared.group.TheConstants.{MAX_TABLES}
use Rattle.csvw_meta_faults.proofs.ColumnsLemmas.{bare_url_faults}
use Rattle.csvw_meta_faults.proofs.group.tables_together.Goals as goal

pub returns : goal.returns
returns c =
    let at = text_of c.args.part.now.at in
    let own = c.args.own.now in
    let all = several 1 MAX_TABLES (table c.args.context.now) at (view c.args.part.now.value.now) in
    subst (λ (fs : List MetaFault). IfOk c.url_faults.result (λ found. found ≡ fs))
    (ap (url_faults at own) c.in_ok-tables.ensures ∙ bare_url_faults at own all.value)
    (rw c.as_slice.ensures at c.url_faults.ensures)
