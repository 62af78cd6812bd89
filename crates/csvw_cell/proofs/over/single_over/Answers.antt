-- A text that isn't null is judged.
use Rattle.std.proofs.Common.{◌≡◌, ◌∙◌, false, sym}
use Rattle.csvw_cell.specs.CellOf.{is_null}
use Rattle.csvw_cell.proofs.OverLemmas.{single_judged}
use Rattle.csvw_cell.proofs.over.single_over.Goals as goal

pub returns : goal.returns
returns c =
    let p = c.args.properties.now in
    let text = c.args.text.now in
    let apart : is_null p.null text ≡ false = sym c.is_null.ensures ∙ c.if-is_null.false in
    single_judged c.judge_over.result p c.get.result.now text c.judge_over.new.value c.judge_over.new.faults apart c.get.ensures c.judge_over.ensures
