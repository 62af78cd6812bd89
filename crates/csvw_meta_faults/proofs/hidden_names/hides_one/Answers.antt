-- A fault hides the name of one of the columns, or of one of the remaining ones.
use Rattle.std.proofs.Common.{sym, ◌∙◌}
use Rattle.csvw_meta_faults.proofs.KnownLemmas.{one_done, one_here, one_more}
use Rattle.csvw_meta_faults.proofs.hidden_names.hides_one.Goals as goal

pub returns-then-hidden : goal.returns-then-hidden
returns-then-hidden c =
    one_here c.args.at.now c.args.marks.now.faults.now _ c.args.columns.now c.loop-i.i c.index-columns-i.result c.loop-i-test.true c.index-columns-i.is
    c.loop-i.invariant (sym c.in_ok-hidden.ensures ∙ c.if-hidden.true)

pub loop-i-preserved : goal.loop-i-preserved
loop-i-preserved c =
    one_more c.args.at.now c.args.marks.now.faults.now _ c.args.columns.now c.loop-i.i c.index-columns-i.result c.loop-i-test.true c.index-columns-i.is
    c.loop-i.invariant (sym c.in_ok-hidden.ensures ∙ c.if-hidden.false)

pub returns : goal.returns
returns c = one_done c.args.at.now c.args.marks.now.faults.now _ c.args.columns.now c.loop-i.i c.loop-i-test.false c.loop-i.invariant
