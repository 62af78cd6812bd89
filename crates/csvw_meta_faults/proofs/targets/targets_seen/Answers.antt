-- One more table is seen.
use Rattle.std.proofs.Common.{codes, is_some}
use Rattle.serde_json.specs.Find.{get}
use Rattle.serde_json.specs.View.{view}
use Rattle.csvw_meta_core.specs.Pointer.{text_of}
use Rattle.csvw_meta.specs.References.{table_at}
use Rattle.csvw_meta_faults.proofs.TargetsLemmas.{targets_more}
use Rattle.csvw_meta_faults.proofs.targets.targets_seen.Goals as goal

pub loop-i-preserved : goal.loop-i-preserved
loop-i-preserved c =
    rw c.in_ok-push.ensures.items
    (targets_more (table_at (is_some (get (codes "tables") (view c.args.part.now.value.now))) (text_of c.args.part.now.at))
    c.args.group.now.at.now c.args.group.now.keys.now c.args.group.now.marks.now.faults.now
    c.args.tables.now _ c.loop-i.targets.items c.loop-i.i c.index-tables-i.result c.in_ok-target.target c.loop-i-test.true c.index-tables-i.is
    c.loop-i.invariant c.in_ok-target.ensures)
