-- What is found so far, and then what is left, is the whole.
use Rattle.std.proofs.Common.{◌≡◌, ◌++◌, codes, drop, is_some, map}
use Rattle.serde_json.specs.Find.{get}
use Rattle.serde_json.specs.View.{view}
use Rattle.csvw_meta_core.specs.Pointer.{text_of}
use Rattle.csvw_meta.specs.References.{table_at}
use Rattle.csvw_meta_faults.specs.Seen.{as_table}
use Rattle.csvw_meta_faults.specs.Targets.{seen_targets}
use Rattle.csvw_meta_faults.proofs.targets.targets_seen.Given as goal

abbrev pub invariant-loop-i : goal.invariant-loop-i
invariant-loop-i l =
    l.targets.items
    ++ seen_targets (table_at (is_some (get (codes "tables") (view l.part.value.now))) (text_of l.part.at)) l.group.at.now l.group.keys.now
    l.group.marks.now.faults.now l.i (map as_table (drop l.i l.tables))
    ≡ seen_targets (table_at (is_some (get (codes "tables") (view l.part.value.now))) (text_of l.part.at)) l.group.at.now l.group.keys.now
    l.group.marks.now.faults.now 0 (map as_table l.tables)
