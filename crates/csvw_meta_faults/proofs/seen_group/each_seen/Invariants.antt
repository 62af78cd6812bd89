-- What is found so far, and then what is left, is the whole.
use Rattle.std.proofs.Common.{◌≡◌, ◌++◌, drop, map}
use Rattle.csvw_meta_core.specs.Pointer.{text_of}
use Rattle.csvw_meta.specs.Table.{table}
use Rattle.csvw_meta_faults.specs.Seen.{as_table, bare_table}
use Rattle.csvw_meta_faults.proofs.ItemsLemmas.{values_from}
use Rattle.csvw_meta_faults.proofs.seen_group.each_seen.Given as goal

abbrev pub invariant-loop-i : goal.invariant-loop-i
invariant-loop-i l =
    map as_table l.tables.items ++ values_from bare_table (table l.context) (text_of l.part.at) l.i (drop l.i l.items)
    ≡ values_from bare_table (table l.context) (text_of l.part.at) 0 l.items
