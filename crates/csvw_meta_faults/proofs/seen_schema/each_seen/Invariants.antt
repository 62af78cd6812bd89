-- What is found so far, and then what is left, is the whole.
use Rattle.std.proofs.Common.{◌≡◌, ◌++◌, ℕ, drop}
use Rattle.csvw_meta_core.specs.Pointer.{text_of}
use Rattle.csvw_meta.specs.Column.{column}
use Rattle.csvw_meta_faults.specs.Seen.{bare_column}
use Rattle.csvw_meta_faults.proofs.ItemsLemmas.{values_from}
use Rattle.csvw_meta_faults.proofs.seen_schema.each_seen.Given as goal

abbrev pub invariant-loop-i : goal.invariant-loop-i
invariant-loop-i l =
    (table : ℕ) → l.columns.items ++ values_from bare_column (column l.context table) (text_of l.part.at) l.i (drop l.i l.items)
    ≡ values_from bare_column (column l.context table) (text_of l.part.at) 0 l.items
