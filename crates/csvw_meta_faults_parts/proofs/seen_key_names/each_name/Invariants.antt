-- The names that are read, and then those of the remaining items, are all names.
use Rattle.std.proofs.Common.{◌≡◌, ◌++◌, drop}
use Rattle.csvw_meta_core.specs.Pointer.{text_of}
use Rattle.csvw_meta_keys.specs.ColumnNames.{key_name}
use Rattle.csvw_meta_faults_parts.proofs.ItemsLemmas.{values_from}
use Rattle.csvw_meta_faults_parts.proofs.seen_key_names.each_name.Given as goal

abbrev pub invariant-loop-i : goal.invariant-loop-i
invariant-loop-i l =
    l.names.items ++ values_from (λ k. k) (λ n. key_name) (text_of l.part.at) l.i (drop l.i l.items)
    ≡ values_from (λ k. k) (λ n. key_name) (text_of l.part.at) 0 l.items
