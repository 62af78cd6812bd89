-- The keys that are read, and then those of the remaining items, are all keys.
use Rattle.std.proofs.Common.{◌≡◌, ◌++◌, drop}
use Rattle.csvw_fault.specs.declared.fault.Place.{Place}
use Rattle.csvw_meta_core.specs.Pointer.{text_of}
use Rattle.csvw_meta_keys.specs.ForeignKeys.{foreign_key}
use Rattle.csvw_meta_faults_parts.specs.BareKeys.{bare_key}
use Rattle.csvw_meta_faults_parts.proofs.ItemsLemmas.{values_from}
use Rattle.csvw_meta_faults_parts.proofs.seen_keys.each_seen.Given as goal

abbrev pub invariant-loop-i : goal.invariant-loop-i
invariant-loop-i l =
    (place : Place) → l.keys.items ++ values_from bare_key (λ n. foreign_key l.context.profile l.context.base place) (text_of l.part.at) l.i (drop l.i l.items)
    ≡ values_from bare_key (λ n. foreign_key l.context.profile l.context.base place) (text_of l.part.at) 0 l.items
