-- What is found so far, and then what is left, is the whole.
use Rattle.std.proofs.Common.{◌≡◌, ◌++◌, drop}
use Rattle.csvw_meta_core.specs.Pointer.{text_of}
use Rattle.csvw_meta_core.specs.Kinds.{text}
use Rattle.csvw_meta_faults.proofs.ItemsLemmas.{values_from}
use Rattle.csvw_meta_faults.proofs.seen_titles.each_text.Given as goal

abbrev pub invariant-loop-i : goal.invariant-loop-i
invariant-loop-i l =
    l.texts.items ++ values_from (λ t. t) (λ n. text) (text_of l.part.at) l.i (drop l.i l.items)
    ≡ values_from (λ t. t) (λ n. text) (text_of l.part.at) 0 l.items
