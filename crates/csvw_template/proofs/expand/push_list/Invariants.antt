use Rattle.std.proofs.Common.{◌≡◌, ◌++◌, take, string_bytes, flat_map}
use Rattle.csvw_template.specs.Name.{after_comma}
use Rattle.csvw_template.specs.Expand.{encoded}
use Rattle.csvw_template.proofs.expand.push_list.Given as goal

abbrev pub invariant-loop-item : goal.invariant-loop-item
invariant-loop-item l =
    string_bytes l.out ≡ string_bytes l.initial.out ++ flat_map (λ item. after_comma (encoded l.operator item)) (take l.item-index l.others)
