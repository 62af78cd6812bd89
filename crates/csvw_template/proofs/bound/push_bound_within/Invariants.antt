use Rattle.std.proofs.Common.{◌≡◌, ◌++◌, take, string_bytes, flat_map}
use Rattle.csvw_template.specs.Bound.{expand_bound_part}
use Rattle.csvw_template.proofs.bound.push_bound_within.Given as goal

abbrev pub invariant-loop-part : goal.invariant-loop-part
invariant-loop-part g l =
    string_bytes l.out ≡ string_bytes l.initial.out ++ flat_map (expand_bound_part (g.V.Values.values l.values)) (take l.part-index l.parts)
