use Rattle.std.proofs.Common.{◌≡◌, ◌++◌, take, string_bytes, flat_map}
use Rattle.csvw_template.specs.Expand.{expand_part}
use Rattle.csvw_template.proofs.expand.push_parts.Given as goal

abbrev pub invariant-loop-part : goal.invariant-loop-part
invariant-loop-part g l =
    string_bytes l.out ≡ string_bytes l.initial.out ++ flat_map (expand_part (g.S.Scope.variables l.scope)) (take l.part-index l.parts)
