-- The parts passed so far are bound.
use Rattle.std.proofs.Common.{◌≡◌, map, take}
use Rattle.csvw_template.specs.Bound.{bound_part}
use Rattle.csvw_template.proofs.bound.bind_parts.Given as goal

abbrev pub invariant-loop-part : goal.invariant-loop-part
invariant-loop-part g l = l.bound ≡ map (bound_part (g.N.Names.binding_of l.names)) (take l.part-index l.parts)
