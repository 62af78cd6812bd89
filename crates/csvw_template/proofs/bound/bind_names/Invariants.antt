-- The names passed so far are bound.
use Rattle.std.proofs.Common.{◌≡◌, map, take}
use Rattle.csvw_template.proofs.bound.bind_names.Given as goal

abbrev pub invariant-loop-name : goal.invariant-loop-name
invariant-loop-name g l = l.bindings ≡ map (g.N.Names.binding_of l.names) (take l.name-index l.listed)
