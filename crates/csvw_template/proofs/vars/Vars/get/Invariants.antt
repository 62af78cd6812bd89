use Rattle.std.proofs.Common.{◌≡◌, drop}
use Rattle.csvw_template.specs.Variables.{lookup}
use Rattle.csvw_template.proofs.vars.Vars.get.Given as goal

abbrev pub invariant-loop-key : goal.invariant-loop-key
invariant-loop-key l = lookup (drop l.key-index l.self-inside.pairs.items) l.name ≡ lookup l.self-inside.pairs.items l.name
