-- The law that blank nodes have the same label only if they are the same.
use Rattle.std.specs.Prelude.{◌≡◌}
use Rattle.csvw_triples_core.specs.declared.origin.Origin.{Origin}
use Rattle.csvw_ntriples.specs.Writable.{IsOrigin}
use Rattle.csvw_ntriples.specs.Written.{label}

-- different origins have different labels
abbrev pub LabelsDiffer : Type 0
LabelsDiffer = (o p : Origin) → IsOrigin o → IsOrigin p → label o ≡ label p → o ≡ p
