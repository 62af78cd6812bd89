use Rattle.std.proofs.Common.{sym, ◌∙◌}
use Rattle.csvw_datatype.proofs.BreaksLemmas.{unmeasured}
use Rattle.csvw_datatype.proofs.facets.broken_lengths.Goals as goal

pub returns-then-not-has_lengths : goal.returns-then-not-has_lengths
returns-then-not-has_lengths c = unmeasured c.args.simple c.args.value.now c.args.facets.now (sym c.has_lengths.ensures ∙ c.if-not-has_lengths.true)
