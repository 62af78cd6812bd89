use Rattle.std.proofs.Common.{sym, ◌∙◌}
use Rattle.csvw_datatype.proofs.BreaksLemmas.{unbounded}
use Rattle.csvw_datatype.proofs.datatype.Datatype.facets.Goals as goal

pub returns-then-not-has_bounds : goal.returns-then-not-has_bounds
returns-then-not-has_bounds c =
    c.broken_lengths-lengths.ensures
    ∙ unbounded c.args.self.now.simple c.args.value.now c.args.self.now.facets (sym c.has_bounds.ensures ∙ c.if-not-has_bounds.true)
