use Rattle.std.proofs.Common.{sym, ◌∙◌}
use Rattle.csvw_datatype_core.proofs.LawfulLemmas.{lawful, unlawful}
use Rattle.csvw_datatype_core.proofs.number.NumberRules.is_lawful.Goals as goal

pub returns-then-are_free : goal.returns-then-are_free
returns-then-are_free c = lawful c.args.self.now c.differ.result (sym c.are_free.ensures ∙ c.if-are_free.true) c.differ.ensures

pub returns-else-are_free : goal.returns-else-are_free
returns-else-are_free c = unlawful c.args.self.now _ (sym c.are_free.ensures ∙ c.if-are_free.false) c.if-are_free.false
