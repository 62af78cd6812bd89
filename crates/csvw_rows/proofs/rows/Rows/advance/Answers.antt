use Rattle.std.proofs.Common.{◌∙◌}
use Rattle.csvw_rows.proofs.rows.Rows.advance.Goals as goal

pub returns-in-Ok-clause-keeps : goal.returns-in-Ok-clause-keeps
returns-in-Ok-clause-keeps c = (c.in_default.is, c.in-Ok.ensures.stop ∙ c.in_default.is)
