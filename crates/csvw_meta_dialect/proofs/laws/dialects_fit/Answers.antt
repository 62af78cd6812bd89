use Rattle.csvw_meta_dialect.proofs.FitDialect.{dialect_fine}
use Rattle.csvw_meta_dialect.proofs.laws.dialects_fit.Goals as goal

pub returns : goal.returns
returns c = dialect_fine
