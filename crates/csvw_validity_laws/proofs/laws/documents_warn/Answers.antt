use Rattle.csvw_validity_laws.proofs.WarningsDocument.{documents_warn}
use Rattle.csvw_validity_laws.proofs.laws.documents_warn.Goals as goal

pub returns : goal.returns
returns c = documents_warn
