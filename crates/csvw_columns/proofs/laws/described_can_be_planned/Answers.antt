-- What is described is fit, and what its keys name exists.
use Rattle.csvw_columns.proofs.DescribedLemmas.{described}
use Rattle.csvw_columns.proofs.laws.described_can_be_planned.Goals as goal

pub returns : goal.returns
returns c = described
