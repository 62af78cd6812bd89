use Rattle.csvw_datatype_core.proofs.number.one_number.Goals as goal
use Rattle.csvw_datatype_core.proofs.OneValue as law

pub returns : goal.returns
returns c = λ rules cs y z l. law.one_number rules l cs y z
