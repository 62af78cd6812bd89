-- By the numbers of the rows after others.
use Rattle.csvw_part_laws.proofs.Numbers.{numbers_go_on}
use Rattle.csvw_part_laws.proofs.laws.numbers_go_on.Goals as goal

pub returns : goal.returns
returns c = numbers_go_on
