-- A name that no listed code has is that of no code.
use Rattle.csvw_reports.proofs.Names.{found_in_all}
use Rattle.csvw_reports.proofs.code.code_named.Goals as goal

pub returns : goal.returns
returns c = found_in_all c.args.name.now c.find_code.result c.find_code.ensures
