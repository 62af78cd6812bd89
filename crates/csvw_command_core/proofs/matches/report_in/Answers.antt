-- The files of reports.
use Rattle.std.proofs.Common.{refl}
use Rattle.csvw_command_core.proofs.matches.report_in.Goals as goal

pub returns : goal.returns
returns c = record { name_is = refl; files_are = c.in_ok-texts_in.ensures }
