-- The second of the day is the one of the definition.
use Rattle.std.proofs.Common.{◌∙◌}
use Rattle.csvw_datatype_core.proofs.SpacedLemmas.{no_time_value, time_value_is}
use Rattle.csvw_datatype_core.proofs.ZoneLemmas.{second_limit}
use Rattle.csvw_datatype_core.proofs.time.second_at.Goals as goal

pub returns-in_err-hour-clause-second : goal.returns-in_err-hour-clause-second
returns-in_err-hour-clause-second c = c.from_residual.ensures ∙ no_time_value c.args.format c.args.bytes.now c.in_err-hour.ensures

pub returns-clause-second : goal.returns-clause-second
returns-clause-second c =
    time_value_is c.args.format c.args.bytes.now c.in_ok-hour.hour c.in_ok-hour.minute c.in_ok-hour.second _ c.in_ok-hour.ensures c.second_of_day.ensures

pub returns-clause-limit : goal.returns-clause-limit
returns-clause-limit c =
    second_limit c.in_ok-hour.hour c.in_ok-hour.minute c.in_ok-hour.second c.second_of_day.result c.second_of_day.ensures
