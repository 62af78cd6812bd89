-- The zone is read first, then the date: a pattern of a format has these parts.
use Rattle.csvw_datatype_core.proofs.ZonedDateLemmas.{never_date, never_zone, spelled}
use Rattle.csvw_datatype_core.proofs.zoned_date.ZonedDateFormat.of.Goals as goal

pub returns-in_err-front-clause-pattern : goal.returns-in_err-front-clause-pattern
returns-in_err-front-clause-pattern c = rw c.from_residual.ensures (never_zone c.args.pattern.now c.in_err-front.ensures)

pub returns-in_err-date_format_of-clause-pattern : goal.returns-in_err-date_format_of-clause-pattern
returns-in_err-date_format_of-clause-pattern c =
    rw c.from_residual-in_err-date_format_of.ensures
    (never_date c.args.pattern.now c.in_ok-front.front.now c.in_ok-front.zone c.in_ok-front.ensures c.in_err-date_format_of.ensures.pattern)

pub returns-clause-pattern : goal.returns-clause-pattern
returns-clause-pattern c =
    spelled c.args.pattern.now c.in_ok-front.front.now c.in_ok-front.zone c.in_ok-date_format_of.field-0 c.in_ok-front.ensures
    c.in_ok-date_format_of.ensures.pattern
