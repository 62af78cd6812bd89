use Rattle.csvw_datatype_core.specs.declared.date_part.DatePart.TheVariants as parts
use Rattle.csvw_datatype_core.proofs.DayStarts as law
use Rattle.csvw_datatype_core.proofs.part_form.days_at_one_time.Goals as goal

pub returns-clause-month_day : goal.returns-clause-month_day
returns-clause-month_day c = law.days_at_one_time parts.MonthDay tt

pub returns-clause-day : goal.returns-clause-day
returns-clause-day c = law.days_at_one_time parts.Day tt
