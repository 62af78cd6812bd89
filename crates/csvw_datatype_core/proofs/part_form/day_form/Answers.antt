-- The month and the day have two digits, and the offset is at most 14 hours.
use Rattle.csvw_datatype_core.proofs.OneDayText.{can_write}
use Rattle.csvw_datatype_core.proofs.part_form.day_form.Goals as goal

pub day_text-requires-clause-month : goal.day_text-requires-clause-month
day_text-requires-clause-month c = (can_write c.args.part c.args.text.now _ _ _ _ _ c.in-Some.ensures c.shifted-month.ensures).0

pub day_text-requires-clause-day : goal.day_text-requires-clause-day
day_text-requires-clause-day c = (can_write c.args.part c.args.text.now _ _ _ _ _ c.in-Some.ensures c.shifted-month.ensures).1

pub day_text-requires-clause-zone : goal.day_text-requires-clause-zone
day_text-requires-clause-zone c = (can_write c.args.part c.args.text.now _ _ _ _ _ c.in-Some.ensures c.shifted-month.ensures).2
