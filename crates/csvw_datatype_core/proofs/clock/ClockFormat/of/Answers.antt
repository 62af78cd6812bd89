-- The zone is read first, then the digits, then the time of day: a pattern of a format has these parts.
use Rattle.std.proofs.Common.{sym, ◌∙◌}
use Rattle.csvw_datatype_core.proofs.ClockFormatLemmas.{never_clock, never_fraction, never_time, never_zone}
use Rattle.csvw_datatype_core.proofs.StampFormatLemmas.{spelled_front}
use Rattle.csvw_datatype_core.specs.Times.{time_pattern}
use Rattle.csvw_datatype_core.proofs.clock.ClockFormat.of.Goals as goal

pub returns-in_err-front-clause-pattern : goal.returns-in_err-front-clause-pattern
returns-in_err-front-clause-pattern c = rw c.from_residual.ensures (never_zone c.args.pattern.now c.in_err-front.ensures)

pub returns-in_err-front-2-clause-pattern : goal.returns-in_err-front-2-clause-pattern
returns-in_err-front-2-clause-pattern c =
    rw c.from_residual-in_err-front-2.ensures
    (never_fraction c.args.pattern.now c.in_ok-front.front.now c.in_ok-front.zone c.in_ok-front.ensures c.in_err-front-2.ensures)

pub returns-in_err-time_format_of-clause-pattern : goal.returns-in_err-time_format_of-clause-pattern
returns-in_err-time_format_of-clause-pattern c =
    rw c.from_residual-in_err-time_format_of.ensures
    (never_time c.args.pattern.now c.in_ok-front.front.now c.in_ok-front-2.front.now c.in_ok-front.zone c.in_ok-front-2.digits
    c.in_ok-front.ensures c.in_ok-front-2.ensures c.in_err-time_format_of.ensures.pattern)

pub returns-then-is_clock_pattern-clause-pattern : goal.returns-then-is_clock_pattern-clause-pattern
returns-then-is_clock_pattern-clause-pattern c = (
  sym c.is_clock_pattern.ensures ∙ c.if-is_clock_pattern.true,
  spelled_front c.args.pattern.now c.in_ok-front.front.now c.in_ok-front-2.front.now (time_pattern c.in_ok-time_format_of.field-0) c.in_ok-front.zone
      c.in_ok-front-2.digits c.in_ok-front.ensures c.in_ok-front-2.ensures c.in_ok-time_format_of.ensures.pattern,
)

pub returns-else-is_clock_pattern-clause-pattern : goal.returns-else-is_clock_pattern-clause-pattern
returns-else-is_clock_pattern-clause-pattern c =
    never_clock c.args.pattern.now c.in_ok-front.front.now c.in_ok-front-2.front.now c.in_ok-front.zone c.in_ok-front-2.digits c.in_ok-time_format_of.field-0
    c.in_ok-front.ensures c.in_ok-front-2.ensures c.in_ok-time_format_of.ensures.pattern (sym c.is_clock_pattern.ensures ∙ c.if-is_clock_pattern.false)
