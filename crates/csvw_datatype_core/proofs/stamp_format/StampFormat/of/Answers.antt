-- The zone is read first, then the digits, then the moment: a pattern of a format has these parts.
use Rattle.std.proofs.Common.{sym, ◌∙◌}
use Rattle.csvw_datatype_core.proofs.StampFormatLemmas.{never_fraction, never_moment, never_stamp, never_zone, spelled}
use Rattle.csvw_datatype_core.proofs.stamp_format.StampFormat.of.Goals as goal

pub returns-in_err-front-clause-pattern : goal.returns-in_err-front-clause-pattern
returns-in_err-front-clause-pattern c = rw c.from_residual.ensures (never_zone c.args.pattern.now c.in_err-front.ensures)

pub returns-in_err-front-2-clause-pattern : goal.returns-in_err-front-2-clause-pattern
returns-in_err-front-2-clause-pattern c =
    rw c.from_residual-in_err-front-2.ensures
    (never_fraction c.args.pattern.now c.in_ok-front.front.now c.in_ok-front.zone c.in_ok-front.ensures c.in_err-front-2.ensures)

pub returns-in_err-moment_format_of-clause-pattern : goal.returns-in_err-moment_format_of-clause-pattern
returns-in_err-moment_format_of-clause-pattern c =
    rw c.from_residual-in_err-moment_format_of.ensures
    (never_moment c.args.pattern.now c.in_ok-front.front.now c.in_ok-front-2.front.now c.in_ok-front.zone c.in_ok-front-2.digits
    c.in_ok-front.ensures c.in_ok-front-2.ensures c.in_err-moment_format_of.ensures.pattern)

pub returns-then-is_stamp-clause-pattern : goal.returns-then-is_stamp-clause-pattern
returns-then-is_stamp-clause-pattern c = (
  sym c.is_stamp.ensures ∙ c.if-is_stamp.true,
  spelled c.args.pattern.now c.in_ok-front.front.now c.in_ok-front-2.front.now c.in_ok-front.zone c.in_ok-front-2.digits c.in_ok-moment_format_of.field-0
      c.in_ok-front.ensures c.in_ok-front-2.ensures c.in_ok-moment_format_of.ensures.pattern,
)

pub returns-else-is_stamp-clause-pattern : goal.returns-else-is_stamp-clause-pattern
returns-else-is_stamp-clause-pattern c =
    never_stamp c.args.pattern.now c.in_ok-front.front.now c.in_ok-front-2.front.now c.in_ok-front.zone c.in_ok-front-2.digits c.in_ok-moment_format_of.field-0
    c.in_ok-front.ensures c.in_ok-front-2.ensures c.in_ok-moment_format_of.ensures.pattern (sym c.is_stamp.ensures ∙ c.if-is_stamp.false)
