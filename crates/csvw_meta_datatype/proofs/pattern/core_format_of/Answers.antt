-- A pattern with a `T` is one in both profiles, and a pattern with a space isn't one in the profile core.
use Rattle.std.proofs.Common.{ap, ◌∙◌}
use Rattle.csvw_datatype_core.specs.DatePatterns.{moment_pattern}
use Rattle.csvw_meta_datatype.proofs.PatternLemmas.{core_minutes, core_seconds, no_core_format, no_core_moment}
use Rattle.csvw_meta_datatype.proofs.pattern.core_format_of.Goals as goal

pub returns-in_err-of : goal.returns-in_err-of
returns-in_err-of c = c.from_residual.ensures ∙ no_core_format c.args.pattern.now c.in_err-of.ensures

pub returns-in-Seconds : goal.returns-in-Seconds
returns-in-Seconds c = core_seconds c.args.pattern.now (c.in_ok-of.ensures ∙ ap moment_pattern c.in-Seconds.is)

pub returns-in-Minutes : goal.returns-in-Minutes
returns-in-Minutes c = core_minutes c.args.pattern.now (c.in_ok-of.ensures ∙ ap moment_pattern c.in-Minutes.is)

pub returns-in-Spaced : goal.returns-in-Spaced
returns-in-Spaced c =
    no_core_moment c.args.pattern.now c.in-Spaced.field-0 c.in-Spaced.field-1 (c.in_ok-of.ensures ∙ ap moment_pattern c.in-Spaced.is)
