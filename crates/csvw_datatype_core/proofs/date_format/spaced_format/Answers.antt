-- The text before the space is the pattern of the date, and the text after it that of the time of day.
use Rattle.std.proofs.Common.{◌∷◌, ◌++◌, ap, sym, ◌∙◌}
use Rattle.csvw_datatype_core.specs.DatePatterns.{date_pattern}
use Rattle.csvw_datatype_core.proofs.SpacedLemmas.{spelled_at}
use Rattle.csvw_datatype_core.proofs.date_format.spaced_format.Goals as goal

pub returns : goal.returns
returns c =
    let date = c.in_ok-date.date.now in
    let time = c.in_ok-date.time.now in
    spelled_at c.args.pattern.now date time (sym c.in_ok-date.ensures) ∙ ap (λ t. t ++ (32 ∷ time)) c.in_ok-of.ensures
    ∙ ap (λ t. date_pattern c.in_ok-of.field-0 ++ (32 ∷ t)) c.in_ok-of-2.ensures
