-- The bytes after the last line feed are a line without an end.
use Rattle.std.proofs.Common.{◌∙◌, sym, subst}
use Rattle.csvw_key_records.specs.declared.stop.KeyStop.TheVariants as stop
use Rattle.csvw_key_records.specs.declared.stop.LineFault.TheVariants as fault
use Rattle.csvw_key_records.specs.Runs.{EndsWrong, Halts, next}
use Rattle.csvw_key_records.proofs.Empty.{not_empty}
use Rattle.csvw_key_records.proofs.Feeding.{rests_wrong}
use Rattle.csvw_key_records.proofs.feed.KeyFeed.end.Goals as goal

pub returns-else-is_empty-clause-stop : goal.returns-else-is_empty-clause-stop
returns-else-is_empty-clause-stop c =
    subst (EndsWrong c.args.self.now) (sym c.wrong.ensures) (λ text s fed.
    subst (λ t. Halts t s (stop.Line (next c.args.self.now.run.lines) fault.Cut)) (sym fed.is_text)
    (rests_wrong c.args.self.now.run fed.front c.args.self.now.unread.items s fault.Cut fed.runs
    (λ records. (λ none. not_empty c.as_slice.result.now c.is_empty.result c.is_empty.ensures c.if-is_empty.false (c.as_slice.ensures.value ∙ none), fed.no_end))))
