use Rattle.std.proofs.Common.{sym, ap, ◌∙◌, map-id, [], ◌∷◌}
use Rattle.std.proofs.lemmas.Iterator.{YieldsList-from_chars}
use Rattle.std.proofs.lemmas.Iterator.Consumers.{YieldsList-end}
use Rattle.csvw_datatype_core.specs.Step.{begun, run, step}
use Rattle.csvw_datatype_core.proofs.ScanLemmas.{run-append}
use Rattle.csvw_datatype_core.proofs.number.scan_text.Goals as goal

pub loop-c-preserved : goal.loop-c-preserved
loop-c-preserved c = (
  c.step-scan.ensures.value ∙ ap (λ s. step c.args.rules.now s c.in-Some.c) c.loop-c.invariant.0
      ∙ sym (run-append c.args.rules.now begun c.loop-c.yielded (c.in-Some.c ∷ [])),
  c.step-scan.ensures.small,
)

pub returns-clause-value : goal.returns-clause-value
returns-clause-value c =
    let end = YieldsList-end (YieldsList-from_chars c.args.text.now c.utf8.text cc) c.loop-c.yielded _ c.loop-c.yielded_by _ _ c.in-None.is
    c.next.ensures.steps in
    c.loop-c.invariant.0 ∙ ap (run c.args.rules.now begun) (sym (map-id c.loop-c.yielded) ∙ end.0)
