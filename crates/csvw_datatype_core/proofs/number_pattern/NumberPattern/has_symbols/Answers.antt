-- After all characters nothing is left of the pattern exactly if the text is it.
use Rattle.std.proofs.Common.{◌≡◌, sym, ap, ◌∙◌, map, map-id, append-nil, [], Some}
use Rattle.std.proofs.lemmas.Iterator.{YieldsList-from_chars}
use Rattle.std.proofs.lemmas.Iterator.Consumers.{YieldsList-end}
use Rattle.std.specs.Str.{chars}
use Rattle.csvw_datatype_core.specs.declared.number_pattern.Left.TheVariants as lefts
use Rattle.csvw_datatype_core.specs.NumberPatterns.{as_symbol, is_left, unsigned}
use Rattle.csvw_datatype_core.proofs.number_pattern.NumberPattern.has_symbols.Goals as goal

pub returns : goal.returns
returns c =
    let end = YieldsList-end (YieldsList-from_chars c.unsigned.result.now c.unsigned.utf8 cc) c.loop-c.yielded _ c.loop-c.yielded_by _ _ c.in-None.is
    c.next.ensures.steps in
    let all : c.loop-c.yielded ≡ unsigned (chars c.args.text.now) = sym (map-id c.loop-c.yielded) ∙ end.0 ∙ c.unsigned.ensures in
    c.is_over.ensures ∙ c.loop-c.invariant []
    ∙ ap (λ cs. is_left c.args.rules.now c.args.self.now (Some (lefts.Whole c.args.whole)) (map as_symbol cs)) (append-nil _ ∙ all)
