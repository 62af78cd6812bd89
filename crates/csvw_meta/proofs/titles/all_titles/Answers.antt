use Rattle.std.proofs.Common.{sym, ap, ◌∙◌, string_bytes}
use Rattle.std.proofs.lemmas.Result.{err_from_is_err_and}
use Rattle.serde_json.specs.View.{view, members_view}
use Rattle.csvw_meta_core.specs.Pointer.{text_of}
use Rattle.csvw_meta.specs.Titles.{sorted}
use Rattle.csvw_meta.proofs.TitlesLemmas.{with_fronts, ends}
use Rattle.csvw_meta.proofs.titles.all_titles.Goals as goal

pub returns-in_err-titles : goal.returns-in_err-titles
returns-in_err-titles c =
    let p = err_from_is_err_and c.from_residual.result c.from_residual.ensures.1 in
    let at = text_of c.args.part.now.at in
    let all = sym (ap (λ es. with_fronts c.loop-key.first.items c.loop-key.others.items (sorted c.args.language.now at (members_view es)))
    c.in-Some.ensures.steps)
    ∙ c.loop-key.invariant in
    rw (p.1, p.2)
    (ends c.args.language.now at (string_bytes c.in-Some.key.now) (view c.in-Some.value.now) (members_view c.next.new.self)
    c.loop-key.first.items c.loop-key.others.items _ all c.in_err-titles.field-0.0 (rw c.as_str.ensures.value at c.in_err-titles.ensures))
