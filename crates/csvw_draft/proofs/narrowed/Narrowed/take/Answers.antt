-- A text that is a value of each datatype leaves them as they are.
use Rattle.std.proofs.Common.{List, ap, sym, ◌∙◌}
use Rattle.std.specs.List.{list_all}
use Rattle.csvw_draft.specs.declared.kind.Kind.{Kind}
use Rattle.csvw_draft.specs.Kinds.{reads}
use Rattle.csvw_draft.proofs.KindLemmas.{all_read}
use Rattle.csvw_draft.proofs.narrowed.Narrowed.take.Goals as goal

pub returns-else-not-branch-clause-kinds : goal.returns-else-not-branch-clause-kinds
returns-else-not-branch-clause-kinds c =
    all_read c.args.self.now.kinds.items c.args.text.now
    (ap (λ (kinds : List Kind). list_all (λ kind. reads kind c.args.text.now) kinds) (sym c.as_slice.ensures.value) ∙ sym c.in_ok-is_read.ensures
    ∙ c.if-not-branch.false)
