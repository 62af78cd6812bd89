-- A text is one of the texts if their set has it.
use Rattle.std.proofs.Common.{◌∙◌, ap, bytes_eq, List, ℕ}
use Rattle.std.specs.List.{list_any}
use Rattle.csvw_description.proofs.nulls.Nulls.finds.Goals as goal

pub returns-in-Some : goal.returns-in-Some
returns-in-Some c =
    let is_set_of = rw c.in-Some.is at c.self.invariant in
    c.contains.ensures ∙ is_set_of c.args.text.now ∙ ap (list_any (λ (n : List ℕ). bytes_eq n c.args.text.now)) c.self.view_is
