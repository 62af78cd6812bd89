-- The faults are added one list after the other.
use Rattle.std.proofs.Common.{◌++◌, ◌∙◌, ap, append_assoc}
use Rattle.csvw_meta_faults.proofs.add_both.add_both.Goals as goal

pub returns : goal.returns
returns c =
    c.in_ok-append-2.ensures.items
    ∙ (ap (λ fs. fs ++ c.args.together.items) c.in_ok-append.ensures.items
    ∙ append_assoc c.args.faults.now.items c.args.own.items c.args.together.items)
