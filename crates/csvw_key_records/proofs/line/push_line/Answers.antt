-- The line of a record is its front and its rest.
use Rattle.std.proofs.Common.{◌++◌, ◌∙◌, ap, append_assoc}
use Rattle.csvw_key_records.specs.Records.{front_of, line_of, tail_of}
use Rattle.csvw_key_records.proofs.line.push_line.Goals as goal

pub returns-clause-ok : goal.returns-clause-ok
unfolding line_of
returns-clause-ok c =
    let r = c.args.record.now in
    c.in_default.ensures.ok ∙ ap (λ xs. xs ++ tail_of r) c.in_ok-push_front.ensures.ok
    ∙ append_assoc c.args.out.now.items (front_of r) (tail_of r)
