-- The run of label characters without the dots at its end.
use Rattle.csvw_ntriples.proofs.LabelRuns.{parts_of, label_there, label_not_there}
use Rattle.csvw_ntriples.proofs.reading.label.label.Goals as goal

pub returns-then-not-begins_label : goal.returns-then-not-begins_label
returns-then-not-begins_label c =
    let w = c.length_without_dots.ensures in
    let n = c.length_without_dots.result in
    let p = parts_of c.args.text.now c.run.result.0.now c.run.result.1.now n c.run.ensures w in
    label_not_there c.args.text.now w.0 w.1 c.run.result.1.now c.split_at.result.0.now c.split_at.result.1.now n p w.3 c.split_at.ensures.front
    c.split_at.ensures.back
    (λ begins. let yes = c.begins_label.ensures.1 begins in let no = c.if-not-begins_label.true in cc)

pub returns-in-Ok : goal.returns-in-Ok
returns-in-Ok c =
    let w = c.length_without_dots.ensures in
    let n = c.length_without_dots.result in
    let p = parts_of c.args.text.now c.run.result.0.now c.run.result.1.now n c.run.ensures w in
    label_there c.args.text.now w.0 w.1 c.run.result.1.now c.split_at.result.0.now c.split_at.result.1.now c.in-Ok.label n p w.3
    c.split_at.ensures.front c.split_at.ensures.back
    (c.begins_label.ensures.0 c.if-not-begins_label.false) c.in-Ok.ensures
