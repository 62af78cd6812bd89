-- Past spaces and tabs, `_:` and the label.
use Rattle.csvw_ntriples.proofs.LabelRuns.{blank_found, blank_missing}
use Rattle.csvw_ntriples.proofs.reading.label.blank.Goals as goal

pub returns-in-Some : goal.returns-in-Some
returns-in-Some c =
    let r = c.after_blanks.ensures in
    blank_found c.args.text.now r.0 c.after_blanks.result.now c.in-Some.after.now c.label.result r.1 c.in-Some.ensures c.label.ensures

pub returns-in-None : goal.returns-in-None
returns-in-None c =
    let r = c.after_blanks.ensures in
    blank_missing c.args.text.now r.0 c.after_blanks.result.now r.1 c.in-None.ensures
