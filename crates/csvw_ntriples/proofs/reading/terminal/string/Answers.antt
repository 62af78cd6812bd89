-- Past spaces and tabs, the mark and what it opens.
use Rattle.csvw_ntriples.proofs.Begun.{string_found, string_missing}
use Rattle.csvw_ntriples.proofs.reading.terminal.string.Goals as goal

pub returns-in-Some : goal.returns-in-Some
returns-in-Some c =
    let r = c.after_blanks.ensures in
    string_found c.args.text.now r.0 c.after_blanks.result.now c.in-Some.after.now c.body.result r.1 c.in-Some.ensures c.body.ensures

pub returns-in-None : goal.returns-in-None
returns-in-None c =
    let r = c.after_blanks.ensures in
    string_missing c.args.text.now r.0 c.after_blanks.result.now r.1 c.in-None.ensures
