-- Past spaces and tabs, the dot.
use Rattle.csvw_ntriples.proofs.Begun.{dot_found}
use Rattle.csvw_ntriples.proofs.reading.terminal.after_dot.Goals as goal

pub returns : goal.returns
returns c =
    let r = c.after_blanks.ensures in
    dot_found c.args.text.now r.0 c.after_blanks.result.now c.after_char.result r.1 c.after_char.ensures
