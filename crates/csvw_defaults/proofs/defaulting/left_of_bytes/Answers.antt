-- The bytes are a text or not.
use Rattle.csvw_defaults.proofs.SourceLemmas.{of_text, of_no_text}
use Rattle.csvw_defaults.proofs.defaulting.left_of_bytes.Goals as goal

pub returns-in-Ok : goal.returns-in-Ok
returns-in-Ok c = rw (of_text c.args.bytes.now c.in-Ok.ensures.cases.1, ← c.in-Ok.ensures.cases.0) c.left_in.ensures

pub returns-in-Err : goal.returns-in-Err
returns-in-Err c = rw (of_no_text c.args.bytes.now c.in-Err.ensures.cases.0) c.left_of.ensures
