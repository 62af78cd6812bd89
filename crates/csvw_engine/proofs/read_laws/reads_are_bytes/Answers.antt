-- By induction on the events.
use Rattle.csvw_engine.proofs.Bytes.{reads_bytes}
use Rattle.csvw_engine.proofs.read_laws.reads_are_bytes.Goals as goal

pub returns : goal.returns
returns c = reads_bytes c.texts_grow.ensures
