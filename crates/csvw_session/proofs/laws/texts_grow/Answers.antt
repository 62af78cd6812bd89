-- By induction on the events.
use Rattle.csvw_session.proofs.Texts.{fed_same, fed_other, fed_ended, end_text, end_same, end_other}
use Rattle.csvw_session.proofs.laws.texts_grow.Goals as goal

pub returns : goal.returns
returns c = record { fed = fed_same; fed_other = fed_other; fed_ended = fed_ended; end_text = end_text; end_same = end_same; end_other = end_other }
