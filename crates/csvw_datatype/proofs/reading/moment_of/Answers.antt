-- A text is one moment at most, so the moment that is read is the one of the definition.
use Rattle.csvw_datatype_core.specs.Moments.{ReadsMoment}
use Rattle.csvw_datatype.proofs.BoundLemmas.{same_answer}
use Rattle.csvw_datatype.proofs.reading.moment_of.Goals as goal

pub returns : goal.returns
returns c =
    same_answer (ReadsMoment c.args.format c.args.text.now) (c.one_moment.ensures.same c.args.format c.args.text.now) _ _ c.read_moment.ensures
    (c.values_read.ensures.moment c.args.format c.args.text.now)
