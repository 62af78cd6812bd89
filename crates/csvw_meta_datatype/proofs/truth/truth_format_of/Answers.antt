use Rattle.csvw_meta_datatype.proofs.TruthLemmas.{truths_answer}
use Rattle.csvw_meta_datatype.proofs.truth.truth_format_of.Goals as goal

pub returns : goal.returns
returns c = truths_answer c.args.pattern.now c.of.result c.of.ensures
