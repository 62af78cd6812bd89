-- Whether a text begins with another one, as a test of lists.
use Rattle.std.proofs.lemmas.Str.Pattern.{starts_text}
use Rattle.csvw_meta_faults_core.proofs.hiding.begins_with.Goals as goal

pub returns : goal.returns
returns c = starts_text c.starts_with.result c.args.front.now c.args.text.now c.starts_with.ensures.cases
