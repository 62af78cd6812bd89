use Rattle.std.proofs.Common.{lit<}
use Rattle.std.proofs.lemmas.Str.Pattern.{split_once_first}
use Rattle.csvw_datatype.proofs.BarLemmas.{split_answer}
use Rattle.csvw_datatype.proofs.format.split_at_bar.Goals as goal

pub returns : goal.returns
returns c = split_answer c.args.text.now c.split_once.result (split_once_first 124 c.args.text.now c.split_once.result c.split_once.ensures.cases (lit< tt))
