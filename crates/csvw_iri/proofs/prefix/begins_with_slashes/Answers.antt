use Rattle.std.proofs.Common.{codes}
use Rattle.std.proofs.lemmas.Str.Pattern.{starts_text}
use Rattle.csvw_iri.proofs.prefix.begins_with_slashes.Goals as goal

pub returns : goal.returns
returns c = starts_text c.starts_with.result (codes "//") c.args.text.now c.starts_with.ensures.cases
