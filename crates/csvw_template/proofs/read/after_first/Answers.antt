use Rattle.std.proofs.lemmas.Str.{IsCharBoundary-after_ascii}
use Rattle.csvw_template.proofs.read.after_first.Goals as goal

pub range_from-requires : goal.range_from-requires
range_from-requires c = λ _. IsCharBoundary-after_ascii c.args.text.now 0 c.utf8.text c.requires.some c.requires.ascii
