-- By the law of long texts.
use Rattle.std.proofs.Common.{ap, sym}
use Rattle.csvw_annotate.specs.Links.{outcome}
use Rattle.csvw_annotate.proofs.links.too_long.Goals as goal

pub returns : goal.returns
returns c = λ base text long. ap outcome (sym (c.long_texts_have_no_link.ensures base text long))
