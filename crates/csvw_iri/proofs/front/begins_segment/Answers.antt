use Rattle.csvw_iri.proofs.EncodedLinks.{segment_takes}
use Rattle.std.proofs.Common.{sym, ◌∙◌}
use Rattle.csvw_iri.proofs.front.begins_segment.Goals as goal

pub returns-then-is_unreserved : goal.returns-then-is_unreserved
returns-then-is_unreserved c = segment_takes c.args.text.now c.in-len1-up.len_at_least (sym c.is_unreserved.ensures ∙ c.if-is_unreserved.true)
