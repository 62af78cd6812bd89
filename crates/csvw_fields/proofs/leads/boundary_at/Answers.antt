use Rattle.std.proofs.lemmas.Str.{IsCharBoundary-start}
use Rattle.csvw_fields.proofs.leads.boundary_at.Goals as goal

pub returns-else-is_char_boundary-clause-boundary : goal.returns-else-is_char_boundary-clause-boundary
returns-else-is_char_boundary-clause-boundary c = IsCharBoundary-start c.args.text.now c.utf8.text
