-- White space is ASCII.
use Rattle.std.proofs.Common.{◌∙◌, ap}
use Rattle.std.specs.List.{list_any}
use Rattle.csvw_text.specs.Collapse.{is_space}
use Rattle.csvw_cell.proofs.NormalLemmas.{space_bytes}
use Rattle.csvw_cell.proofs.normal.has_space.Goals as goal

pub returns : goal.returns
returns c = c.has_space_byte.ensures ∙ (ap (list_any is_space) c.as_bytes.ensures.value ∙ space_bytes c.args.text.now c.utf8.text)
