-- An array is the array of its items.
use Rattle.std.proofs.Common.{ap, ◌∙◌}
use Rattle.serde_json.proofs.Views.{view-Array}
use Rattle.serde_json.specs.View.{view}
use Rattle.csvw_meta_faults.proofs.schema.find_several.Goals as goal

pub returns-in-Array : goal.returns-in-Array
returns-in-Array c = λ table.
    rw (ap view c.in-Array.is ∙ view-Array c.in-Array.items) (rw c.as_slice.ensures.value at (c.find_some.ensures table))
