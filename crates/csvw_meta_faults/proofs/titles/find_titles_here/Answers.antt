-- An object is the object of its members.
use Rattle.std.proofs.Common.{ap, ◌∙◌}
use Rattle.serde_json.proofs.Views.{view-Object}
use Rattle.serde_json.specs.View.{view}
use Rattle.csvw_meta_faults.proofs.titles.find_titles_here.Goals as goal

pub returns-in-Object : goal.returns-in-Object
returns-in-Object c = λ language. rw (ap view c.in-Object.is ∙ view-Object c.in-Object.members) (c.find_all.ensures language)
