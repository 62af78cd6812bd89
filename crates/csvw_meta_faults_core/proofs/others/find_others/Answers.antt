-- The properties of an object are its members.
use Rattle.std.proofs.Common.{ap, ◌∙◌}
use Rattle.serde_json.proofs.Views.{view-Object}
use Rattle.serde_json.specs.View.{view}
use Rattle.csvw_meta_faults_core.proofs.others.find_others.Goals as goal

pub returns-in-Object : goal.returns-in-Object
returns-in-Object c = λ place. rw (ap view c.in-Object.is ∙ view-Object c.in-Object.members) (c.find_in_others.ensures place)
