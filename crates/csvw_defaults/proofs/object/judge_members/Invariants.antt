-- What was judged is what the members that were passed become.
use Rattle.std.proofs.Common.{◌≡◌, List, ◌++◌, map}
use Rattle.serde_json.specs.View.{members_view}
use Rattle.serde_json.proofs.Views.{Entry}
use Rattle.csvw_meta_core.specs.Pointer.{text_of}
use Rattle.csvw_defaults.specs.Sources.{source_of}
use Rattle.csvw_defaults.specs.Parts.{ignored_names, kept_members, member_faults}
use Rattle.csvw_defaults.proofs.object.judge_members.Given as goal

abbrev pub invariant-loop-name : goal.invariant-loop-name
invariant-loop-name g l =
    (done : List Entry) × (l.members.entries ≡ done ++ l.name-iterator)
    × (l.faults.items ≡ l.fn.faults.items ++ member_faults (g.P.Properties.rule l.properties) (text_of l.node.part.at) (source_of l.node.source) (members_view done))
    × (members_view l.left.entries ≡ kept_members (g.P.Properties.rule l.properties) (text_of l.node.part.at) (source_of l.node.source) (members_view done))
    × (map (λ name. name.now) l.ignored.items ≡ ignored_names (g.P.Properties.rule l.properties) (text_of l.node.part.at) (source_of l.node.source) (members_view done))
