use Rattle.std.proofs.Common.{◌≡◌, ◌++◌}
use Rattle.serde_json.specs.View.{members_view}
use Rattle.csvw_meta_notes.specs.Warnings.{common_warned}
use Rattle.csvw_meta_notes.proofs.warnings.common_warnings.Given as goal

abbrev pub invariant-loop-name : goal.invariant-loop-name
invariant-loop-name l =
    l.warnings.items ++ common_warned l.place (members_view l.name-iterator) ≡ common_warned l.place (members_view l.members.entries)
