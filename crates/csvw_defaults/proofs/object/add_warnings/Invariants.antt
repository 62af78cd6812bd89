-- What was put, with the names that are left, are all warnings.
use Rattle.std.proofs.Common.{◌≡◌, drop, map}
use Rattle.serde_json.specs.View.{members_view}
use Rattle.csvw_defaults.specs.Parts.{with_warnings}
use Rattle.csvw_defaults.proofs.object.add_warnings.Given as goal

abbrev pub invariant-loop-name : goal.invariant-loop-name
invariant-loop-name l =
    with_warnings (map (λ name. name.now) (drop l.name-index l.names)) (members_view l.members.entries)
    ≡ with_warnings (map (λ name. name.now) l.names) (members_view l.initial.members.entries)
