use Rattle.std.proofs.Common.{◌≡◌}
use Rattle.serde_json.specs.View.{members_view}
use Rattle.csvw_meta_core.specs.Pointer.{text_of}
use Rattle.csvw_meta_core.specs.Context.{strangers}
use Rattle.csvw_meta_core.proofs.context.check_members.Given as goal

abbrev pub invariant-loop-name : goal.invariant-loop-name
invariant-loop-name l = strangers (text_of l.part.at) (members_view l.name-iterator) ≡ strangers (text_of l.part.at) (members_view l.members.entries)
