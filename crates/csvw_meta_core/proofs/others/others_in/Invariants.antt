use Rattle.std.proofs.Common.{◌≡◌}
use Rattle.serde_json.specs.View.{members_view}
use Rattle.csvw_meta_core.specs.Pointer.{text_of}
use Rattle.csvw_meta_core.specs.Others.{others_in}
use Rattle.csvw_meta_core.specs.Listed.{all_names}
use Rattle.csvw_meta_core.proofs.EachLemmas.{with_front}
use Rattle.csvw_meta_core.proofs.others.others_in.Given as goal

abbrev pub invariant-loop-name : goal.invariant-loop-name
invariant-loop-name l =
    with_front l.warnings.items (others_in (all_names l.listed) l.listed.common l.listed.place (text_of l.part.at) (members_view l.name-iterator))
    ≡ others_in (all_names l.listed) l.listed.common l.listed.place (text_of l.part.at) (members_view l.members.entries)
