-- What is found so far, and then what is left, is the whole.
use Rattle.std.proofs.Common.{◌≡◌}
use Rattle.serde_json.specs.View.{members_view}
use Rattle.csvw_meta_core.specs.Pointer.{text_of}
use Rattle.csvw_meta.specs.Titles.{sorted}
use Rattle.csvw_meta_faults.proofs.TitlesLemmas.{with_fronts}
use Rattle.csvw_meta_faults.proofs.seen_titles.all_seen.Given as goal

abbrev pub invariant-loop-key : goal.invariant-loop-key
invariant-loop-key l =
    with_fronts l.first.items l.others.items (sorted l.language (text_of l.part.at) (members_view l.key-iterator)).value
    ≡ (sorted l.language (text_of l.part.at) (members_view l.members.entries)).value
