-- By the text of the table of the event.
use Rattle.csvw_group_laws.proofs.Courses.{taken_or_lacks}
use Rattle.csvw_group_laws.proofs.laws.good_events_are_taken.Goals as goal

pub returns : goal.returns
returns g c =
    let s = g.S.TripleSink in
    λ start events more event old new tables answer h order are takes.
    taken_or_lacks c.good_texts_are_accepted.ensures s.gains s.cuts s.is_open s.failed start events more event old new tables h order are answer takes
