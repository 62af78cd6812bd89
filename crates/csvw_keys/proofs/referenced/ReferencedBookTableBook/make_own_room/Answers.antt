use Rattle.csvw_keys.proofs.referenced.ReferencedBookTableBook.make_own_room.Goals as goal

pub returns-clause-keeps : goal.returns-clause-keeps
returns-clause-keeps c = λ rows keeps. c.make_room.ensures.keeps _ keeps
