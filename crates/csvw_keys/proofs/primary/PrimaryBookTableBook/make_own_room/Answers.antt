use Rattle.std.proofs.Common.{◌∙◌}
use Rattle.csvw_keys.proofs.primary.PrimaryBookTableBook.make_own_room.Goals as goal

pub returns-in_err-make_room-clause-keeps : goal.returns-in_err-make_room-clause-keeps
returns-in_err-make_room-clause-keeps c = λ rows keeps. record {
  tallies = c.make_room.ensures.keeps _ keeps.tallies;
  faults = keeps.faults;
}

pub returns-in_err-reserve-clause-keeps : goal.returns-in_err-reserve-clause-keeps
returns-in_err-reserve-clause-keeps c = λ rows keeps. record {
  tallies = c.make_room.ensures.keeps _ keeps.tallies;
  faults = c.reserve.ensures.items ∙ keeps.faults;
}

pub returns-clause-keeps : goal.returns-clause-keeps
returns-clause-keeps c = λ rows keeps. record {
  tallies = c.make_room.ensures.keeps _ keeps.tallies;
  faults = c.reserve.ensures.items ∙ keeps.faults;
}
