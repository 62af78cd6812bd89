use Rattle.std.proofs.Common.{subst}
use Rattle.csvw_keys.specs.Tallies.{Tallies}
use Rattle.csvw_keys.proofs.TallyLemmas.{keeps_ahead, unraised}
use Rattle.csvw_keys.proofs.tally.Tally.make_room.Goals as goal

pub returns-in_err-before-clause-keeps : goal.returns-in_err-before-clause-keeps
returns-in_err-before-clause-keeps g c = λ keys tallies.
    unraised g.met.K.Ord.total c.fall_back.new.self.ahead c.fall_back.new.self.counts c.raise.new.counts keys c.fall_back.ensures.ahead
    c.in_err-before.ensures.err (c.fall_back.ensures.keeps keys tallies)

pub returns-clause-keeps : goal.returns-clause-keeps
returns-clause-keeps g c = λ keys tallies.
    let fell = subst (λ ahead. Tallies g.K.Ord.cmp ahead c.fall_back.new.self.counts keys) c.fall_back.ensures.ahead (c.fall_back.ensures.keeps keys tallies) in
    keeps_ahead g.met.K.Ord.total c.fall_back.new.self.counts c.raise.new.counts c.args.key c.in_ok-before.before keys
    (rw c.in_ok-copy.ensures at c.in_ok-before.ensures.before) (rw c.in_ok-copy.ensures at c.in_ok-before.ensures.raised) fell
