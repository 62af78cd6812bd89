use Rattle.std.proofs.Common.{refl, sym, subst, ap, ◌∙◌}
use Rattle.std.specs.Option.{IsSome, option_copied_mut}
use Rattle.csvw_keys.specs.Tallies.{Tallies}
use Rattle.csvw_keys.proofs.TallyLemmas.{fallen}
use Rattle.csvw_keys.proofs.tally.Tally.fall_back.Goals as goal

pub returns-in-Some-get_mut-clause-keeps : goal.returns-in-Some-get_mut-clause-keeps
returns-in-Some-get_mut-clause-keeps g c = λ keys tallies.
    let counts = c.args.self.now.counts in
    let before = c.in-Some.before in
    let here = sym c.get_mut.ensures.value ∙ ap option_copied_mut c.in-Some-get_mut.is in
    let was = subst (λ ahead. Tallies g.K.Ord.cmp ahead counts keys) (sym c.take.ensures.value ∙ c.in-Some.is) tallies in
    subst (λ ahead. Tallies g.K.Ord.cmp ahead (c.get_mut.follows.lender before) keys) (sym c.take.ensures.after)
    (fallen g.met.K.Ord.total counts (c.get_mut.follows.lender before) c.in-Some.key before keys
    ((c.get_mut.follows.holds before).3 (subst IsSome (sym here) refl)) was)
