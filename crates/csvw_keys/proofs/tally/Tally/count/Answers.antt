use Rattle.std.proofs.Common.{sym, subst, ◌∙◌}
use Rattle.csvw_keys.specs.Tallies.{IsAheadAt, IsCounted}
use Rattle.csvw_keys.proofs.TallyLemmas.{counted_ahead}
use Rattle.csvw_keys.proofs.tally.Tally.count.Goals as goal
use Rattle.csvw_keys.proofs.tally.Tally.count.Goals.{in-Some, in-None}

pub returns : goal.returns
returns g c = λ key at keys tallies. elim c.match-take.branch [
  | in-Some w ↦
      let counts = c.args.self.now.counts in
      let is = sym c.take.ensures.value ∙ w.in-Some.is in
      let counted = counted_ahead g.met.K.Ord.total counts c.args.self.now.ahead w.in-Some.field-0-0 w.in-Some.before key keys is at tallies in
      subst (λ before. IsCounted g.K.Ord.cmp before c.take.new.self counts keys key) (sym w.result-is)
      (subst (λ ahead. IsCounted g.K.Ord.cmp w.in-Some.before ahead counts keys key) (sym c.take.ensures.after) counted)
  | in-None w ↦ absurd (subst (λ ahead. IsAheadAt ahead key) (sym c.take.ensures.value ∙ w.in-None.is) at)
]
