-- The last line begins with the front, or no record before has its key.
use Rattle.std.proofs.Common.{◌≡◌, ◌∙◌, ◌++◌, true, false, sym, ap, drop, length}
use Rattle.std.proofs.lemmas.Bool.Decides.{Decides-eqb}
use Rattle.std.proofs.lemmas.Slice.Eq.{starts_is}
use Rattle.csvw_key_records.proofs.GroupSteps.{no_group}
use Rattle.csvw_key_records.proofs.Taking.{none_has}
use Rattle.csvw_key_records.proofs.judge.KeyJudge.group_at.Goals as goal

pub returns-then-starts_with : goal.returns-then-starts_with
returns-then-starts_with c = λ r records faults fits front_is below holds.
    let begins = starts_is Decides-eqb c.as_slice.result.now c.args.front.now c.starts_with.result c.starts_with.ensures.value in
    holds.group r.rule r.key (drop (length c.args.front.now) c.as_slice.result.now) fits.front
    (sym c.as_slice.ensures.value ∙ begins.0 c.if-starts_with.true ∙ ap (λ f. f ++ drop (length c.args.front.now) c.as_slice.result.now) front_is)

pub returns-else-starts_with : goal.returns-else-starts_with
returns-else-starts_with c = λ r records faults fits front_is below holds.
    let begins = starts_is Decides-eqb c.as_slice.result.now c.args.front.now c.starts_with.result c.starts_with.ensures.value in
    rw c.empty.ensures (no_group r records (none_has c.args.self.now.last.items r records holds.upto below (λ rest is.
    let found : c.starts_with.result ≡ true = begins.1 rest (c.as_slice.ensures.value ∙ is ∙ ap (λ f. f ++ rest) (sym front_is)) in
    let contra : true ≡ false = sym found ∙ c.if-starts_with.false in cc)))
