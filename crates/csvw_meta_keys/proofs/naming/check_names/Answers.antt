use Rattle.std.proofs.Common.{◌≡◌, false, sym, subst, rules}
use Rattle.std.proofs.lemmas.Bool.{cond-false}
use Rattle.csvw_meta_core.specs.Reads.{Fails}
use Rattle.csvw_meta_keys.specs.Naming.{all_known, has_name, name_fault}
use Rattle.csvw_meta_keys.proofs.NamingLemmas.{ends}
use Rattle.csvw_meta_keys.proofs.naming.check_names.Goals as goal

pub returns-then-not-has_name : goal.returns-then-not-has_name
returns-then-not-has_name c =
    let names = c.args.names.now in
    let name = c.name-item.result in
    let unknown : has_name names name.name ≡ false = search rules in
    ends (name_fault all_known names) c.args.key.now c.loop-name.name-index name c.loop-name-test.true c.name-item.is c.loop-name.invariant c.refused.result
    (subst (Fails c.refused.result) (sym (cond-false _ _ _ unknown)) c.refused.ensures)
