use Rattle.std.proofs.Common.{sym, subst}
use Rattle.csvw_keys.specs.contracts.held.HeldKeyOrd.TheImpl as derived
use Rattle.csvw_keys.specs.Held.{held_keys, held_of}
use Rattle.csvw_keys.specs.Tallies.{Tallies}
use Rattle.csvw_keys.proofs.HeldLemmas.{one_key_more}
use Rattle.csvw_keys.proofs.referenced.ReferencedBookTableBook.add_own.Goals as goal

pub returns-clause-keeps : goal.returns-clause-keeps
returns-clause-keeps c = λ staged rows keeps.
    let row = c.args._row.now in
    let columns = c.args.self.now.columns in
    subst (Tallies derived.ghosts.cmp c.count.new.self.ahead c.count.new.self.counts) (sym (one_key_more columns rows row))
    (c.count.ensures (held_of columns row) staged (held_keys columns rows) keeps).with_it
