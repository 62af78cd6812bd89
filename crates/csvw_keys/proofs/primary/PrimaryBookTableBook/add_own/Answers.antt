use Rattle.std.proofs.Common.{◌∙◌, sym, subst}
use Rattle.csvw_keys.specs.contracts.held.HeldKeyOrd.TheImpl as derived
use Rattle.csvw_keys.specs.Held.{held_keys, held_of}
use Rattle.csvw_keys.specs.Tallies.{Tallies}
use Rattle.csvw_keys.proofs.HeldLemmas.{one_key_more}
use Rattle.csvw_keys.proofs.PrimaryLemmas.{faults_after}
use Rattle.csvw_keys.proofs.primary.PrimaryBookTableBook.add_own.Goals as goal

pub returns-clause-keeps : goal.returns-clause-keeps
returns-clause-keeps c = λ staged rows keeps.
    let row = c.args.row.now in
    let columns = c.args.self.now.columns in
    let after = c.count.ensures (held_of columns row) staged.key (held_keys columns rows) keeps.tallies in
    record {
      tallies = subst (Tallies derived.ghosts.cmp c.count.new.self.ahead c.count.new.self.counts) (sym (one_key_more columns rows row)) after.with_it;
      faults = c.note.ensures staged.fault
          ∙ faults_after c.args.self.now.table columns rows row c.count.result c.fault_of-fault.result _ after.before_it
          (rw c.as_slice.ensures at c.fault_of-fault.ensures) keeps.faults;
    }
