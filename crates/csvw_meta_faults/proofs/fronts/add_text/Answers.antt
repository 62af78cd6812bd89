-- The set has one more text.
use Rattle.csvw_meta_faults.proofs.FrontsLemmas.{one_more}
use Rattle.csvw_meta_faults.proofs.fronts.add_text.Goals as goal

pub returns : goal.returns
returns c = one_more c.args.text.now _ c.args.set.now c.insert.new.self c.in_ok-copy.ensures.ok c.in_ok-insert.ensures.updates
