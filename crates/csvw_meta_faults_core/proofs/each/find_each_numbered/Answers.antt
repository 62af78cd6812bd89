-- The faults of an item come before those of the remaining ones.
use Rattle.csvw_meta_core.specs.Pointer.{text_of}
use Rattle.csvw_meta_faults_core.proofs.EachLemmas.{goes_on, is_done}
use Rattle.csvw_meta_faults_core.proofs.each.find_each_numbered.Goals as goal

pub loop-i-preserved : goal.loop-i-preserved
loop-i-preserved g c =
    goes_on (g.R.NumberedReader.reads c.args.reader.now) (text_of c.args.part.now.at) _ c.find_numbered.new.faults.items c.loop-i.faults.items c.loop-i.i
    c.index-items-i.result c.args.items.now c.loop-i-test.true c.index-items-i.is c.loop-i.invariant c.in_ok-find_numbered.ensures

pub returns : goal.returns
returns g c =
    is_done (g.R.NumberedReader.reads c.args.reader.now) (text_of c.args.part.now.at) _ c.loop-i.faults.items c.loop-i.i c.args.items.now
    c.loop-i-test.false c.loop-i.invariant
