-- The number of items is within the limits.
use Rattle.std.proofs.Common.{sym, append-nil}
use Rattle.csvw_meta_core.specs.Pointer.{text_of}
use Rattle.csvw_meta_faults_parts.proofs.FaultsLemmas.{count_none}
use Rattle.csvw_meta_faults_parts.proofs.count.find_count.Goals as goal

pub returns : goal.returns
returns c =
    rw (count_none c.args.least c.args.most (text_of c.args.part.now.at) c.args.items.now c.if-items-least.false c.if-items-most.false)
    (sym (append-nil c.args.faults.now.items))
