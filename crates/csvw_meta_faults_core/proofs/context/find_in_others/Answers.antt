-- More than two items are one fault.
use Rattle.std.proofs.Common.{length, arith, ◌≤◌}
use Rattle.csvw_meta_core.specs.Pointer.{text_of}
use Rattle.csvw_meta_faults_core.proofs.ContextLemmas.{other_items-many}
use Rattle.csvw_meta_faults_core.proofs.context.find_in_others.Goals as goal

pub returns-in_default : goal.returns-in_default
returns-in_default c =
    let many : 2 ≤ length c.args.others.now = omega arith in
    rw (other_items-many c.args.base.now (text_of c.args.part.now.at) c.args.others.now many) c.add_fault.ensures
