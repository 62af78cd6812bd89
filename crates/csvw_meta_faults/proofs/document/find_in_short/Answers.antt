-- The URL could be read, or has one fault.
use Rattle.std.proofs.Common.{◌≡◌, ◌++◌, List, OnOk, subst, sym}
use Rattle.url.specs.Parts.{Parts}
use Rattle.csvw_meta_core.specs.declared.fault.MetaFault.{MetaFault}
use Rattle.csvw_meta_core.specs.Read.{Read, over}
use Rattle.csvw_meta.specs.Document.{of_bytes}
use Rattle.csvw_meta.specs.Group.{no_group}
use Rattle.csvw_meta_faults.proofs.DocumentLemmas.{url_fault}
use Rattle.csvw_meta_faults.proofs.document.find_in_short.Goals as goal

pub returns-in-Ok : goal.returns-in-Ok
returns-in-Ok c =
    subst (λ (r : Read Parts). OnOk c.find_in_bytes.result (c.find_in_bytes.new.faults.items
    ≡ c.args.faults.now.items ++ (over no_group r (λ base. of_bytes c.args.profile base c.args.bytes.now)).faults)) (sym c.in-Ok.ensures)
    c.find_in_bytes.ensures

pub returns-in_ok-fault-in-Err : goal.returns-in_ok-fault-in-Err
returns-in_ok-fault-in-Err c =
    subst (λ (fs : List MetaFault). OnOk c.add_one.result (c.add_one.new.faults.items ≡ c.args.faults.now.items ++ fs))
    (sym (url_fault c.args.profile c.args.base.now c.args.bytes.now c.in-Err.refusal c.in_ok-fault-in-Err.fault c.in_ok-fault-in-Err.ensures c.in-Err.ensures))
    c.add_one.ensures
