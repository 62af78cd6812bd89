-- The format and the facets follow from the type, or are those of every type.
use Rattle.std.proofs.Common.{◌≡◌, ◌++◌, Contains, List, OnOk, codes, subst, sym}
use Rattle.csvw_meta_core.specs.declared.fault.MetaFault.{MetaFault}
use Rattle.serde_json.specs.Find.{get}
use Rattle.serde_json.specs.View.{view}
use Rattle.csvw_datatype.specs.declared.simple.Simple.{Simple}
use Rattle.csvw_datatype.specs.declared.simple.Simple.TheVariants.{Text}
use Rattle.csvw_meta_core.specs.Pointer.{below, text_of}
use Rattle.csvw_meta_core.specs.Read.{Read, property}
use Rattle.csvw_meta_datatype.specs.Base.{base}
use Rattle.csvw_meta_datatype.specs.Datatypes.{named, of_type}
use Rattle.csvw_meta_datatype.specs.Names.{simples_of}
use Rattle.csvw_meta_datatype.specs.Whichever.{whichever}
use Rattle.csvw_meta_faults_parts.proofs.WhicheverLemmas.{by_one, given_has_one, is_sole}
use Rattle.csvw_meta_faults_parts.proofs.based.find_based.Goals as goal

pub returns-in-Ok : goal.returns-in-Ok
returns-in-Ok c = λ id place.
    let at = text_of c.args.part.now.at in
    let d = view c.args.part.now.value.now in
    let P = λ (r : Read Simple). OnOk c.find_of_type.result (c.find_of_type.new.faults.items ≡ c.args.faults.now.items
    ++ (whichever (simples_of c.args.profile) (named Text) r (of_type c.args.profile id place at d)).faults) in
    subst P (sym c.in-Ok.ensures) (c.find_of_type.ensures id place)

pub returns-in-Err-Fault : goal.returns-in-Err-Fault
returns-in-Err-Fault c = λ id place.
    let at = text_of c.args.part.now.at in
    let d = view c.args.part.now.value.now in
    let r : Read Simple = property (base c.args.profile) Text at d (codes "base") in
    let has : Contains r.faults c.in-Err-Fault.fault = rw c.in-Err-Fault.field-0-is at c.in-Err-Fault.ensures in
    let one = is_sole r.faults c.in-Err-Fault.fault (given_has_one c.args.profile (below at (codes "base")) (get (codes "base") d)) has in
    subst (λ (fs : List MetaFault). OnOk c.add_of_any.result (c.add_of_any.new.faults.items ≡ c.args.faults.now.items ++ fs))
    (sym (by_one (simples_of c.args.profile) (named Text) r.faults c.in-Err-Fault.fault r.value (of_type c.args.profile id place at d) one)) (c.add_of_any.ensures id place)
