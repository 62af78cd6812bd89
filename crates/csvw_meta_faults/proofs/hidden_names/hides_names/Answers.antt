-- Without a schema no fault hides a name.
use Rattle.std.proofs.Common.{◌≡◌, false, None, Option, refl, subst, sym}
use Rattle.std.specs.List.{list_any}
use Rattle.csvw_description.specs.declared.schema.Schema.{Schema}
use Rattle.csvw_meta.specs.References.{hides_names}
use Rattle.csvw_meta_faults.proofs.TargetsLemmas.{any_none}
use Rattle.csvw_meta_faults.proofs.hidden_names.hides_names.Goals as goal

pub returns-in-None : goal.returns-in-None
returns-in-None c =
    let faults = c.args.marks.now.faults.now in
    subst (λ (s : Option Schema). false ≡ list_any (hides_names c.args.at.now s) faults) (sym c.in-None.is)
    (sym (any_none (hides_names c.args.at.now None) faults (λ f. refl)))
