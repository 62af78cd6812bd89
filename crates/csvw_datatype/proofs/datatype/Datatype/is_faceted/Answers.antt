use Rattle.std.proofs.Common.{◌≡◌, sym, subst, refl}
use Rattle.csvw_datatype.specs.declared.value.Value.{Value}
use Rattle.csvw_datatype.specs.declared.value.Value.TheVariants.{Truth}
use Rattle.csvw_datatype.specs.Breaks.{breaks, unbroken}
use Rattle.csvw_datatype.proofs.BreaksLemmas.{unfaceted}
use Rattle.csvw_datatype.proofs.datatype.Datatype.is_faceted.Goals as goal

pub returns-in-Truth-clause-unbroken : goal.returns-in-Truth-clause-unbroken
returns-in-Truth-clause-unbroken c = λ none.
    let P : Value → Type 0 = λ v. breaks c.args.self.now.simple v c.args.self.now.facets ≡ unbroken in
    subst P (sym c.in-Truth.is) (unfaceted c.args.self.now.simple (Truth c.in-Truth.field-0) c.args.self.now.facets refl)
