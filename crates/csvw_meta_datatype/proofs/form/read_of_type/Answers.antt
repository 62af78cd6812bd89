-- A fault of a part is reported after the parts that have none.
use Rattle.serde_json.specs.View.{view}
use Rattle.csvw_meta_core.specs.Pointer.{text_of}
use Rattle.csvw_meta_datatype.specs.Datatypes.{of_type}
use Rattle.csvw_meta_datatype.proofs.ReadLemmas.{fails_first, later, refused}
use Rattle.csvw_meta_datatype.proofs.form.read_of_type.Goals as goal

pub returns-in_err-found : goal.returns-in_err-found
unfolding of_type
returns-in_err-found c =
    refused c.from_residual.result c.in_err-found.field-0.0
    (of_type c.args.profile c.args.id c.args.place (text_of c.args.part.now.at) (view c.args.part.now.value.now) c.args.simple) c.from_residual.ensures.1
    (fails_first _ _ _ (rw c.new.ensures at c.in_err-found.ensures))

pub returns-in_err-facets : goal.returns-in_err-facets
unfolding of_type
returns-in_err-facets c =
    refused c.from_residual-in_err-facets.result c.in_err-facets.field-0.0
    (of_type c.args.profile c.args.id c.args.place (text_of c.args.part.now.at) (view c.args.part.now.value.now) c.args.simple) c.from_residual-in_err-facets.ensures.1
    (later _ _ _ _ (rw c.new.ensures at c.in_ok-found.ensures) (fails_first _ _ _ c.in_err-facets.ensures))
