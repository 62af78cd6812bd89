-- A fault of the base is reported before all others.
use Rattle.serde_json.specs.View.{view}
use Rattle.csvw_meta_core.specs.Pointer.{text_of}
use Rattle.csvw_meta_datatype.specs.Datatypes.{based}
use Rattle.csvw_meta_datatype.proofs.ReadLemmas.{fails_by, refused}
use Rattle.csvw_meta_datatype.proofs.form.read_based.Goals as goal

pub returns-in_err-simple : goal.returns-in_err-simple
returns-in_err-simple c =
    refused c.from_residual.result c.in_err-simple.field-0.0
    (based c.args.profile c.args.id c.args.place (text_of c.args.part.now.at) (view c.args.part.now.value.now)) c.from_residual.ensures.1
    (fails_by _ _ _ _ _ _ c.in_err-simple.ensures)
