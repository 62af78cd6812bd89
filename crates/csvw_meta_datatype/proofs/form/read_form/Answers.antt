-- A fault of a part is reported after the parts that have none.
use Rattle.std.proofs.Common.{refl}
use Rattle.serde_json.specs.View.{view}
use Rattle.csvw_meta_core.specs.declared.fault.Refusal.TheVariants as refusal
use Rattle.csvw_meta_core.specs.Pointer.{text_of}
use Rattle.csvw_meta_datatype.specs.Datatypes.{form}
use Rattle.csvw_meta_datatype.proofs.ReadLemmas.{fails_first, later, refused}
use Rattle.csvw_meta_datatype.proofs.form.read_form.Goals as goal

pub returns-in_err-id : goal.returns-in_err-id
unfolding form
returns-in_err-id c =
    refused c.from_residual.result c.in_err-id.field-0.0
    (form c.args.profile c.args.base.now c.args.place (text_of c.args.part.now.at) (view c.args.part.now.value.now)) c.from_residual.ensures.1
    (fails_first _ _ _ c.in_err-id.ensures)

pub returns-in_err-optional : goal.returns-in_err-optional
unfolding form
returns-in_err-optional c =
    refused c.from_residual-in_err-optional.result c.in_err-optional.field-0.0
    (form c.args.profile c.args.base.now c.args.place (text_of c.args.part.now.at) (view c.args.part.now.value.now)) c.from_residual-in_err-optional.ensures.1
    (later _ _ _ _ c.in_ok-id.ensures (fails_first _ _ _ c.in_err-optional.ensures))

pub returns-in_err-warnings : goal.returns-in_err-warnings
unfolding form
returns-in_err-warnings c =
    refused c.from_residual-in_err-warnings.result c.in_err-warnings.field-0.0
    (form c.args.profile c.args.base.now c.args.place (text_of c.args.part.now.at) (view c.args.part.now.value.now)) c.from_residual-in_err-warnings.ensures.1
    (later _ _ _ _ c.in_ok-id.ensures (later _ _ _ _ c.in_ok-optional.ensures (fails_first _ _ _ c.in_err-warnings.ensures)))

pub returns-in_err-warnings-2 : goal.returns-in_err-warnings-2
returns-in_err-warnings-2 c =
    refused c.from_residual-in_err-warnings-2.result refusal.Memory
    (form c.args.profile c.args.base.now c.args.place (text_of c.args.part.now.at) (view c.args.part.now.value.now))
    c.from_residual-in_err-warnings-2.ensures.1 tt

pub returns : goal.returns
unfolding form
returns c = rw (c.in_ok-id.ensures, c.in_ok-optional.ensures, c.in_ok-warnings.ensures, c.in_ok-found.ensures, c.in_ok-warnings-2.ensures) refl
