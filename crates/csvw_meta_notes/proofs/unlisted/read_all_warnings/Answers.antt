-- A fault of a part is reported after the parts that have none.
use Rattle.std.proofs.Common.{◌++◌, refl}
use Rattle.serde_json.specs.View.{view}
use Rattle.csvw_meta_core.specs.declared.fault.Refusal.TheVariants as refusal
use Rattle.csvw_meta_core.specs.Others.{names_of}
use Rattle.csvw_meta_core.specs.Pointer.{text_of}
use Rattle.csvw_meta_notes.specs.Unlisted.{all_warnings}
use Rattle.csvw_meta_notes.proofs.ReadLemmas.{fails_first, refused}
use Rattle.csvw_meta_notes.proofs.unlisted.read_all_warnings.Goals as goal

pub returns-in_err-warnings : goal.returns-in_err-warnings
unfolding all_warnings
returns-in_err-warnings c =
    refused c.from_residual.result c.in_err-warnings.field-0.0
    (all_warnings (names_of c.args.names.now ++ names_of c.args.shared.now) c.args.place (text_of c.args.part.now.at) (view c.args.part.now.value.now))
    c.from_residual.ensures.1
    (fails_first _ _ _ c.in_err-warnings.ensures)

pub returns-in_err-inside : goal.returns-in_err-inside
returns-in_err-inside c =
    refused c.from_residual-in_err-inside.result refusal.Memory
    (all_warnings (names_of c.args.names.now ++ names_of c.args.shared.now) c.args.place (text_of c.args.part.now.at) (view c.args.part.now.value.now))
    c.from_residual-in_err-inside.ensures.1 tt

pub returns-in_err-noted : goal.returns-in_err-noted
returns-in_err-noted c =
    refused c.from_residual-in_err-noted.result refusal.Memory
    (all_warnings (names_of c.args.names.now ++ names_of c.args.shared.now) c.args.place (text_of c.args.part.now.at) (view c.args.part.now.value.now))
    c.from_residual-in_err-noted.ensures.1 tt

pub returns-in_err-warnings-2 : goal.returns-in_err-warnings-2
returns-in_err-warnings-2 c =
    refused c.from_residual-in_err-warnings-2.result refusal.Memory
    (all_warnings (names_of c.args.names.now ++ names_of c.args.shared.now) c.args.place (text_of c.args.part.now.at) (view c.args.part.now.value.now))
    c.from_residual-in_err-warnings-2.ensures.1 tt

pub returns-in_err-joined : goal.returns-in_err-joined
returns-in_err-joined c =
    refused c.from_residual-in_err-joined.result refusal.Memory
    (all_warnings (names_of c.args.names.now ++ names_of c.args.shared.now) c.args.place (text_of c.args.part.now.at) (view c.args.part.now.value.now))
    c.from_residual-in_err-joined.ensures.1 tt

pub returns : goal.returns
unfolding all_warnings
returns c =
    rw (c.in_ok-warnings.ensures, c.in_ok-joined.ensures, c.in_ok-warnings-2.ensures, c.in_ok-inside.ensures, c.in_ok-noted.ensures) refl
