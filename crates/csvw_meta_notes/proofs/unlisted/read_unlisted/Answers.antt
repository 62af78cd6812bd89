-- A fault of a part is reported after the parts that have none.
use Rattle.std.proofs.Common.{◌++◌, refl}
use Rattle.serde_json.specs.View.{view}
use Rattle.csvw_meta_core.specs.declared.fault.Refusal.TheVariants as refusal
use Rattle.csvw_meta_core.specs.Others.{names_of}
use Rattle.csvw_meta_core.specs.Pointer.{text_of}
use Rattle.csvw_meta_notes.specs.Unlisted.{unlisted}
use Rattle.csvw_meta_notes.proofs.ReadLemmas.{fails_first, later, refused}
use Rattle.csvw_meta_notes.proofs.unlisted.read_unlisted.Goals as goal

pub returns-in_err-read_annotations : goal.returns-in_err-read_annotations
unfolding unlisted
returns-in_err-read_annotations c =
    refused c.from_residual.result c.in_err-read_annotations.field-0.0
    (unlisted c.args.context.now.base.now c.args.context.now.language.now (names_of c.args.names.now ++ names_of c.args.shared.now) c.args.place
    (text_of c.args.part.now.at) (view c.args.part.now.value.now))
    c.from_residual.ensures.1
    (fails_first _ _ _ c.in_err-read_annotations.ensures)

pub returns-in_err-warnings : goal.returns-in_err-warnings
unfolding unlisted
returns-in_err-warnings c =
    refused c.from_residual-in_err-warnings.result c.in_err-warnings.field-0.0
    (unlisted c.args.context.now.base.now c.args.context.now.language.now (names_of c.args.names.now ++ names_of c.args.shared.now) c.args.place
    (text_of c.args.part.now.at) (view c.args.part.now.value.now))
    c.from_residual-in_err-warnings.ensures.1
    (later _ _ _ _ c.in_ok-read_annotations.ensures (fails_first _ _ _ c.in_err-warnings.ensures))

pub returns-in_err-inside : goal.returns-in_err-inside
returns-in_err-inside c =
    refused c.from_residual-in_err-inside.result refusal.Memory
    (unlisted c.args.context.now.base.now c.args.context.now.language.now (names_of c.args.names.now ++ names_of c.args.shared.now) c.args.place
    (text_of c.args.part.now.at) (view c.args.part.now.value.now))
    c.from_residual-in_err-inside.ensures.1 tt

pub returns-in_err-joined : goal.returns-in_err-joined
returns-in_err-joined c =
    refused c.from_residual-in_err-joined.result refusal.Memory
    (unlisted c.args.context.now.base.now c.args.context.now.language.now (names_of c.args.names.now ++ names_of c.args.shared.now) c.args.place
    (text_of c.args.part.now.at) (view c.args.part.now.value.now))
    c.from_residual-in_err-joined.ensures.1 tt

pub returns : goal.returns
unfolding unlisted
returns c = rw (c.in_ok-read_annotations.ensures, c.in_ok-warnings.ensures, c.in_ok-joined.ensures, c.in_ok-inside.ensures) refl
