-- A fault of a part is reported after the parts that have none.
use Rattle.std.proofs.Common.{refl}
use Rattle.serde_json.specs.View.{view}
use Rattle.csvw_meta_core.specs.declared.fault.Refusal.TheVariants as refusal
use Rattle.csvw_meta_core.specs.Pointer.{text_of}
use Rattle.csvw_meta_notes.specs.Unlisted.{all_notes}
use Rattle.csvw_meta_notes.proofs.ReadLemmas.{fails_first, later, refused}
use Rattle.csvw_meta_notes.proofs.unlisted.read_all_notes.Goals as goal

pub returns-in_err-common : goal.returns-in_err-common
unfolding all_notes
returns-in_err-common c =
    refused c.from_residual.result c.in_err-common.field-0.0
    (all_notes c.args.context.now.base.now c.args.context.now.language.now (text_of c.args.part.now.at) (view c.args.part.now.value.now))
    c.from_residual.ensures.1
    (fails_first _ _ _ c.in_err-common.ensures)

pub returns-in_err-notes : goal.returns-in_err-notes
unfolding all_notes
returns-in_err-notes c =
    refused c.from_residual-in_err-notes.result c.in_err-notes.field-0.0
    (all_notes c.args.context.now.base.now c.args.context.now.language.now (text_of c.args.part.now.at) (view c.args.part.now.value.now))
    c.from_residual-in_err-notes.ensures.1
    (later _ _ _ _ c.in_ok-common.ensures (fails_first _ _ _ c.in_err-notes.ensures))

pub returns-in_err-joined : goal.returns-in_err-joined
returns-in_err-joined c =
    refused c.from_residual-in_err-joined.result refusal.Memory
    (all_notes c.args.context.now.base.now c.args.context.now.language.now (text_of c.args.part.now.at) (view c.args.part.now.value.now))
    c.from_residual-in_err-joined.ensures.1 tt

pub returns : goal.returns
unfolding all_notes
returns c = rw (c.in_ok-common.ensures, c.in_ok-notes.ensures, c.in_ok-joined.ensures) refl
