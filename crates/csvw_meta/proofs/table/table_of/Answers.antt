-- A fault of a part is reported after the parts that have none.
use Rattle.std.proofs.Common.{refl}
use Rattle.serde_json.specs.View.{view}
use Rattle.csvw_meta_core.specs.declared.fault.Refusal.TheVariants as refusal
use Rattle.csvw_meta_core.specs.Pointer.{text_of}
use Rattle.csvw_meta_core.specs.Links.{no_url}
use Rattle.csvw_meta.specs.Table.{table_of}
use Rattle.csvw_meta.proofs.ReadLemmas.{fails_first, later, refused}
use Rattle.csvw_meta.proofs.table.table_of.Goals as goal

pub returns-in_err-optional : goal.returns-in_err-optional
unfolding table_of
returns-in_err-optional c =
    refused c.from_residual.result c.in_err-optional.field-0.0
    (table_of c.args.context.now c.args.sole c.args.number (text_of c.args.part.now.at) (view c.args.part.now.value.now)) c.from_residual.ensures.1
    (fails_first _ _ _ c.in_err-optional.ensures)

pub returns-in_err-notes : goal.returns-in_err-notes
unfolding table_of
returns-in_err-notes c =
    refused c.from_residual-in_err-notes.result c.in_err-notes.field-0.0
    (table_of c.args.context.now c.args.sole c.args.number (text_of c.args.part.now.at) (view c.args.part.now.value.now))
    c.from_residual-in_err-notes.ensures.1
    (later _ _ _ _ c.in_ok-optional.ensures (fails_first _ _ _ c.in_err-notes.ensures))

pub returns-in_err-suppressed : goal.returns-in_err-suppressed
unfolding table_of
returns-in_err-suppressed c =
    refused c.from_residual-in_err-suppressed.result c.in_err-suppressed.field-0.0
    (table_of c.args.context.now c.args.sole c.args.number (text_of c.args.part.now.at) (view c.args.part.now.value.now))
    c.from_residual-in_err-suppressed.ensures.1
    (later _ _ _ _ c.in_ok-optional.ensures (later _ _ _ _ c.in_ok-notes.ensures (fails_first _ _ _ c.in_err-suppressed.ensures)))

pub returns-in_err-warnings : goal.returns-in_err-warnings
unfolding table_of
returns-in_err-warnings c =
    refused c.from_residual-in_err-warnings.result c.in_err-warnings.field-0.0
    (table_of c.args.context.now c.args.sole c.args.number (text_of c.args.part.now.at) (view c.args.part.now.value.now))
    c.from_residual-in_err-warnings.ensures.1
    (later _ _ _ _ c.in_ok-optional.ensures (later _ _ _ _ c.in_ok-notes.ensures (later _ _ _ _ c.in_ok-suppressed.ensures (
    fails_first _ _ _ c.in_err-warnings.ensures))))

pub returns-in_err-url : goal.returns-in_err-url
unfolding table_of
returns-in_err-url c =
    refused c.from_residual-in_err-url.result c.in_err-url.field-0.0
    (table_of c.args.context.now c.args.sole c.args.number (text_of c.args.part.now.at) (view c.args.part.now.value.now)) c.from_residual-in_err-url.ensures.1
    (later _ _ _ _ c.in_ok-optional.ensures (later _ _ _ _ c.in_ok-notes.ensures (later _ _ _ _ c.in_ok-suppressed.ensures (
    later _ _ _ _ c.in_ok-warnings.ensures (fails_first _ _ _ (c.in_err-url.ensures no_url))))))

pub returns-in_err-id : goal.returns-in_err-id
unfolding table_of
returns-in_err-id c =
    refused c.from_residual-in_err-id.result c.in_err-id.field-0.0
    (table_of c.args.context.now c.args.sole c.args.number (text_of c.args.part.now.at) (view c.args.part.now.value.now)) c.from_residual-in_err-id.ensures.1
    (later _ _ _ _ c.in_ok-optional.ensures (later _ _ _ _ c.in_ok-notes.ensures (later _ _ _ _ c.in_ok-suppressed.ensures (
    later _ _ _ _ c.in_ok-warnings.ensures (later _ _ _ _ (c.in_ok-url.ensures no_url) (fails_first _ _ _ c.in_err-id.ensures))))))

pub returns-in_err-warnings-2 : goal.returns-in_err-warnings-2
returns-in_err-warnings-2 c =
    refused c.from_residual-in_err-warnings-2.result refusal.Memory
    (table_of c.args.context.now c.args.sole c.args.number (text_of c.args.part.now.at) (view c.args.part.now.value.now))
    c.from_residual-in_err-warnings-2.ensures.1 tt

pub returns : goal.returns
unfolding table_of
returns c =
    rw (
      c.in_ok-optional.ensures,
      c.in_ok-notes.ensures,
      c.in_ok-suppressed.ensures,
      c.in_ok-warnings.ensures,
      c.in_ok-url.ensures no_url,
      c.in_ok-id.ensures,
      c.in_ok-given.ensures,
      c.in_ok-body.ensures,
      c.in_ok-warnings-2.ensures,
    )
    refl
