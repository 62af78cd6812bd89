-- A fault of a part is reported after the parts that have none.
use Rattle.std.proofs.Common.{refl}
use Rattle.serde_json.specs.View.{view}
use Rattle.csvw_meta_core.specs.declared.fault.Refusal.TheVariants as refusal
use Rattle.csvw_meta_core.specs.Pointer.{text_of}
use Rattle.csvw_meta.specs.Column.{column_of}
use Rattle.csvw_meta.proofs.ReadLemmas.{fails_first, later, refused}
use Rattle.csvw_meta.proofs.column.column_of.Goals as goal

pub returns-in_err-optional : goal.returns-in_err-optional
unfolding column_of
returns-in_err-optional c =
    refused c.from_residual.result c.in_err-optional.field-0.0
    (column_of c.args.reader.now.context.now c.args.reader.now.table c.args.number (text_of c.args.part.now.at) (view c.args.part.now.value.now))
    c.from_residual.ensures.1
    (fails_first _ _ _ c.in_err-optional.ensures)

pub returns-in_err-optional-2 : goal.returns-in_err-optional-2
unfolding column_of
returns-in_err-optional-2 c =
    refused c.from_residual-in_err-optional-2.result c.in_err-optional-2.field-0.0
    (column_of c.args.reader.now.context.now c.args.reader.now.table c.args.number (text_of c.args.part.now.at) (view c.args.part.now.value.now))
    c.from_residual-in_err-optional-2.ensures.1
    (later _ _ _ _ c.in_ok-optional.ensures (fails_first _ _ _ c.in_err-optional-2.ensures))

pub returns-in_err-is_virtual : goal.returns-in_err-is_virtual
unfolding column_of
returns-in_err-is_virtual c =
    refused c.from_residual-in_err-is_virtual.result c.in_err-is_virtual.field-0.0
    (column_of c.args.reader.now.context.now c.args.reader.now.table c.args.number (text_of c.args.part.now.at) (view c.args.part.now.value.now))
    c.from_residual-in_err-is_virtual.ensures.1
    (later _ _ _ _ c.in_ok-optional.ensures (later _ _ _ _ c.in_ok-optional-2.ensures (fails_first _ _ _ c.in_err-is_virtual.ensures)))

pub returns-in_err-suppressed : goal.returns-in_err-suppressed
unfolding column_of
returns-in_err-suppressed c =
    refused c.from_residual-in_err-suppressed.result c.in_err-suppressed.field-0.0
    (column_of c.args.reader.now.context.now c.args.reader.now.table c.args.number (text_of c.args.part.now.at) (view c.args.part.now.value.now))
    c.from_residual-in_err-suppressed.ensures.1
    (later _ _ _ _ c.in_ok-optional.ensures (later _ _ _ _ c.in_ok-optional-2.ensures (later _ _ _ _ c.in_ok-is_virtual.ensures (
    fails_first _ _ _ c.in_err-suppressed.ensures))))

pub returns-in_err-warnings : goal.returns-in_err-warnings
unfolding column_of
returns-in_err-warnings c =
    refused c.from_residual-in_err-warnings.result c.in_err-warnings.field-0.0
    (column_of c.args.reader.now.context.now c.args.reader.now.table c.args.number (text_of c.args.part.now.at) (view c.args.part.now.value.now))
    c.from_residual-in_err-warnings.ensures.1
    (later _ _ _ _ c.in_ok-optional.ensures (later _ _ _ _ c.in_ok-optional-2.ensures (later _ _ _ _ c.in_ok-is_virtual.ensures (
    later _ _ _ _ c.in_ok-suppressed.ensures (fails_first _ _ _ c.in_err-warnings.ensures)))))

pub returns-in_err-name : goal.returns-in_err-name
unfolding column_of
returns-in_err-name c =
    refused c.from_residual-in_err-name.result c.in_err-name.field-0.0
    (column_of c.args.reader.now.context.now c.args.reader.now.table c.args.number (text_of c.args.part.now.at) (view c.args.part.now.value.now))
    c.from_residual-in_err-name.ensures.1
    (later _ _ _ _ c.in_ok-optional.ensures (later _ _ _ _ c.in_ok-optional-2.ensures (later _ _ _ _ c.in_ok-is_virtual.ensures (
    later _ _ _ _ c.in_ok-suppressed.ensures (later _ _ _ _ c.in_ok-warnings.ensures (fails_first _ _ _ c.in_err-name.ensures))))))

pub returns-in_err-titles : goal.returns-in_err-titles
unfolding column_of
returns-in_err-titles c =
    refused c.from_residual-in_err-titles.result c.in_err-titles.field-0.0
    (column_of c.args.reader.now.context.now c.args.reader.now.table c.args.number (text_of c.args.part.now.at) (view c.args.part.now.value.now))
    c.from_residual-in_err-titles.ensures.1
    (later _ _ _ _ c.in_ok-optional.ensures (later _ _ _ _ c.in_ok-optional-2.ensures (later _ _ _ _ c.in_ok-is_virtual.ensures (
    later _ _ _ _ c.in_ok-suppressed.ensures (later _ _ _ _ c.in_ok-warnings.ensures (later _ _ _ _ c.in_ok-name.ensures (
    fails_first _ _ _ (rw c.new.ensures at c.in_err-titles.ensures))))))))

pub returns-in_err-found : goal.returns-in_err-found
unfolding column_of
returns-in_err-found c =
    refused c.from_residual-in_err-found.result c.in_err-found.field-0.0
    (column_of c.args.reader.now.context.now c.args.reader.now.table c.args.number (text_of c.args.part.now.at) (view c.args.part.now.value.now))
    c.from_residual-in_err-found.ensures.1
    (later _ _ _ _ c.in_ok-optional.ensures (later _ _ _ _ c.in_ok-optional-2.ensures (later _ _ _ _ c.in_ok-is_virtual.ensures (
    later _ _ _ _ c.in_ok-suppressed.ensures (later _ _ _ _ c.in_ok-warnings.ensures (later _ _ _ _ c.in_ok-name.ensures (
    later _ _ _ _ (rw c.new.ensures at c.in_ok-titles.ensures) (fails_first _ _ _ c.in_err-found.ensures))))))))

pub returns-in_err-warnings-2 : goal.returns-in_err-warnings-2
returns-in_err-warnings-2 c =
    refused c.from_residual-in_err-warnings-2.result refusal.Memory
    (column_of c.args.reader.now.context.now c.args.reader.now.table c.args.number (text_of c.args.part.now.at) (view c.args.part.now.value.now))
    c.from_residual-in_err-warnings-2.ensures.1 tt

pub returns : goal.returns
unfolding column_of
returns c =
    rw (
      c.in_ok-optional.ensures,
      c.in_ok-optional-2.ensures,
      c.in_ok-is_virtual.ensures,
      c.in_ok-suppressed.ensures,
      c.in_ok-warnings.ensures,
      c.in_ok-name.ensures,
      rw c.new.ensures at c.in_ok-titles.ensures,
      c.in_ok-found.ensures,
      c.in_ok-warnings-2.ensures,
    )
    refl
