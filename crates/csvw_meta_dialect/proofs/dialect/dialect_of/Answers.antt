-- A fault of a part is reported after the parts that have none.
use Rattle.serde_json.specs.View.{view}
use Rattle.csvw_meta_core.specs.Pointer.{text_of}
use Rattle.csvw_meta_dialect.specs.Dialect.{dialect_of}
use Rattle.csvw_meta_dialect.proofs.ReadLemmas.{fails_first, later, refused}
use Rattle.csvw_meta_dialect.proofs.dialect.dialect_of.Goals as goal

pub returns-in_err-optional : goal.returns-in_err-optional
unfolding dialect_of
returns-in_err-optional c =
    refused c.from_residual.result c.in_err-optional.field-0.0
    (dialect_of c.args.context.now c.args.table (text_of c.args.part.now.at) (view c.args.part.now.value.now)) c.from_residual.ensures.1
    (fails_first _ _ _ c.in_err-optional.ensures)

pub returns-in_err-optional-2 : goal.returns-in_err-optional-2
unfolding dialect_of
returns-in_err-optional-2 c =
    refused c.from_residual-in_err-optional-2.result c.in_err-optional-2.field-0.0
    (dialect_of c.args.context.now c.args.table (text_of c.args.part.now.at) (view c.args.part.now.value.now)) c.from_residual-in_err-optional-2.ensures.1
    (later _ _ _ _ c.in_ok-optional.ensures (fails_first _ _ _ c.in_err-optional-2.ensures))

pub returns-in_err-dialect : goal.returns-in_err-dialect
unfolding dialect_of
returns-in_err-dialect c =
    refused c.from_residual-in_err-dialect.result c.in_err-dialect.field-0.0
    (dialect_of c.args.context.now c.args.table (text_of c.args.part.now.at) (view c.args.part.now.value.now)) c.from_residual-in_err-dialect.ensures.1
    (later _ _ _ _ c.in_ok-optional.ensures (later _ _ _ _ c.in_ok-optional-2.ensures (fails_first _ _ _ c.in_err-dialect.ensures)))

pub returns-in_err-warnings : goal.returns-in_err-warnings
unfolding dialect_of
returns-in_err-warnings c =
    refused c.from_residual-in_err-warnings.result c.in_err-warnings.field-0.0
    (dialect_of c.args.context.now c.args.table (text_of c.args.part.now.at) (view c.args.part.now.value.now)) c.from_residual-in_err-warnings.ensures.1
    (later _ _ _ _ c.in_ok-optional.ensures (later _ _ _ _ c.in_ok-optional-2.ensures (later _ _ _ _ c.in_ok-dialect.ensures (
    fails_first _ _ _ c.in_err-warnings.ensures))))
