-- A fault of a part is reported after the parts that have none.
use Rattle.serde_json.specs.View.{view}
use Rattle.csvw_meta_core.specs.Pointer.{text_of}
use Rattle.std.proofs.Common.{[], refl}
use Rattle.csvw_meta.specs.Group.{group}
use Rattle.csvw_meta.proofs.ReadLemmas.{fails_first, later, refused}
use Rattle.csvw_meta.proofs.group.read_group.Goals as goal

pub returns-in_err-optional : goal.returns-in_err-optional
unfolding group
returns-in_err-optional c =
    refused c.from_residual.result c.in_err-optional.field-0.0
    (group c.args.context.now (text_of c.args.part.now.at) (view c.args.part.now.value.now)) c.from_residual.ensures.1
    (fails_first _ _ _ c.in_err-optional.ensures)

pub returns-in_err-notes : goal.returns-in_err-notes
unfolding group
returns-in_err-notes c =
    refused c.from_residual-in_err-notes.result c.in_err-notes.field-0.0
    (group c.args.context.now (text_of c.args.part.now.at) (view c.args.part.now.value.now)) c.from_residual-in_err-notes.ensures.1
    (later _ _ _ _ c.in_ok-optional.ensures (fails_first _ _ _ c.in_err-notes.ensures))

pub returns-in_err-warnings : goal.returns-in_err-warnings
unfolding group
returns-in_err-warnings c =
    refused c.from_residual-in_err-warnings.result c.in_err-warnings.field-0.0
    (group c.args.context.now (text_of c.args.part.now.at) (view c.args.part.now.value.now)) c.from_residual-in_err-warnings.ensures.1
    (later _ _ _ _ c.in_ok-optional.ensures (later _ _ _ _ c.in_ok-notes.ensures (fails_first _ _ _ c.in_err-warnings.ensures)))

pub returns-in_err-tables : goal.returns-in_err-tables
unfolding group
returns-in_err-tables c =
    refused c.from_residual-in_err-tables.result c.in_err-tables.field-0.0
    (group c.args.context.now (text_of c.args.part.now.at) (view c.args.part.now.value.now)) c.from_residual-in_err-tables.ensures.1
    (later _ _ _ _ c.in_ok-optional.ensures (later _ _ _ _ c.in_ok-notes.ensures (later _ _ _ _ c.in_ok-warnings.ensures (
    fails_first _ _ _ (c.in_err-tables.ensures [])))))

pub returns-in_err-id : goal.returns-in_err-id
unfolding group
returns-in_err-id c =
    refused c.from_residual-in_err-id.result c.in_err-id.field-0.0
    (group c.args.context.now (text_of c.args.part.now.at) (view c.args.part.now.value.now)) c.from_residual-in_err-id.ensures.1
    (later _ _ _ _ c.in_ok-optional.ensures (later _ _ _ _ c.in_ok-notes.ensures (later _ _ _ _ c.in_ok-warnings.ensures (
    later _ _ _ _ (c.in_ok-tables.ensures []) (fails_first _ _ _ c.in_err-id.ensures)))))

pub returns : goal.returns
unfolding group
returns c =
    rw (
      c.in_ok-optional.ensures,
      c.in_ok-notes.ensures,
      c.in_ok-warnings.ensures,
      c.in_ok-tables.ensures [],
      c.in_ok-id.ensures,
      c.in_ok-given.ensures,
      c.in_ok-body.ensures,
    )
    refl
