-- A fault of a part is reported after the parts that have none.
use Rattle.std.proofs.Common.{refl}
use Rattle.serde_json.specs.View.{view}
use Rattle.csvw_meta_core.specs.Pointer.{text_of}
use Rattle.csvw_meta.specs.Body.{body}
use Rattle.csvw_meta.proofs.ReadLemmas.{fails_first, later, refused}
use Rattle.csvw_meta.proofs.body.read_body.Goals as goal

pub returns-in_err-found : goal.returns-in_err-found
unfolding body
returns-in_err-found c =
    refused c.from_residual.result c.in_err-found.field-0.0
    (body c.args.context.now c.args.table (text_of c.args.part.now.at) (view c.args.part.now.value.now)) c.from_residual.ensures.1
    (fails_first _ _ _ c.in_err-found.ensures)

pub returns-in_err-schema : goal.returns-in_err-schema
unfolding body
returns-in_err-schema c =
    refused c.from_residual-in_err-schema.result c.in_err-schema.field-0.0
    (body c.args.context.now c.args.table (text_of c.args.part.now.at) (view c.args.part.now.value.now)) c.from_residual-in_err-schema.ensures.1
    (later _ _ _ _ c.in_ok-found.ensures (fails_first _ _ _ c.in_err-schema.ensures))

pub returns : goal.returns
unfolding body
returns c = rw (c.in_ok-found.ensures, c.in_ok-schema.ensures, c.body_of.ensures) refl
