-- A fault of a part is reported after the parts that have none.
use Rattle.std.proofs.Common.{[], refl}
use Rattle.serde_json.specs.View.{view}
use Rattle.csvw_meta_core.specs.declared.fault.Refusal.TheVariants as refusal
use Rattle.csvw_meta_core.specs.Pointer.{text_of}
use Rattle.csvw_meta_keys.specs.ForeignKeys.{foreign_key_of}
use Rattle.csvw_meta_keys.specs.References.{no_reference}
use Rattle.csvw_meta_keys.proofs.ReadLemmas.{fails_first, later, refused}
use Rattle.csvw_meta_keys.proofs.foreign_key.foreign_key_of.Goals as goal

pub returns-in_err-warnings : goal.returns-in_err-warnings
unfolding foreign_key_of
returns-in_err-warnings c =
    refused c.from_residual.result c.in_err-warnings.field-0.0
    (foreign_key_of c.args.profile c.args.base.now c.args.place (text_of c.args.part.now.at) (view c.args.part.now.value.now)) c.from_residual.ensures.1
    (fails_first _ _ _ c.in_err-warnings.ensures)

pub returns-in_err-columns : goal.returns-in_err-columns
unfolding foreign_key_of
returns-in_err-columns c =
    refused c.from_residual-in_err-columns.result c.in_err-columns.field-0.0
    (foreign_key_of c.args.profile c.args.base.now c.args.place (text_of c.args.part.now.at) (view c.args.part.now.value.now))
    c.from_residual-in_err-columns.ensures.1
    (later _ _ _ _ c.in_ok-warnings.ensures (fails_first _ _ _ (c.in_err-columns.ensures [])))

pub returns-in_err-reference : goal.returns-in_err-reference
unfolding foreign_key_of
returns-in_err-reference c =
    refused c.from_residual-in_err-reference.result c.in_err-reference.field-0.0
    (foreign_key_of c.args.profile c.args.base.now c.args.place (text_of c.args.part.now.at) (view c.args.part.now.value.now))
    c.from_residual-in_err-reference.ensures.1
    (later _ _ _ _ c.in_ok-warnings.ensures
    (later _ _ _ _ (c.in_ok-columns.ensures []) (fails_first _ _ _ (c.in_err-reference.ensures (no_reference (text_of c.args.part.now.at))))))

pub returns-in_err-with_reference : goal.returns-in_err-with_reference
returns-in_err-with_reference c =
    refused c.from_residual-in_err-with_reference.result refusal.Memory
    (foreign_key_of c.args.profile c.args.base.now c.args.place (text_of c.args.part.now.at) (view c.args.part.now.value.now))
    c.from_residual-in_err-with_reference.ensures.1 tt

pub returns : goal.returns
unfolding foreign_key_of
returns c = rw (
  c.in_ok-warnings.ensures,
  c.in_ok-columns.ensures [],
  c.in_ok-reference.ensures (no_reference (text_of c.args.part.now.at)),
  c.in_ok-with_reference.ensures,
) refl
