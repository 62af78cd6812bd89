-- A fault of a part is reported after the parts that have none. The keys depend on the `@id`.
use Rattle.std.proofs.Common.{ℕ, List, [], ◌++◌, Option, codes, refl}
use Rattle.serde_json.specs.View.{view}
use Rattle.csvw_meta_core.specs.declared.fault.MetaFault.{MetaFault}
use Rattle.csvw_meta_core.specs.Kinds.{fixed}
use Rattle.csvw_meta_core.specs.Links.{id}
use Rattle.csvw_meta_core.specs.Read.{optional, property}
use Rattle.csvw_meta_inherited.specs.Inherited.{inherited}
use Rattle.csvw_meta_inherited.specs.Names.{inherited_names}
use Rattle.csvw_meta_keys.specs.Keys.{keys}
use Rattle.csvw_meta_notes.specs.Places.{place_of}
use Rattle.csvw_meta_notes.specs.Unlisted.{unlisted}
use Rattle.csvw_meta_core.specs.declared.fault.Refusal.TheVariants as refusal
use Rattle.csvw_meta_core.specs.Pointer.{text_of}
use Rattle.csvw_meta.specs.Schema.{columns, schema_names, schema_of}
use Rattle.csvw_meta.proofs.ReadLemmas.{fails_first, later, later_with, refused}
use Rattle.csvw_meta.proofs.schema.schema_of.Goals as goal

pub returns-in_err-id : goal.returns-in_err-id
unfolding schema_of
returns-in_err-id c =
    refused c.from_residual.result c.in_err-id.field-0.0
    (schema_of c.args.context.now c.args.table (text_of c.args.part.now.at) (view c.args.part.now.value.now)) c.from_residual.ensures.1
    (fails_first _ _ _ c.in_err-id.ensures)

pub returns-in_err-optional : goal.returns-in_err-optional
unfolding schema_of
returns-in_err-optional c =
    refused c.from_residual-in_err-optional.result c.in_err-optional.field-0.0
    (schema_of c.args.context.now c.args.table (text_of c.args.part.now.at) (view c.args.part.now.value.now)) c.from_residual-in_err-optional.ensures.1
    (later _ _ _ _ c.in_ok-id.ensures (fails_first _ _ _ c.in_err-optional.ensures))

pub returns-in_err-warnings : goal.returns-in_err-warnings
unfolding schema_of
returns-in_err-warnings c =
    refused c.from_residual-in_err-warnings.result c.in_err-warnings.field-0.0
    (schema_of c.args.context.now c.args.table (text_of c.args.part.now.at) (view c.args.part.now.value.now)) c.from_residual-in_err-warnings.ensures.1
    (later _ _ _ _ c.in_ok-id.ensures (later _ _ _ _ c.in_ok-optional.ensures (fails_first _ _ _ c.in_err-warnings.ensures)))

pub returns-in_err-columns : goal.returns-in_err-columns
unfolding schema_of
returns-in_err-columns c =
    refused c.from_residual-in_err-columns.result c.in_err-columns.field-0.0
    (schema_of c.args.context.now c.args.table (text_of c.args.part.now.at) (view c.args.part.now.value.now)) c.from_residual-in_err-columns.ensures.1
    (later _ _ _ _ c.in_ok-id.ensures (later _ _ _ _ c.in_ok-optional.ensures (
    later _ _ _ _ c.in_ok-warnings.ensures (fails_first _ _ _ (rw c.new.ensures at c.in_err-columns.ensures)))))

pub returns-in_err-found : goal.returns-in_err-found
unfolding schema_of
returns-in_err-found c =
    refused c.from_residual-in_err-found.result c.in_err-found.field-0.0
    (schema_of c.args.context.now c.args.table (text_of c.args.part.now.at) (view c.args.part.now.value.now)) c.from_residual-in_err-found.ensures.1
    (later _ _ _ _ c.in_ok-id.ensures (later _ _ _ _ c.in_ok-optional.ensures (
    later _ _ _ _ c.in_ok-warnings.ensures (later _ _ _ _ (rw c.new.ensures at c.in_ok-columns.ensures) (fails_first _ _ _ c.in_err-found.ensures)))))

pub returns-in_err-keys : goal.returns-in_err-keys
unfolding schema_of
returns-in_err-keys c =
    let context = c.args.context.now in
    let table = c.args.table in
    let at = text_of c.args.part.now.at in
    let d = view c.args.part.now.value.now in
    let type = optional (fixed (codes "Schema")) at d (codes "@type") in
    let warnings = unlisted context.base context.language (schema_names ++ inherited_names) (place_of table 0) at d in
    let columns = property (columns context table) [] at d (codes "columns") in
    let found = inherited context table 0 at d in
    let after : Option (List ℕ) → List MetaFault = λ own. type.faults ++ (warnings.faults ++ (columns.faults ++ (found.faults
    ++ ((keys context.profile context.base (place_of table 0) own at d).faults ++ [])))) in
    refused c.from_residual-in_err-keys.result c.in_err-keys.field-0.0 (schema_of context table at d) c.from_residual-in_err-keys.ensures.1
    (later_with _ (optional (id context.base) at d (codes "@id")) c.in_ok-id.id after c.in_ok-id.ensures
    (later _ _ _ _ c.in_ok-optional.ensures (later _ _ _ _ c.in_ok-warnings.ensures (later _ _ _ _ (rw c.new.ensures at c.in_ok-columns.ensures) (
    later _ _ _ _ c.in_ok-found.ensures (fails_first _ _ _ c.in_err-keys.ensures))))))

pub returns-in_err-with_keys : goal.returns-in_err-with_keys
returns-in_err-with_keys c =
    refused c.from_residual-in_err-with_keys.result refusal.Memory
    (schema_of c.args.context.now c.args.table (text_of c.args.part.now.at) (view c.args.part.now.value.now))
    c.from_residual-in_err-with_keys.ensures.1 tt

pub returns : goal.returns
unfolding schema_of
returns c =
    rw (
      c.in_ok-id.ensures,
      c.in_ok-optional.ensures,
      c.in_ok-warnings.ensures,
      rw c.new.ensures at c.in_ok-columns.ensures,
      c.in_ok-found.ensures,
      c.in_ok-keys.ensures,
      c.in_ok-with_keys.ensures,
    )
    refl
