-- A fault of a part is reported after the parts that have none. The table depends on the `schemaReference`.
use Rattle.std.proofs.Common.{List, [], ◌++◌, Option, refl, codes}
use Rattle.serde_json.specs.View.{view}
use Rattle.csvw_meta_core.specs.declared.fault.MetaFault.{MetaFault}
use Rattle.csvw_meta_core.specs.declared.others.CommonProperty.TheVariants.{Refused}
use Rattle.csvw_meta_core.specs.Others.{others}
use Rattle.csvw_meta_core.specs.Pointer.{text_of}
use Rattle.csvw_meta_core.specs.Read.{needed}
use Rattle.csvw_meta_keys.specs.declared.reference.NamedTable.{NamedTable}
use Rattle.csvw_meta_keys.specs.ColumnNames.{column_names}
use Rattle.csvw_meta_keys.specs.References.{reference_names, reference_of, schema_named, table_named}
use Rattle.csvw_meta_keys.proofs.ReadLemmas.{fails_first, later, later_with, refused}
use Rattle.csvw_meta_keys.proofs.reference.reference_of.Goals as goal

pub returns-in_err-schema : goal.returns-in_err-schema
unfolding reference_of
returns-in_err-schema c =
    refused c.from_residual.result c.in_err-schema.field-0.0
    (reference_of c.args.profile c.args.base.now c.args.place (text_of c.args.part.now.at) (view c.args.part.now.value.now)) c.from_residual.ensures.1
    (fails_first _ _ _ c.in_err-schema.ensures)

pub returns-in_err-warnings : goal.returns-in_err-warnings
unfolding reference_of
returns-in_err-warnings c =
    refused c.from_residual-in_err-warnings.result c.in_err-warnings.field-0.0
    (reference_of c.args.profile c.args.base.now c.args.place (text_of c.args.part.now.at) (view c.args.part.now.value.now))
    c.from_residual-in_err-warnings.ensures.1
    (later _ _ _ _ c.in_ok-schema.ensures (fails_first _ _ _ c.in_err-warnings.ensures))

pub returns-in_err-table : goal.returns-in_err-table
unfolding reference_of
returns-in_err-table c =
    let base = c.args.base.now in
    let at = text_of c.args.part.now.at in
    let d = view c.args.part.now.value.now in
    let warnings = others (reference_names ++ []) Refused c.args.place at d in
    let columns = needed column_names [] at d (codes "columnReference") in
    let after : Option NamedTable → List MetaFault = λ s. warnings.faults ++ ((table_named base s at d).faults ++ (columns.faults ++ [])) in
    refused c.from_residual-in_err-table.result c.in_err-table.field-0.0 (reference_of c.args.profile base c.args.place at d)
    c.from_residual-in_err-table.ensures.1
    (later_with _ (schema_named c.args.profile base at d) c.in_ok-schema.schema after c.in_ok-schema.ensures
    (later _ _ _ _ c.in_ok-warnings.ensures (fails_first _ _ _ c.in_err-table.ensures)))

pub returns-in_err-columns : goal.returns-in_err-columns
unfolding reference_of
returns-in_err-columns c =
    let base = c.args.base.now in
    let at = text_of c.args.part.now.at in
    let d = view c.args.part.now.value.now in
    let warnings = others (reference_names ++ []) Refused c.args.place at d in
    let columns = needed column_names [] at d (codes "columnReference") in
    let after : Option NamedTable → List MetaFault = λ s. warnings.faults ++ ((table_named base s at d).faults ++ (columns.faults ++ [])) in
    refused c.from_residual-in_err-columns.result c.in_err-columns.field-0.0 (reference_of c.args.profile base c.args.place at d)
    c.from_residual-in_err-columns.ensures.1
    (later_with _ (schema_named c.args.profile base at d) c.in_ok-schema.schema after c.in_ok-schema.ensures
    (later _ _ _ _ c.in_ok-warnings.ensures (later _ _ _ _ c.in_ok-table.ensures (fails_first _ _ _ (c.in_err-columns.ensures [])))))

pub returns : goal.returns
unfolding reference_of
returns c = rw (c.in_ok-schema.ensures, c.in_ok-warnings.ensures, c.in_ok-table.ensures, c.in_ok-columns.ensures []) refl
