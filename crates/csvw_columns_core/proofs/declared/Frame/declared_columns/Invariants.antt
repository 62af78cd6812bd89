-- The columns of the descriptions passed so far.
use Rattle.std.proofs.Common.{◌≡◌, take}
use Rattle.csvw_iri.specs.Link.{iri_of}
use Rattle.csvw_columns_core.specs.SchemaColumns.{declared_columns}
use Rattle.csvw_columns_core.proofs.declared.Frame.declared_columns.Given as goal

abbrev pub invariant-loop-i : goal.invariant-loop-i
invariant-loop-i l =
    l.columns.items ≡ declared_columns (iri_of l.self.url) l.self.skip_columns l.self.schema l.self.table l.group (take l.i l.descriptions)
