-- The items so far.
use Rattle.std.proofs.Common.{◌≡◌, map, take}
use Rattle.csvw_iri.specs.Link.{iri_of}
use Rattle.csvw_columns.proofs.references.urls_of.Given as goal

abbrev pub invariant-loop-table : goal.invariant-loop-table
invariant-loop-table l = l.urls.items ≡ map (λ t. iri_of t.url) (take l.table-index l.tables)
