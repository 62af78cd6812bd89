-- The links of the columns passed so far.
use Rattle.std.proofs.Common.{◌≡◌, map, take}
use Rattle.csvw_annotate.specs.BoundLinks.{link_of_column}
use Rattle.csvw_annotate.proofs.bound_link.bind_links.Given as goal

abbrev pub invariant-loop-column : goal.invariant-loop-column
invariant-loop-column l = l.links ≡ map (link_of_column l.which l.columns) (take l.column-index l.columns.columns)
