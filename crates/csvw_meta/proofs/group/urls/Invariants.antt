use Rattle.std.proofs.Common.{◌≡◌, take, map}
use Rattle.csvw_meta.specs.Group.{url_of}
use Rattle.csvw_meta.proofs.group.urls.Given as goal

abbrev pub invariant-loop-table : goal.invariant-loop-table
invariant-loop-table l = l.urls.items ≡ map url_of (take l.table-index l.tables)
