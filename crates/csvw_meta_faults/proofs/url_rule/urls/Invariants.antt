-- What is found so far, and then what is left, is the whole.
use Rattle.std.proofs.Common.{◌≡◌, take, map}
use Rattle.csvw_meta.specs.Group.{url_of}
use Rattle.csvw_meta_faults.specs.Seen.{as_table}
use Rattle.csvw_meta_faults.proofs.url_rule.urls.Given as goal

abbrev pub invariant-loop-table : goal.invariant-loop-table
invariant-loop-table l = l.urls.items ≡ map url_of (map as_table (take l.table-index l.tables))
