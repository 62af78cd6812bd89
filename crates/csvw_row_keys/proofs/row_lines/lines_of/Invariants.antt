use Rattle.std.proofs.Common.{◌≡◌, All, flat_map, take}
use Rattle.csvw_key_records.specs.Records.{Fits}
use Rattle.csvw_row_keys.specs.Listings.{listed_records, row_lines}
use Rattle.csvw_row_keys.proofs.row_lines.lines_of.Given as goal

abbrev pub invariant-loop-row : goal.invariant-loop-row
invariant-loop-row l = record {
  lines : l.text.items ≡ flat_map (row_lines l.listing) (take l.row-index l.rows);
  fit : All Fits (flat_map (listed_records l.listing) (take l.row-index l.rows));
}
