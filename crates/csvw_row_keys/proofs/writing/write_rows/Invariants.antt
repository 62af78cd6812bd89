-- So far the lines of the first rows were sent.
use Rattle.std.proofs.Common.{length, ◌-◌, ◌≤◌, All, flat_map, take}
use Rattle.csvw_key_records.specs.Records.{Fits}
use Rattle.csvw_streams.specs.Streams.{stream_of, Sends}
use Rattle.csvw_row_keys.specs.Listings.{listed_records, row_lines}
use Rattle.csvw_row_keys.proofs.writing.write_rows.Given as goal

abbrev pub invariant-loop-sent : goal.invariant-loop-sent
invariant-loop-sent g l = record {
  within : l.sent ≤ length l.rows;
  written : Sends (stream_of g.V.Write.contents l.fn.w l.w) (flat_map (row_lines l.listing) (take l.sent l.rows));
  fit : All Fits (flat_map (listed_records l.listing) (take l.sent l.rows));
}

abbrev pub decreases-loop-sent : goal.decreases-loop-sent
decreases-loop-sent g l = length l.rows - l.sent
