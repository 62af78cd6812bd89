use Rattle.std.proofs.Common.{◌≡◌, ◌≤◌}
use Rattle.csvw_rows.specs.RowsState.{is_ended_of, unread, stop_of, Stays}
use Rattle.csvw_rows.proofs.rows.Rows.read_on.Given as goal

abbrev pub invariant-loop-stop : goal.invariant-loop-stop
invariant-loop-stop l = record {
  ended : is_ended_of l.self ≡ is_ended_of l.fn.self;
  unread : unread l.self ≤ unread l.fn.self;
  stop : stop_of l.self ≡ stop_of l.fn.self;
  stays : Stays l.fn.self l.self;
}

abbrev pub decreases-loop-stop : goal.decreases-loop-stop
decreases-loop-stop l = unread l.self
