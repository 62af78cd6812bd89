-- Rows more were given, and what is unread falls.
use Rattle.std.proofs.Common.{◌≡◌, ℕ, List, Bool}
use Rattle.csvw_records.specs.RowValue.{Given}
use Rattle.csvw_rows.specs.RowsState.{unread}
use Rattle.csvw_annotate.specs.declared.row.Row.{Row}
use Rattle.csvw_triples_core.specs.Taking.{IsAsReady}
use Rattle.csvw_triples_core.specs.declared.mode.Mode.{Mode}
use Rattle.csvw_engine_core.specs.Tables.{TableHolds, Gone, is_ended, outlets}
use Rattle.csvw_engine_core.proofs.giving.drain.Given as goal

abbrev pub invariant-loop-emitter : goal.invariant-loop-emitter
invariant-loop-emitter g l = record {
  ended : is_ended l.table ≡ is_ended l.initial.table;
  ready : IsAsReady g.S.TripleSink.is_open g.S.TripleSink.failed l.initial.sink l.sink;
  gone : (mode : Mode) (bytes : List ℕ) (ended : Bool) (given : List Given) (rows : List Row) → TableHolds l.plan mode l.initial.table bytes ended given rows
      → Gone g.S.TripleSink.gains l.plan mode bytes ended given rows l.initial.table l.table (outlets l.initial.sink l.initial.keys) (outlets l.sink l.keys);
}

abbrev pub decreases-loop-emitter : goal.decreases-loop-emitter
decreases-loop-emitter g l = unread l.table.rows
