-- The plan at the place is ready, as all are.
use Rattle.std.proofs.Common.{refl, sym, subst}
use Rattle.std.proofs.lemmas.Option.{slice_get_read}
use Rattle.csvw_columns.specs.Ready.{AreReady}
use Rattle.csvw_check.proofs.repeats.ready_table.Goals as goal

pub returns : goal.returns
returns c =
    let place = c.in_ok-place.place in
    let table = c.in_ok-table.table.now in
    let item = c.in_ok-table.ensures.lookup in
    c.each_table_is_ready.ensures c.tables.result.now place table (subst AreReady (sym c.tables.ensures) c.requires)
    (slice_get_read c.tables.result.now _ place table refl item.3.0 item.1)
