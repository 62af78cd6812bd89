-- A run after its report and its flushes.
use Rattle.std.proofs.Common.{◌≡◌, ◌≢◌, length, refl, rules, Err}
use Rattle.std.proofs.lemmas.Result.{err_from_is_err_and}
use Rattle.csvw_streams.specs.Counted.{inner_of, failures_of}
use Rattle.csvw_streams.specs.Streams.{stream_of}
use Rattle.csvw_engine_core.specs.declared.stop.Stop.TheVariants as stop
use Rattle.csvw_engine.specs.Rooms.{IsOrder}
use Rattle.csvw_engine.proofs.Ending.{ends_whole, report_kept, report_unsent, stops_with, succeeds, write_stops}
use Rattle.csvw_engine.proofs.run_group.run_planned.Goals as goal

pub returns-then-readers-tables : goal.returns-then-readers-tables
returns-then-readers-tables g c =
    let apart : length c.args.readers.now ≢ length c.args.run.plan.tables = search rules in
    λ described is. (record { plan = c.args.run.plan; planned = is; apart = apart }, (refl, (refl, refl), (refl, refl)))

pub returns-then-is_failed_write : goal.returns-then-is_failed_write
returns-then-is_failed_write g c =
    let many : length c.args.readers.now ≡ length c.args.run.plan.tables = search rules in
    let is_write : c.convert_tables-ran.result ≡ Err stop.Write = search rules in
    λ described is.
    rw is_write
    (write_stops g.R.Read.remaining (IsOrder c.args.run.way.order) described c.args.run.way.mode c.args.readers.now c.convert_tables-ran.new.readers
    c.args.run.plan is many (stream_of g.W.Write.contents c.args.out.now c.convert_tables-ran.new.out)
    (stream_of g.V.Write.contents c.args.report.now c.args.report.now) (refl, refl) (rw is_write at c.convert_tables-ran.ensures))

pub returns-in_err-outcome : goal.returns-in_err-outcome
returns-in_err-outcome g c =
    let p = err_from_is_err_and c.from_residual.result c.from_residual.ensures.1 in
    let many : length c.args.readers.now ≡ length c.args.run.plan.tables = search rules in
    let apart : c.convert_tables-ran.result ≢ Err stop.Write = search rules in
    λ described is.
    rw (p.1, p.2)
    (stops_with g.R.Read.remaining (IsOrder c.args.run.way.order) described c.args.run.way.mode c.args.readers.now c.convert_tables-ran.new.readers
    c.args.run.plan is many
    (stream_of g.W.Write.contents c.args.out.now c.convert_tables-ran.new.out) (g.W.Write.contents (inner_of c.flush_after.new.w))
    (failures_of c.flush_after.new.w) c.flush_after.ensures.keeps
    (stream_of g.V.Write.contents c.args.report.now c.tell-told.new.report) c.convert_tables-ran.result c.tell-told.result c.flush_after.result
    c.in_err-outcome.field-0.0 apart c.in_err-outcome.was
    c.convert_tables-ran.ensures c.tell-told.ensures c.flush_after.ensures.flushed)

pub returns-in_err-flush : goal.returns-in_err-flush
returns-in_err-flush g c =
    let p = err_from_is_err_and c.from_residual-in_err-flush.result c.from_residual-in_err-flush.ensures.1 in
    let many : length c.args.readers.now ≡ length c.args.run.plan.tables = search rules in
    λ described is.
    let done = ends_whole g.R.Read.remaining (IsOrder c.args.run.way.order) described c.args.run.way.mode c.args.readers.now c.convert_tables-ran.new.readers
    c.args.run.plan is many
    (stream_of g.W.Write.contents c.args.out.now c.convert_tables-ran.new.out) (g.W.Write.contents (inner_of c.flush_after.new.w))
    (failures_of c.flush_after.new.w) c.flush_after.ensures.keeps
    (stream_of g.V.Write.contents c.args.report.now c.tell-told.new.report) c.convert_tables-ran.result c.tell-told.result c.flush_after.result
    c.in_ok-outcome.outcome c.in_ok-outcome.was
    c.convert_tables-ran.ensures c.tell-told.ensures c.flush_after.ensures.flushed in
    rw (p.1, p.2)
    (report_unsent g.R.Read.remaining (IsOrder c.args.run.way.order) described c.args.run.way.mode c.args.readers.now c.convert_tables-ran.new.readers
    (stream_of g.W.Write.contents c.args.out.now c.flush_after.new.w) (stream_of g.V.Write.contents c.args.report.now c.tell-told.new.report)
    (g.V.Write.contents (inner_of c.flush.new.w))
    (failures_of c.flush.new.w) c.in_err-flush.field-0.0 c.in_err-flush.ensures.keeps c.in_err-flush.ensures.write c.in_err-flush.ensures.count done)

pub returns : goal.returns
returns g c =
    let many : length c.args.readers.now ≡ length c.args.run.plan.tables = search rules in
    λ described is.
    report_kept g.R.Read.remaining (IsOrder c.args.run.way.order) described c.args.run.way.mode c.args.readers.now c.convert_tables-ran.new.readers
    (stream_of g.W.Write.contents c.args.out.now c.flush_after.new.w)
    (stream_of g.V.Write.contents c.args.report.now c.tell-told.new.report) c.in_ok-outcome.outcome (g.V.Write.contents (inner_of c.flush.new.w))
    (failures_of c.flush.new.w) c.in_ok-flush.ensures.keeps c.in_ok-flush.ensures.count
    (succeeds g.R.Read.remaining (IsOrder c.args.run.way.order) described c.args.run.way.mode c.args.readers.now c.convert_tables-ran.new.readers
    c.args.run.plan is many
    (stream_of g.W.Write.contents c.args.out.now c.convert_tables-ran.new.out) (g.W.Write.contents (inner_of c.flush_after.new.w))
    (failures_of c.flush_after.new.w) c.flush_after.ensures.keeps
    (stream_of g.V.Write.contents c.args.report.now c.tell-told.new.report) c.convert_tables-ran.result c.tell-told.result c.flush_after.result
    c.in_ok-outcome.outcome c.in_ok-outcome.was
    c.convert_tables-ran.ensures c.tell-told.ensures c.flush_after.ensures.flushed)
