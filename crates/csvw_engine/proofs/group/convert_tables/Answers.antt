-- The writer of the sink has what the tables gave to the sink.
use Rattle.std.proofs.Common.{refl, sym, ap, ◌∙◌, length, Err}
use Rattle.csvw_columns.specs.declared.plan.Plan.{Plan}
use Rattle.csvw_streams.specs.Counted.{inner_of, failures_of}
use Rattle.csvw_ntriples.specs.NtSink.{sink_out, sink_is_open}
use Rattle.csvw_engine.specs.Rooms.{IsOrder, order_in}
use Rattle.csvw_engine.proofs.Ordering.{none_in_order}
use Rattle.csvw_engine.specs.Lines.{cuts_lines}
use Rattle.csvw_engine.proofs.Converting.{takes, failed_of, sends_nothing}
use Rattle.csvw_engine.proofs.Taking.{refused, starts_own}
use Rattle.csvw_engine.proofs.Writing.{LineLaws, converted, converted_at, nothing_written, same_lent, streams_of}
use Rattle.csvw_engine.proofs.group.convert_tables.Goals as goal

pub returns-in-Ok-start : goal.returns-in-Ok-start
returns-in-Ok-start g c =
    let begun = c.in-Ok-start.ensures.stands in
    let session = c.in-Ok-start.session in
    let contents = g.W.Write.contents in
    let remaining = g.R.Read.remaining in
    let start = c.new-sink.result in
    let now = c.take_tables-ran.new.session.sink in
    let many = c.requires.many ∙ ap (λ (p : Plan). length p.tables) (sym begun.plan_is) in
    let ran = c.take_tables-ran.ensures start
    (starts_own (takes contents) sink_is_open failed_of c.args.plan c.args.way.mode start session begun) many in
    let lent = ap (λ z. (sink_out z).ghost_name) c.into_sink.ensures ∙ same_lent contents remaining (IsOrder
    (order_in c.in-Ok.room.going)) session.mode session.plan c.args.readers.now
    c.take_tables-ran.new.readers start now c.take_tables-ran.result ran in
    let final = c.out-1.given.1 (sym (c.into_inner.ensures.same_reference ∙ (lent ∙ c.new-sink.ensures.same_reference))) in
    let laws : LineLaws = record { denotes = c.written_denotes.ensures; names = c.labels_name_one_to_one.ensures } in
    converted_at contents laws _ start now
    (streams_of contents c.args.out.now _ start now c.new-sink.ensures.open c.new-sink.ensures.out
    (final ∙ (c.into_inner.ensures.value ∙ ap (λ z. (sink_out z).now) c.into_sink.ensures)))
    remaining c.args.way.order (order_in c.in-Ok.room.going) c.args.way.mode session.mode c.args.plan session.plan c.args.readers.now
    c.take_tables-ran.new.readers c.take_tables-ran.result c.in-Ok.ensures.order begun.mode_is begun.plan_is ran

pub returns : goal.returns
returns g c =
    let contents = g.W.Write.contents in
    let remaining = g.R.Read.remaining in
    let start = c.new-sink.result in
    let now = c.in-Err.field-0.sink in
    let reason = c.in-Err.field-0.stop in
    let ran = refused (takes contents) (cuts_lines contents) sink_is_open failed_of remaining c.opening_is_the_graphs.ensures
    (IsOrder c.args.way.order) c.args.way.mode
    c.args.plan c.args.readers.now (none_in_order c.args.way.order (length c.args.readers.now)) start now
    (refl, tt, sends_nothing (contents (inner_of (sink_out start).now)) (sink_is_open start) c.new-sink.ensures.open) reason c.in-Err.ensures.refused in
    let lent = same_lent contents remaining (IsOrder c.args.way.order) c.args.way.mode c.args.plan c.args.readers.now c.args.readers.now start now
    (Err reason) ran in
    let final = c.out-in-Err-1.given.1 (sym (c.into_inner-in-Err.ensures.same_reference ∙ (lent ∙ c.new-sink.ensures.same_reference))) in
    let laws : LineLaws = record { denotes = c.written_denotes.ensures; names = c.labels_name_one_to_one.ensures } in
    converted contents laws _ start now
    (streams_of contents c.args.out.now _ start now c.new-sink.ensures.open c.new-sink.ensures.out (final ∙ c.into_inner-in-Err.ensures.value))
    remaining (IsOrder c.args.way.order) c.args.way.mode c.args.plan c.args.readers.now c.args.readers.now (Err reason) ran

pub returns-in_default : goal.returns-in_default
returns-in_default g c =
    let laws : LineLaws = record { denotes = c.written_denotes.ensures; names = c.labels_name_one_to_one.ensures } in
    nothing_written laws g.R.Read.remaining (IsOrder c.args.way.order) c.args.way.mode c.args.plan c.args.readers.now
    (none_in_order c.args.way.order (length c.args.readers.now)) (g.W.Write.contents (inner_of c.args.out.now))
    (failures_of c.args.out.now)
