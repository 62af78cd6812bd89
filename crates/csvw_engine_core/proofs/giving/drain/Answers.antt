-- One more step, and the end of the steps.
use Rattle.std.proofs.Common.{◌∙◌, refl, ap}
use Rattle.std.proofs.lemmas.Result.{err_from_is_err_and}
use Rattle.csvw_engine_core.specs.declared.stop.Stop.TheVariants as stop
use Rattle.csvw_engine_core.proofs.Going.{gone_nothing, gone_header, gone_same, gone_row, some_given, text_stops, sink_stops, outcome_err}
use Rattle.csvw_engine_core.proofs.Own.{own_at_sink, own_err, own_in_text}
use Rattle.csvw_engine_core.specs.Tables.{is_ended, outlets}
use Rattle.csvw_engine_core.specs.declared.table.Table.{Table}
use Rattle.csvw_engine_core.proofs.giving.drain.Goals as goal

pub returns-in_err-emitter-clause-drains : goal.returns-in_err-emitter-clause-drains
returns-in_err-emitter-clause-drains g c = λ mode bytes ended given rows h.
    let s = g.S.TripleSink in
    let p = err_from_is_err_and c.from_residual.result c.from_residual.ensures.1 in
    outcome_err s.gains s.cuts s.is_open s.failed g.met.S.TripleSink.stays g.met.S.TripleSink.goes_on c.args.plan.now mode bytes ended given rows
    c.args.table.now (outlets c.args.sink.now c.args.keys.now) c.args.table.now (outlets c.args.sink.now c.args.keys.now)
    c.from_residual.result p.0 stop.Memory p.1 p.2 (
      some_given s.gains s.cuts s.is_open s.failed g.met.S.TripleSink.stays g.met.S.TripleSink.goes_on c.args.plan.now mode bytes ended given rows
          c.args.table.now (outlets c.args.sink.now c.args.keys.now) c.given_first.ensures c.args.table.now (outlets c.args.sink.now c.args.keys.now)
          (gone_nothing s.gains s.cuts s.is_open s.failed g.met.S.TripleSink.stays g.met.S.TripleSink.goes_on c.args.plan.now mode bytes ended given rows
          c.args.table.now (outlets c.args.sink.now c.args.keys.now) h),
      (refl, refl),
    )

pub loop-emitter-init : goal.loop-emitter-init
loop-emitter-init g c = record {
  ended = refl;
  ready = (refl, refl);
  gone = λ mode bytes ended given rows h. let s = g.S.TripleSink in
      gone_nothing s.gains s.cuts s.is_open s.failed g.met.S.TripleSink.stays g.met.S.TripleSink.goes_on c.args.plan.now mode bytes ended given rows
      c.args.table.now (outlets c.args.sink.now c.args.keys.now) h;
}

pub returns-in_err-row-clause-drains : goal.returns-in_err-row-clause-drains
returns-in_err-row-clause-drains g c = λ mode bytes ended given rows h.
    let s = g.S.TripleSink in
    let i = c.loop-emitter.invariant in
    let e = c.in_err-row.ensures in
    let p = err_from_is_err_and c.from_residual-in_err-row.result c.from_residual-in_err-row.ensures.1 in
    outcome_err s.gains s.cuts s.is_open s.failed g.met.S.TripleSink.stays g.met.S.TripleSink.goes_on c.args.plan.now mode bytes ended given rows
    c.args.table.now (outlets c.args.sink.now c.args.keys.now) c.next_row.new.table (outlets c.loop-emitter.sink c.loop-emitter.keys)
    c.from_residual-in_err-row.result p.0 _ p.1 p.2
    (text_stops s.gains s.cuts s.is_open s.failed g.met.S.TripleSink.stays g.met.S.TripleSink.goes_on c.args.plan.now mode bytes ended given rows
    c.args.table.now (outlets c.args.sink.now c.args.keys.now) c.given_first.ensures
    c.loop-emitter.table c.next_row.new.table (outlets c.loop-emitter.sink c.loop-emitter.keys) _ e.1 i.ready (i.gone mode bytes ended given rows h))

pub returns-in_err-tell-in-Row-clause-drains : goal.returns-in_err-tell-in-Row-clause-drains
returns-in_err-tell-in-Row-clause-drains g c = λ mode bytes ended given rows h.
    let s = g.S.TripleSink in
    let i = c.loop-emitter.invariant in
    let p = err_from_is_err_and c.from_residual-in_err-tell-in-Row.result c.from_residual-in_err-tell-in-Row.ensures.1 in
    outcome_err s.gains s.cuts s.is_open s.failed g.met.S.TripleSink.stays g.met.S.TripleSink.goes_on c.args.plan.now mode bytes ended given rows
    c.args.table.now (outlets c.args.sink.now c.args.keys.now) c.tell.new.self (outlets c.loop-emitter.sink c.loop-emitter.keys)
    c.from_residual-in_err-tell-in-Row.result p.0 stop.Memory p.1 p.2 (
      some_given s.gains s.cuts s.is_open s.failed g.met.S.TripleSink.stays g.met.S.TripleSink.goes_on c.args.plan.now mode bytes ended given rows
          c.args.table.now (outlets c.args.sink.now c.args.keys.now) c.given_first.ensures c.loop-emitter.table
          (outlets c.loop-emitter.sink c.loop-emitter.keys)
          (i.gone mode bytes ended given rows h),
      i.ready,
    )

pub returns-in_err-add-in-Row-clause-drains : goal.returns-in_err-add-in-Row-clause-drains
returns-in_err-add-in-Row-clause-drains g c = λ mode bytes ended given rows h.
    let s = g.S.TripleSink in
    let i = c.loop-emitter.invariant in
    let begun = outlets c.args.sink.now c.args.keys.now in
    let now = outlets c.loop-emitter.sink c.loop-emitter.keys in
    let p = err_from_is_err_and c.from_residual-in_err-add-in-Row.result c.from_residual-in_err-add-in-Row.ensures.1 in
    outcome_err s.gains s.cuts s.is_open s.failed g.met.S.TripleSink.stays g.met.S.TripleSink.goes_on c.args.plan.now mode bytes ended given rows
    c.args.table.now begun c.tell.new.self
    (outlets c.loop-emitter.sink c.add.new.self) c.from_residual-in_err-add-in-Row.result p.0 stop.Memory p.1 p.2 (
      some_given s.gains s.cuts s.is_open s.failed g.met.S.TripleSink.stays g.met.S.TripleSink.goes_on c.args.plan.now mode bytes ended given rows
          c.args.table.now begun
          c.given_first.ensures c.loop-emitter.table now (i.gone mode bytes ended given rows h),
      i.ready,
    )

pub returns-in_err-give-in-Row-clause-drains : goal.returns-in_err-give-in-Row-clause-drains
returns-in_err-give-in-Row-clause-drains g c = λ mode bytes ended given rows h.
    let s = g.S.TripleSink in
    let i = c.loop-emitter.invariant in
    let k = rw c.in-Row.is at c.in_ok-row.ensures in
    let p = err_from_is_err_and c.from_residual-in_err-give-in-Row.result c.from_residual-in_err-give-in-Row.ensures.1 in
    outcome_err s.gains s.cuts s.is_open s.failed g.met.S.TripleSink.stays g.met.S.TripleSink.goes_on c.args.plan.now mode bytes ended given rows
    c.args.table.now (outlets c.args.sink.now c.args.keys.now) c.tell.new.self (outlets c.give.new.sink c.add.new.self)
    c.from_residual-in_err-give-in-Row.result p.0 _ p.1 p.2
    (sink_stops s.gains s.cuts s.is_open s.failed g.met.S.TripleSink.stays g.met.S.TripleSink.goes_on c.args.plan.now mode bytes ended given rows
    c.args.table.now (outlets c.args.sink.now c.args.keys.now) c.given_first.ensures
    c.loop-emitter.table c.next_row.new.table c.tell.new.self (outlets c.loop-emitter.sink c.loop-emitter.keys)
    (outlets c.give.new.sink c.add.new.self) c.in-Row.row _ k.0 k.3 c.in_ok-tell-in-Row.ensures.same c.in_err-give-in-Row.ensures i.ready
    (i.gone mode bytes ended given rows h))

pub loop-emitter-preserved-in-Row : goal.loop-emitter-preserved-in-Row
loop-emitter-preserved-in-Row g c =
    let s = g.S.TripleSink in
    let i = c.loop-emitter.invariant in
    let k = rw c.in-Row.is at c.in_ok-row.ensures in
    let t = c.in_ok-tell-in-Row.ensures in
    let gave = c.in_ok-give-in-Row.ensures in
    let stays = gave.1 in
    record {
      ended = ap (λ (x : Table). is_ended x) t.same ∙ (k.0.ended ∙ i.ended);
      ready = (stays.0 ∙ i.ready.0, stays.1 ∙ i.ready.1);
      gone = λ mode bytes ended given rows h.
          gone_row s.gains s.cuts s.is_open s.failed g.met.S.TripleSink.stays g.met.S.TripleSink.goes_on c.args.plan.now mode bytes ended given rows
          c.args.table.now (outlets c.args.sink.now c.args.keys.now)
          c.loop-emitter.table c.next_row.new.table c.tell.new.self (outlets c.loop-emitter.sink c.loop-emitter.keys)
          (outlets c.give.new.sink c.add.new.self) c.in-Row.row k.0 k.3 t.same t.told gave.0 c.in_ok-add-in-Row.ensures
          (i.gone mode bytes ended given rows h);
    }

pub loop-emitter-preserved : goal.loop-emitter-preserved
loop-emitter-preserved g c =
    let s = g.S.TripleSink in
    let i = c.loop-emitter.invariant in
    let k = rw c.in-Header.is at c.in_ok-row.ensures in
    record {
      ended = k.0.ended ∙ i.ended;
      ready = i.ready;
      gone = λ mode bytes ended given rows h.
          gone_header s.gains s.cuts s.is_open s.failed g.met.S.TripleSink.stays g.met.S.TripleSink.goes_on c.args.plan.now mode bytes ended given rows
          c.args.table.now (outlets c.args.sink.now c.args.keys.now)
          c.loop-emitter.table c.next_row.new.table (outlets c.loop-emitter.sink c.loop-emitter.keys) k.0 k.2 (i.gone mode bytes ended given rows h);
    }

pub returns-in-Nothing-clause-drains : goal.returns-in-Nothing-clause-drains
returns-in-Nothing-clause-drains g c = λ mode bytes ended given rows h.
    let s = g.S.TripleSink in
    let i = c.loop-emitter.invariant in
    let k = rw c.in-Nothing.is at c.in_ok-row.ensures in (
      gone_same s.gains s.cuts s.is_open s.failed g.met.S.TripleSink.stays g.met.S.TripleSink.goes_on c.args.plan.now mode bytes ended given rows
          c.args.table.now (outlets c.args.sink.now c.args.keys.now)
          c.loop-emitter.table c.next_row.new.table (outlets c.loop-emitter.sink c.loop-emitter.keys) k.0 k.1 (i.gone mode bytes ended given rows h),
      i.ready,
    )

pub returns-in_err-row-clause-own : goal.returns-in_err-row-clause-own
returns-in_err-row-clause-own g c =
    let p = err_from_is_err_and c.from_residual-in_err-row.result c.from_residual-in_err-row.ensures.1 in
    own_err c.args.plan.now.number c.from_residual-in_err-row.result p.0 _ p.1 p.2 (own_in_text c.args.plan.now c.loop-emitter.table _ c.in_err-row.ensures.1)

pub returns-in_err-tell-in-Row-clause-own : goal.returns-in_err-tell-in-Row-clause-own
returns-in_err-tell-in-Row-clause-own g c =
    let p = err_from_is_err_and c.from_residual-in_err-tell-in-Row.result c.from_residual-in_err-tell-in-Row.ensures.1 in
    own_err c.args.plan.now.number c.from_residual-in_err-tell-in-Row.result p.0 stop.Memory p.1 p.2 tt

pub returns-in_err-add-in-Row-clause-own : goal.returns-in_err-add-in-Row-clause-own
returns-in_err-add-in-Row-clause-own g c =
    let p = err_from_is_err_and c.from_residual-in_err-add-in-Row.result c.from_residual-in_err-add-in-Row.ensures.1 in
    own_err c.args.plan.now.number c.from_residual-in_err-add-in-Row.result p.0 stop.Memory p.1 p.2 tt

pub returns-in_err-give-in-Row-clause-own : goal.returns-in_err-give-in-Row-clause-own
returns-in_err-give-in-Row-clause-own g c =
    let s = g.S.TripleSink in
    let p = err_from_is_err_and c.from_residual-in_err-give-in-Row.result c.from_residual-in_err-give-in-Row.ensures.1 in
    own_err c.args.plan.now.number c.from_residual-in_err-give-in-Row.result p.0 _ p.1 p.2
    (own_at_sink s.gains s.cuts s.is_open s.failed _ _ _ c.args.plan.now.number _ c.in_err-give-in-Row.ensures)
