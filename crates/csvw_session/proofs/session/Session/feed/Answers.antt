-- A piece more.
use Rattle.std.proofs.Common.{◌∙◌, refl, sym, ap, Some}
use Rattle.std.proofs.lemmas.Option.{slice_get-get_or}
use Rattle.std.proofs.lemmas.Result.{err_from_is_err_and}
use Rattle.csvw_session.specs.Events.{Feed}
use Rattle.csvw_session.proofs.Checking.{plan_at, ready_at, refused_call}
use Rattle.csvw_session.proofs.Feeding.{fed_at, unfed_at}
use Rattle.csvw_session.proofs.Numbers.{own_stop}
use Rattle.csvw_session.proofs.Order.{stopped_in_order, refused_in_order, taken_in_order}
use Rattle.csvw_session.proofs.session.Session.feed.Goals as goal

pub returns-in_err-i-clause-takes : goal.returns-in_err-i-clause-takes
returns-in_err-i-clause-takes g c =
    let s = g.S.TripleSink in
    let p = err_from_is_err_and c.from_residual.result c.from_residual.ensures.1 in
    rw (p.1, p.2) (refused_call s.gains s.cuts s.is_open s.failed c.args.self.now c.args.t (Feed c.args.t c.args.piece.now) c.in_err-i.field-0.0
    c.in_err-i.ensures)

pub feed_table-requires-clause-ready : goal.feed_table-requires-clause-ready
feed_table-requires-clause-ready g c =
    let k = c.in_ok-i.ensures in
    ready_at c.args.self.now.plan.tables c.in_ok-i.i c.index-plans-i.result c.args.self.now.ready
    (plan_at c.args.self.now _ c.in_ok-i.i c.index-plans-i.result k.2 c.index-plans-i.is c.tables-plans.ensures)

pub feed_table-requires-clause-not_ended : goal.feed_table-requires-clause-not_ended
feed_table-requires-clause-not_ended g c =
    let k = c.in_ok-i.ensures in
    k.3 c.index_mut.result.now (slice_get-get_or c.args.self.now.tables.items c.in_ok-i.i c.index_mut.result.now k.2 ∙ ap Some (sym c.index_mut.ensures.value))

pub returns-clause-takes : goal.returns-clause-takes
returns-clause-takes g c = λ start events h.
    let s = g.S.TripleSink in
    let k = c.in_ok-i.ensures in
    let at_plan = plan_at c.args.self.now _ c.in_ok-i.i c.index-plans-i.result k.2 c.index-plans-i.is c.tables-plans.ensures in
    let at_table = slice_get-get_or c.args.self.now.tables.items c.in_ok-i.i c.index_mut.result.now k.2 ∙ ap Some (sym c.index_mut.ensures.value) in
    fed_at s.gains s.cuts s.is_open s.failed g.met.S.TripleSink.goes_on c.args.self.now _ c.in_ok-i.i c.index-plans-i.result c.index_mut.result.now
    c.feed_table.new.table (at_plan, at_table) k.2
    (k.3 c.index_mut.result.now at_table) refl refl refl c.args.t k.1 c.args.piece.now refl
    (λ bytes given rows. c.in_ok-feed_table.ensures.feeds c.args.self.now.mode bytes given rows) start events h

pub returns-in_err-feed_table-clause-takes : goal.returns-in_err-feed_table-clause-takes
returns-in_err-feed_table-clause-takes g c =
    let s = g.S.TripleSink in
    let k = c.in_ok-i.ensures in
    let at_plan = plan_at c.args.self.now _ c.in_ok-i.i c.index-plans-i.result k.2 c.index-plans-i.is c.tables-plans.ensures in
    let at_table = slice_get-get_or c.args.self.now.tables.items c.in_ok-i.i c.index_mut.result.now k.2 ∙ ap Some (sym c.index_mut.ensures.value) in
    let p = err_from_is_err_and c.from_residual-in_err-feed_table.result c.from_residual-in_err-feed_table.ensures.1 in
    let own = own_stop c.args.self.now.plan c.in_ok-i.i c.args.t c.index-plans-i.result _ at_plan k.1 c.in_err-feed_table.ensures.own in
    rw (p.1, p.2) (unfed_at s.gains s.cuts s.is_open s.failed g.met.S.TripleSink.goes_on c.args.self.now _ c.in_ok-i.i c.index-plans-i.result
    c.index_mut.result.now c.feed_table.new.table (at_plan, at_table) k.2
    (k.3 c.index_mut.result.now at_table) refl refl refl c.args.t k.1 c.args.piece.now _ own refl
    (λ bytes given rows. c.in_err-feed_table.ensures.feeds c.args.self.now.mode bytes given rows))

pub returns-in_err-i-clause-order : goal.returns-in_err-i-clause-order
returns-in_err-i-clause-order g c =
    let p = err_from_is_err_and c.from_residual.result c.from_residual.ensures.1 in
    rw (p.1, p.2) (refused_in_order c.args.self.now c.args.t c.in_err-i.field-0.0 c.in_err-i.ensures)

pub returns-clause-order : goal.returns-clause-order
returns-clause-order g c = taken_in_order c.args.self.now c.args.t c.in_ok-i.i tt c.in_ok-i.ensures

pub returns-in_err-feed_table-clause-order : goal.returns-in_err-feed_table-clause-order
returns-in_err-feed_table-clause-order g c =
    let k = c.in_ok-i.ensures in
    let at_plan = plan_at c.args.self.now _ c.in_ok-i.i c.index-plans-i.result k.2 c.index-plans-i.is c.tables-plans.ensures in
    let p = err_from_is_err_and c.from_residual-in_err-feed_table.result c.from_residual-in_err-feed_table.ensures.1 in
    let own = own_stop c.args.self.now.plan c.in_ok-i.i c.args.t c.index-plans-i.result _ at_plan k.1 c.in_err-feed_table.ensures.own in
    rw (p.1, p.2) (stopped_in_order c.args.self.now c.args.t c.in_ok-i.i _ own c.in_ok-i.ensures)
