-- One entry more, a part of them, or all.
use Rattle.std.proofs.Common.{refl, ◌∙◌, ap, arith, ◌+◌, ◌++◌, drop}
use Rattle.std.specs.Prelude.{Ok}
use Rattle.std.proofs.lemmas.Result.{err_from_is_err_and}
use Rattle.csvw_triples_rows.specs.RowTriples.{list_triples}
use Rattle.csvw_triples_rows.specs.Stems.{entries_in}
use Rattle.csvw_triples_rows.proofs.Emitting.{puts_nothing, puts_then, puts_part, puts_same}
use Rattle.csvw_triples_rows.proofs.Runs.{front_none, entries_left, entries_all, entry_put}
use Rattle.csvw_triples_rows.proofs.emitter.Emitter.emit_entries.Goals as goal

pub loop-i-init : goal.loop-i-init
loop-i-init g c =
    let s = g.S.TripleSink in
    puts_nothing s.gains s.cuts s.is_open s.failed g.met.S.TripleSink.stays c.args.sink.now _
    (front_none (entries_in c.args.place) c.args.column.now 1 c.args.items.now)

pub returns-in_err-emit_entry : goal.returns-in_err-emit_entry
returns-in_err-emit_entry g c =
    let p = err_from_is_err_and c.from_residual.result c.from_residual.ensures.1 in
    let s = g.S.TripleSink in
    let part = puts_part s.gains s.cuts s.is_open s.failed g.met.S.TripleSink.goes_on c.args.sink.now c.loop-i.sink c.emit_entry.new.sink in
    let entry = entries_in c.args.place in
    let column = c.args.column.now in
    let items = c.args.items.now in
    let i = c.loop-i.i in
    let more = entry_put entry column items i (i + 1) c.index-items-i.result c.entry.result c.entry_after-next.result
    (omega arith) c.index-items-i.is refl c.entry.ensures c.entry_after-next.ensures in
    let parts = entries_left entry column items (i + 1) ∙ ap (λ ts. ts ++ list_triples entry column (1 + (i + 1)) (drop (i + 1) items)) more in
    rw (p.1, p.2) (part _ _ _ _ c.in_err-emit_entry.field-0.0 parts c.loop-i.invariant c.in_err-emit_entry.ensures)

pub loop-i-preserved : goal.loop-i-preserved
loop-i-preserved g c =
    let s = g.S.TripleSink in
    let then = puts_then s.gains s.cuts s.is_open s.failed g.met.S.TripleSink.goes_on c.args.sink.now c.loop-i.sink c.emit_entry.new.sink in
    let entry = entries_in c.args.place in
    let i = c.loop-i.i in
    let more = entry_put entry c.args.column.now c.args.items.now i (i + 1) c.index-items-i.result c.entry.result c.entry_after-next.result
    (omega arith) c.index-items-i.is refl c.entry.ensures c.entry_after-next.ensures in
    then _ _ _ (Ok tt) more c.loop-i.invariant c.in_ok-emit_entry.ensures

pub returns : goal.returns
returns g c =
    let s = g.S.TripleSink in
    puts_same s.gains s.cuts s.is_open s.failed c.args.sink.now c.loop-i.sink _ _ (Ok tt)
    (entries_all (entries_in c.args.place) c.args.column.now c.args.items.now c.loop-i.i (omega arith)) c.loop-i.invariant
