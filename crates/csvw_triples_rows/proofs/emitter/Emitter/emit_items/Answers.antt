-- A part of the items.
use Rattle.std.proofs.Common.{◌∙◌, ap, arith, ◌+◌, ◌++◌, map, drop}
use Rattle.std.proofs.lemmas.Result.{err_from_is_err_and}
use Rattle.csvw_cell.specs.declared.cell.Item.{Item}
use Rattle.csvw_triples_core.specs.declared.term.Triple.{Triple}
use Rattle.csvw_triples_rows.specs.Stems.{literal_triple}
use Rattle.csvw_triples_rows.proofs.Emitting.{puts_part}
use Rattle.csvw_triples_rows.proofs.Runs.{items_more, items_left}
use Rattle.csvw_triples_rows.proofs.emitter.Emitter.emit_items.Goals as goal

pub returns-in_err-emit_item : goal.returns-in_err-emit_item
returns-in_err-emit_item g c =
    let p = err_from_is_err_and c.from_residual.result c.from_residual.ensures.1 in
    let s = g.S.TripleSink in
    let part = puts_part s.gains s.cuts s.is_open s.failed g.met.S.TripleSink.goes_on c.args.sink.now c.loop-i.sink c.emit_item.new.sink in
    let f : Item → Triple = literal_triple c.args.stem c.args.column.now in
    let items = c.args.items.now in
    let more = items_more f items c.loop-i.i c.index-items-i.result (omega arith) c.index-items-i.is in
    let parts = items_left f items (c.loop-i.i + 1) ∙ ap (λ ts. ts ++ map f (drop (c.loop-i.i + 1) items)) more in
    rw (p.1, p.2) (part _ _ _ _ c.in_err-emit_item.field-0.0 parts c.loop-i.invariant c.in_err-emit_item.ensures)
