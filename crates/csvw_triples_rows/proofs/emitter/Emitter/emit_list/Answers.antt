-- The list, and then its entries.
use Rattle.std.proofs.lemmas.Result.{err_from_is_err_and}
use Rattle.csvw_triples_core.specs.Lent.{node_of, term_of}
use Rattle.csvw_triples_rows.specs.Stems.{entries_in}
use Rattle.csvw_triples_rows.proofs.Emitting.{puts_then, puts_front}
use Rattle.csvw_triples_rows.proofs.Runs.{list_put}
use Rattle.csvw_triples_rows.proofs.emitter.Emitter.emit_list.Goals as goal

pub returns-in_err-put_object : goal.returns-in_err-put_object
returns-in_err-put_object g c =
    let p = err_from_is_err_and c.from_residual.result c.from_residual.ensures.1 in
    let s = g.S.TripleSink in
    let front = puts_front s.gains s.cuts s.is_open s.failed c.args.sink.now c.put_object.new.sink in
    let stem = c.args.stem in
    let parts = list_put (entries_in c.args.place) c.args.column.now (node_of stem.s) stem.p.now c.args.items.now
    c.entry_after-first.result (term_of c.list_node.result) c.entry_after-first.ensures c.list_node.ensures in
    rw (p.1, p.2) (front _ _ _ c.in_err-put_object.field-0.0 parts c.in_err-put_object.ensures)

pub returns : goal.returns
returns g c =
    let s = g.S.TripleSink in
    let then = puts_then s.gains s.cuts s.is_open s.failed g.met.S.TripleSink.goes_on c.args.sink.now c.put_object.new.sink c.emit_entries.new.sink in
    let stem = c.args.stem in
    let parts = list_put (entries_in c.args.place) c.args.column.now (node_of stem.s) stem.p.now c.args.items.now
    c.entry_after-first.result (term_of c.list_node.result) c.entry_after-first.ensures c.list_node.ensures in
    then _ _ _ c.emit_entries.result parts c.in_ok-put_object.ensures c.emit_entries.ensures
