-- A row ends where the piece ends, or the file does.
use Rattle.std.proofs.Common.{subst}
use Rattle.std.specs.Borrow.{Bor}
use Rattle.csvw_columns.specs.declared.plan.TablePlan.{TablePlan}
use Rattle.csvw_keys.specs.KeyRules.{rules_of}
use Rattle.csvw_part_plan.specs.declared.piece.Piece.{Piece}
use Rattle.csvw_parts.specs.Outlets.{kept, outs}
use Rattle.csvw_parts.specs.Reading.{TakesBody, TakesEnd}
use Rattle.csvw_parts.proofs.Bodies.{body_end, body_row, both_ok, ends_here, none_here}
use Rattle.csvw_parts.proofs.run.read_body.Goals as goal
use Rattle.std.proofs.Common.{Option}

pub returns-in-Some-clause-takes : goal.returns-in-Some-clause-takes
returns-in-Some-clause-takes g c =
    let s = g.S.TripleSink in
    let out = outs s.gains s.is_open s.failed g.W.Write.contents in
    let rules = rules_of c.args.asked.request.plan.now in
    let plan = c.args.part.now.plan in
    let read = c.read_bytes.new in
    let done = c.in_ok-read_bytes.ensures in
    let next = c.in-Some.next in
    let state = c.args.state.now in
    let start = kept c.args.sink.now state.book state.records in
    let now = kept read.sink read.state.book read.state.records in
    subst
    (λ (n : Option Piece). TakesBody g.R.Read.remaining out rules plan.now n c.args.part.now.table read.part.table c.args.reader.now read.reader
    c.args.asked.piece.bytes start now)
    c.in-Some.ensures
    (body_row g.R.Read.remaining out rules c.parts_have_all_records.ensures g.met.S.TripleSink.stays g.met.S.TripleSink.goes_on plan.now
    c.args.part.now.table read.part.table c.args.reader.now read.reader c.args.asked.piece.bytes start now done.takes c.given_first.ensures next
    (ends_here read.part next.rows_before next.data_rows_before plan done.plan (c.ends_there.ensures.ends c.if-ends_there.true))
    (none_here read.part next.rows_before next.data_rows_before plan done.plan (c.ends_there.ensures.none c.if-ends_there.true)))

pub returns-in-None-clause-takes : goal.returns-in-None-clause-takes
returns-in-None-clause-takes g c =
    let s = g.S.TripleSink in
    let out = outs s.gains s.is_open s.failed g.W.Write.contents in
    let rules = rules_of c.args.asked.request.plan.now in
    let plan = c.args.part.now.plan in
    let read = c.read_bytes.new in
    let last = c.end_table.new in
    let done = c.in_ok-read_bytes.ensures in
    let state = c.args.state.now in
    let start = kept c.args.sink.now state.book state.records in
    let now = kept read.sink read.state.book read.state.records in
    let after = kept last.sink last.state.book last.state.records in
    both_ok c.end_table.result c.end_table.ensures.reader c.end_table.ensures.ends
    (λ reader ends. subst
    (λ (n : Option Piece). TakesBody g.R.Read.remaining out rules plan.now n c.args.part.now.table last.part.table c.args.reader.now last.reader
    c.args.asked.piece.bytes start after)
    c.in-None.ensures
    (body_end g.R.Read.remaining out rules c.parts_have_all_records.ensures g.met.S.TripleSink.stays g.met.S.TripleSink.goes_on plan.now
    c.args.part.now.table read.part.table c.args.reader.now read.reader c.args.asked.piece.bytes start now done.takes last.part.table last.reader after
    reader (subst (λ (p : Bor TablePlan). TakesEnd out rules p.now read.part.table last.part.table now after) done.plan ends)))
