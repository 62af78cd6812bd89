-- The piece was opened and read after what comes before it.
use Rattle.std.proofs.Common.{subst}
use Rattle.std.proofs.lemmas.Result.{on_ok_weaker}
use Rattle.std.specs.Borrow.{Bor}
use Rattle.std.specs.Prelude.{find}
use Rattle.csvw_columns.specs.declared.plan.TablePlan.{TablePlan}
use Rattle.csvw_keys.specs.KeyRules.{rules_of}
use Rattle.csvw_part_plan.specs.Plans.{is_later}
use Rattle.csvw_parts.specs.Fronts.{opener_of}
use Rattle.csvw_parts.specs.Outlets.{kept, outs}
use Rattle.csvw_parts.specs.Reading.{TakesBody}
use Rattle.csvw_parts.proofs.Opening.{reads_piece}
use Rattle.csvw_parts.proofs.run.read_rows.Goals as goal

pub returns-in-Some-clause-reads : goal.returns-in-Some-clause-reads
returns-in-Some-clause-reads g c =
    let s = g.S.TripleSink in
    let o = g.O.Opener in
    let out = outs s.gains s.is_open s.failed g.W.Write.contents in
    let rules = rules_of c.args.asked.request.plan.now in
    let plan = c.args.part.now.plan in
    let piece = c.args.asked.piece in
    let next = find (is_later piece) c.args.asked.request.pieces.now in
    let mid = c.read_before.new in
    let read = c.read_body-read.new in
    let done = c.in_ok-read_before.ensures in
    let state = c.args.state.now in
    let start = kept c.args.sink.now state.book state.records in
    let now = kept read.sink read.state.book read.state.records in
    on_ok_weaker c.read_body-read.result
    (λ body. reads_piece (opener_of o.opens o.opens_at o.closes g.O.Reader.Read.remaining) out rules plan.now c.args.asked.file.now piece next
    c.args.part.now.table mid.part.table read.part.table c.args.opener.now mid.opener c.open_at.new.self c.close.new.self start now c.in-Some.reader
    c.new-reader.result read.reader c.given_first.ensures done.starts c.in-Some.ensures c.new-reader.ensures.inner c.close.ensures
    (subst (λ (p : Bor TablePlan). TakesBody g.O.Reader.Read.remaining out rules p.now next mid.part.table read.part.table c.new-reader.result read.reader
    piece.bytes start now) done.plan body))
    c.read_body-read.ensures.takes
