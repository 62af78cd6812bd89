-- The table ends, and then the records are written.
use Rattle.csvw_keys.specs.KeyRules.{rules_of}
use Rattle.csvw_parts.specs.Outlets.{kept, outs}
use Rattle.csvw_parts.proofs.Taking.{end_step}
use Rattle.csvw_parts.proofs.run.end_table.Goals as goal

pub returns-in_ok-send-in-Ok-true-clause-ends : goal.returns-in_ok-send-in-Ok-true-clause-ends
returns-in_ok-send-in-Ok-true-clause-ends g c =
    let s = g.S.TripleSink in
    let sent = c.in_ok-send-in-Ok-true.ensures in
    let state = c.args.state.now in
    end_step (outs s.gains s.is_open s.failed g.W.Write.contents) (rules_of c.args.asked.request.plan.now) c.parts_have_all_records.ensures
    g.met.S.TripleSink.stays g.met.S.TripleSink.goes_on c.args.part.now.plan.now c.args.part.now.table c.end.new.self.table
    (kept c.args.sink.now state.book state.records) (kept c.end.new.sink c.end.new.keys state.records)
    (kept c.end.new.sink c.send.new.self.book c.send.new.self.records) sent.writes sent.forgets (λ i. c.end.new.sink)
    (λ mode bytes given rows h. c.in_ok-end-in-Ok-true.ensures.ends mode bytes given rows h)
