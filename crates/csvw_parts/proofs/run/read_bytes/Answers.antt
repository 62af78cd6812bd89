-- The bytes of a piece, some at a time.
use Rattle.std.proofs.Common.{◌∙◌, ◌++◌, [], refl, arith, length-append, subst}
use Rattle.std.proofs.KnownBytes.{Consumes-nil, Consumes-trans}
use Rattle.std.specs.Borrow.{Bor}
use Rattle.csvw_columns.specs.declared.plan.TablePlan.{TablePlan}
use Rattle.csvw_engine_core.specs.Tables.{outlets}
use Rattle.csvw_keys.specs.KeyRules.{rules_of}
use Rattle.csvw_streams.specs.Counted.{inner_of}
use Rattle.csvw_parts.specs.Outlets.{kept, outs}
use Rattle.csvw_parts.specs.Parts.{GoesOn}
use Rattle.csvw_parts.proofs.Taking.{text_more, text_none, text_step}
use Rattle.csvw_parts.proofs.run.read_bytes.Goals as goal

pub loop-left-init : goal.loop-left-init
loop-left-init g c =
    let s = g.S.TripleSink in
    let state = c.args.state.now in
    record {
      plan = refl;
      not_ended = c.requires.not_ended;
      faults = refl;
      text = [];
      many = omega arith;
      consumed = Consumes-nil (g.R.Read.remaining (inner_of c.args.reader.now));
      goes_on = text_none (outs s.gains s.is_open s.failed g.W.Write.contents) (rules_of c.args.asked.request.plan.now)
          c.parts_have_all_records.ensures g.met.S.TripleSink.stays g.met.S.TripleSink.goes_on c.args.part.now.plan.now c.args.part.now.table
          (kept c.args.sink.now state.book state.records);
    }

pub loop-left-preserved : goal.loop-left-preserved
loop-left-preserved g c =
    let s = g.S.TripleSink in
    let i = c.loop-left.invariant in
    let r = c.in-Ok.ensures.reads in
    let sent = c.in_ok-send-in-Ok.ensures in
    let first = c.args.state.now in
    let old = c.loop-left.state in
    let new = c.send.new.self in
    let out = outs s.gains s.is_open s.failed g.W.Write.contents in
    let plan = c.args.part.now.plan.now in
    let law = c.parts_have_all_records.ensures in
    let stays = g.met.S.TripleSink.stays in
    let goes_on = g.met.S.TripleSink.goes_on in
    let rules = rules_of c.args.asked.request.plan.now in
    let start = kept c.args.sink.now first.book first.records in
    let now = kept c.loop-left.sink old.book old.records in
    let read = kept c.read.new.sink c.read.new.keys old.records in
    let after = kept c.read.new.sink new.book new.records in
    let goes = subst (λ (p : Bor TablePlan). GoesOn s.gains s.is_open s.failed p.now c.loop-left.part.table c.read.new.self.table
    (outlets c.loop-left.sink old.book) (outlets c.read.new.sink c.read.new.keys) r.0) i.plan r.2.goes_on in
    record {
      plan = c.in-Ok.ensures.plan ∙ i.plan;
      not_ended = r.2.not_ended;
      faults = sent.faults ∙ i.faults;
      text = i.text ++ r.0;
      many = (let m = i.many in let n = r.1 in let k = c.min-count.ensures in omega (arith, m, n, k, length-append i.text r.0));
      consumed = Consumes-trans (g.R.Read.remaining (inner_of c.args.reader.now)) (g.R.Read.remaining (inner_of c.loop-left.reader))
          (g.R.Read.remaining (inner_of c.read.new.reader)) i.text r.0 i.consumed r.2.consumed;
      goes_on = text_more out rules law stays goes_on plan c.args.part.now.table c.loop-left.part.table c.read.new.self.table start now after i.text r.0
          i.goes_on
          (text_step out rules law stays goes_on plan c.loop-left.part.table c.read.new.self.table now read after sent.writes sent.forgets
          (λ i. c.read.new.sink) r.0 goes);
    }
