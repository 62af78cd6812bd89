-- A piece more was read, or the file ended.
use Rattle.std.proofs.Common.{◌≡◌, ◌<◌, ◌++◌, [], List, ℕ, ap, length, take, rules}
use Rattle.std.proofs.KnownBytes.{Consumes-trans}
use Rattle.csvw_columns.specs.declared.plan.TablePlan.{TablePlan}
use Rattle.csvw_streams.specs.Counted.{inner_of}
use Rattle.csvw_split.specs.declared.cuts.WholeCuts.{WholeCuts}
use Rattle.csvw_split.specs.Adding.{AreCutsOf}
use Rattle.csvw_split.specs.Cuts.{Cuts, IsCutUp}
use Rattle.csvw_split.proofs.SplitLemmas.{at_end, known_cuts, of_cuts}
use Rattle.csvw_split.proofs.splitting.read_cuts.Goals as goal

pub loop-init : goal.loop-init
loop-init g c = record { text = []; gave = search rules; room = search rules; cuts = λ t h. h }

pub loop-preserved : goal.loop-preserved
loop-preserved g c =
    let inv = c.loop.invariant in
    let remaining = g.R.Read.remaining in
    let piece = take c.in-Ok.count c.read.new.buf in
    record {
      text = inv.text ++ piece;
      gave = Consumes-trans (remaining (inner_of c.args.reader.now)) (remaining (inner_of c.loop.reader)) (remaining (inner_of c.read.new.self)) inv.text piece
          inv.gave c.in-Ok.ensures.bytes.0;
      room = search rules;
      cuts = λ t h. c.in_default-take.ensures.cuts t inv.text (inv.cuts t h);
    }

pub returns-then-count-eq0 : goal.returns-then-count-eq0
returns-then-count-eq0 g c =
    let inv = c.loop.invariant in
    let remaining = g.R.Read.remaining in
    let had = remaining (inner_of c.args.reader.now) in
    let after = remaining (inner_of c.read.new.self) in
    let read = c.in-Ok.ensures.bytes in
    let none : c.in-Ok.count ≡ 0 = search rules in
    let nothing : take c.in-Ok.count c.read.new.buf ≡ [] = ap (λ n. take n c.read.new.buf) none in
    let room : 0 < length c.read.new.buf = search rules in
    let all = at_end had (remaining (inner_of c.loop.reader)) after inv.text _ inv.gave read.0 nothing (read.1 none room) in
    let P = λ (whole : WholeCuts). (t : TablePlan) (text : List ℕ) → Cuts c.loop.cuts t text → IsCutUp t text whole in
    let Q = λ (whole : WholeCuts). (t : TablePlan) → Cuts c.args.begun t [] → AreCutsOf t had whole in
    of_cuts c.finished.result P Q (λ whole up t h. known_cuts t had inv.text whole all (up t inv.text (inv.cuts t h))) c.finished.ensures
