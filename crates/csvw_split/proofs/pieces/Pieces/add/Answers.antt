-- One piece more was added, or the last one.
use Rattle.std.proofs.Common.{sym, subst, arith, length, ap, get_or}
use Rattle.csvw_part_plan.specs.Plans.{TileFront}
use Rattle.csvw_split.specs.Adding.{Adds, AddsFile}
use Rattle.csvw_split.specs.Cuts.{start}
use Rattle.csvw_split.proofs.SplitLemmas.{BeginsAt, adds_file, adds_more, begins_at_cut}
use Rattle.csvw_split.proofs.pieces.Pieces.add.Goals as goal

pub loop-cut-preserved : goal.loop-cut-preserved
loop-cut-preserved c =
    let inv = c.loop-cut.invariant in
    let first = c.begin_table.new.self.pieces in
    let whole = c.args.whole.now in
    let at = c.loop-cut.cut-index in
    let same = c.as_slice-cut-items.ensures in
    record {
      adds = λ t known number all. subst (Adds t known first) (sym c.begin_part.ensures)
          (adds_more t known c.args.table c.loop-cut.begin _ whole.header_bytes first _ _ number (inv.adds t known number all) c.in_ok-push.ensures.piece
          (inv.begins t known all));
      tiles = λ tiled. subst TileFront (sym c.begin_part.ensures) (c.in_ok-push.ensures.tiles (inv.tiles tiled));
      begins = λ t known all. subst (λ cs. BeginsAt t known whole.header_bytes (get_or cs at start)) (sym same)
          (begins_at_cut t known whole at start (let test = c.loop-cut-test.true in let lengths = ap length same in omega arith) all);
    }

pub returns : goal.returns
returns c = record {
  adds = λ t known number all.
      let inv = c.loop-cut.invariant in
      subst (λ first. AddsFile t known first c.push-2.new.self.pieces) c.begin_table.ensures
      (adds_file t known c.args.table c.args.whole.now c.loop-cut.begin c.begin_table.new.self.pieces _ _ number (inv.adds t known number all)
      c.in_ok-push-2.ensures.piece (inv.begins t known all) all);
  tiles = λ tiled.
      c.in_ok-push-2.ensures.tiles (c.loop-cut.invariant.tiles (subst TileFront (sym c.begin_table.ensures) tiled));
}
