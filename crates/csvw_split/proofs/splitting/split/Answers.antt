-- The file of one table more was cut; in the end, those of all tables were.
use Rattle.std.proofs.Common.{◌≡◌, ◌<◌, ◌+◌, ◌∙◌, length, get_or, Some, sym, ap, arith}
use Rattle.std.proofs.lemmas.Bool.Decides.{nat_tests}
use Rattle.std.proofs.lemmas.Option.{slice_get-get_or}
use Rattle.std.proofs.Math.ListN.{length-set}
use Rattle.csvw_split.proofs.SplitLemmas.{cuts_more, ends_more, fronts_more, numbers_more, set_other, tiles_all, whole_files}
use Rattle.csvw_split.proofs.splitting.split.Goals as goal

pub loop-i-preserved : goal.loop-i-preserved
loop-i-preserved g c =
    let inv = c.loop-i.invariant in
    let n = c.loop-i.i in
    let remaining = g.R.Read.remaining in
    let tables = c.args.tables.now in
    let files = c.args.files.now in
    let before = c.loop-i.pieces.pieces in
    let after = c.split_table.new.pieces.pieces in
    let below : n < length c.loop-i.files = (let test = c.loop-i-test.true in let lengths = inv.lengths in omega (arith, test, lengths)) in
    let within : n < length tables =
    (let test = c.loop-i-test.true in let many = c.if-tables-files.false in omega (arith, test, many)) in
    let plan = c.index-tables-i.result in
    let plan_is = slice_get-get_or tables n plan within ∙ ap Some (sym c.index-tables-i.is) in
    let file = get_or c.loop-i.files n c.index-files-i.result in
    let was = inv.untouched n file (omega arith) (slice_get-get_or c.loop-i.files n c.index-files-i.result below) in
    let number : plan.number ≡ n + 1 = (let test = c.if-from-i.false in let from = c.from.ensures in grind (arith, nat_tests)) in
    let adds = c.in_ok-split_table.ensures.adds in
    record {
      lengths = length-set c.loop-i.files n c.split_table.new.file ∙ inv.lengths;
      untouched = λ j f le e. inv.untouched j f (omega (arith, le))
          (set_other c.loop-i.files n j c.split_table.new.file f (λ same. omega (arith, le, same)) e);
      tiles = c.in_ok-split_table.ensures.tiles inv.tiles;
      cuts = cuts_more remaining tables files n plan file before after plan_is was inv.cuts adds.adds;
      fronts = fronts_more remaining tables files n plan file before after plan_is was inv.fronts adds.adds;
      ends = ends_more remaining tables files n plan file before after was number inv.ends adds;
      numbers = numbers_more remaining tables files n plan plan_is number inv.numbers;
    }

pub returns : goal.returns
returns g c =
    let inv = c.loop-i.invariant in
    let remaining = g.R.Read.remaining in
    let tables = c.args.tables.now in
    let files = c.args.files.now in
    let pieces = c.loop-i.pieces.pieces in
    let one_each : length tables ≡ length files = (let many = c.if-tables-files.false in omega (arith, many)) in
    let whole = whole_files remaining tables files pieces c.loop-i.i one_each c.loop-i-test.false inv.ends inv.numbers in
    record { cuts = inv.cuts; fronts = inv.fronts; whole = whole; tiles = tiles_all remaining tables files pieces inv.tiles whole }
