-- One more column.
use Rattle.csvw_columns_core.proofs.PlaceLemmas.{one_place_more}
use Rattle.csvw_columns_core.proofs.column_list.places_of.Goals as goal

pub loop-i-preserved : goal.loop-i-preserved
loop-i-preserved c =
    one_place_more c.loop-i.places c.add_place.new.places c.args.columns.now c.loop-i.i c.index-columns-i.result
    c.loop-i-test.true c.index-columns-i.is c.loop-i.invariant c.in_ok-add_place.ensures
