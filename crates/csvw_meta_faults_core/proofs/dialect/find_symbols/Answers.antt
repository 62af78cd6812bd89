-- The faults of the symbols follow each other.
use Rattle.std.proofs.Common.{Some, true}
use Rattle.csvw_meta_dialect.specs.Dialect.{cell_symbols}
use Rattle.csvw_meta_faults_core.specs.Following.{three_parts}
use Rattle.csvw_meta_faults_core.proofs.dialect.find_symbols.Goals as goal

pub returns : goal.returns
unfolding cell_symbols
returns c =
    rw (three_parts c.args.faults.now.items _ _ _ c.find_property.new.faults.items c.find_property-2.new.faults.items
    (c.in_ok-find_property.ensures 44) (c.in_ok-find_property-2.ensures (Some 34)))
    (c.find_property-3.ensures true)
