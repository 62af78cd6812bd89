-- The faults of the header rows and of what is skipped follow each other.
use Rattle.std.proofs.Common.{true, false}
use Rattle.csvw_meta_dialect.specs.Dialect.{header_and_skips}
use Rattle.csvw_meta_faults_core.specs.Following.{five_parts}
use Rattle.csvw_meta_faults_core.proofs.dialect.find_header_and_skips.Goals as goal

pub returns : goal.returns
unfolding header_and_skips
returns c =
    rw (five_parts c.args.faults.now.items _ _ _ _ _ c.find_property.new.faults.items c.find_optional.new.faults.items
    c.find_property-2.new.faults.items c.find_property-3.new.faults.items (c.in_ok-find_property.ensures true) c.in_ok-find_optional.ensures
    (c.in_ok-find_property-2.ensures 0) (c.in_ok-find_property-3.ensures 0))
    (c.find_property-4.ensures false)
