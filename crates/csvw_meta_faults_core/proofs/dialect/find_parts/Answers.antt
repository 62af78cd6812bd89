-- The faults of the properties of a dialect follow each other.
use Rattle.std.proofs.Common.{Some, true, false, codes}
use Rattle.csvw_meta_dialect.specs.Dialect.{dialect_parts}
use Rattle.csvw_meta_faults_core.specs.Following.{seven_parts}
use Rattle.csvw_meta_faults_core.proofs.dialect.find_parts.Goals as goal

pub returns : goal.returns
unfolding dialect_parts
returns c =
    rw (seven_parts c.args.faults.now.items _ _ _ _ _ _ _ c.find_symbols.new.faults.items c.find_property.new.faults.items
    c.find_header_and_skips.new.faults.items c.find_property-2.new.faults.items c.find_optional.new.faults.items c.find_property-3.new.faults.items
    c.in_ok-find_symbols.ensures (c.in_ok-find_property.ensures (Some (codes "#"))) c.in_ok-find_header_and_skips.ensures
    (c.in_ok-find_property-2.ensures false) c.in_ok-find_optional.ensures (c.in_ok-find_property-3.ensures (record { crlf = true; lf = true })))
    (c.find_property-4.ensures tt)
