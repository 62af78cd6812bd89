-- The faults of the parts of a dialect follow each other.
use Rattle.std.proofs.Common.{[], ◌++◌}
use Rattle.csvw_meta_dialect.specs.Dialect.{dialect_of, dialect_names}
use Rattle.csvw_meta_notes.specs.Places.{place_of}
use Rattle.csvw_meta_faults_core.specs.Following.{four_parts}
use Rattle.csvw_meta_faults_core.proofs.dialect.find_dialect_of.Goals as goal

pub returns : goal.returns
unfolding dialect_of
returns c = λ table.
    rw (four_parts c.args.faults.now.items _ _ _ _ c.find_optional.new.faults.items c.find_optional-2.new.faults.items c.find_lawful.new.faults.items
    c.in_ok-find_optional.ensures c.in_ok-find_optional-2.ensures c.in_ok-find_lawful.ensures)
    (c.find_unlisted.ensures c.args.context.now.language (dialect_names ++ []) (place_of table 0))
