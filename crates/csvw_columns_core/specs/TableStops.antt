-- The names of the stops of tables, as the program's lines spell them.
use Rattle.std.specs.Prelude.{ℕ, List, codes}
use Rattle.csvw_columns_core.specs.declared.table_stop.TableStop.{TableStop}
use Rattle.csvw_columns_core.specs.declared.table_stop.TableStop.TheVariants.{Memory, DuplicateName, TooManyColumns, RaggedRow}

-- the name of the variant
abbrev pub name_of : TableStop → List ℕ
name_of Memory = codes "Memory"
name_of DuplicateName = codes "DuplicateName"
name_of TooManyColumns = codes "TooManyColumns"
name_of RaggedRow = codes "RaggedRow"
