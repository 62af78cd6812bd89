-- The variables that each cell has (Metadata Vocabulary for Tabular Data, section 5.1.3).
use Rattle.std.specs.Prelude.{ℕ, List, [], ◌∷◌, Option, Some, None, codes, decimal}
use Rattle.std.specs.Str.Lossy.{utf8_lossy}
use Rattle.percent_encoding.specs.Percent.{percent_decode}
use Rattle.csvw_template.specs.declared.vars.Var.{Var}
use Rattle.csvw_template.specs.declared.vars.Var.TheVariants.{Undefined, One}
use Rattle.csvw_template.specs.Variables.{Variables}
use Rattle.csvw_columns_core.specs.declared.column.Column.{Column}
use Rattle.csvw_annotate.specs.declared.numbers.RowNumbers.{RowNumbers}

-- the number in the source; a virtual column has none
abbrev pub source_column : Option ℕ → Var
source_column None = Undefined
source_column (Some number) = One (decimal number)

-- a name, percent-decoded; bytes that are not UTF-8 are replaced
abbrev pub decoded : List ℕ → List ℕ
decoded name = utf8_lossy (percent_decode name)

abbrev pub reserved : RowNumbers → Column → Variables
reserved row column =
    (codes "_row", One (decimal row.number))
    ∷ (codes "_sourceRow", One (decimal row.source))
    ∷ (codes "_column", One (decimal column.number))
    ∷ (codes "_sourceColumn", source_column column.source_number)
    ∷ (codes "_name", One (decoded column.name))
    ∷ []
