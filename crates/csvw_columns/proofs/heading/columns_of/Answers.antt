-- If no column is declared, the limit on the columns is that of the header.
use Rattle.std.proofs.Common.{◌≡◌, length, arith, ◌∙◌, sym}
use Rattle.csvw_columns_core.specs.HeaderColumns.{column_count}
use Rattle.csvw_columns.specs.HeaderMatch.{IsWithin, columns_of}
use Rattle.csvw_columns.proofs.ColumnLemmas.{count_of}
use Rattle.csvw_columns.proofs.heading.columns_of.Goals as goal

pub header_columns-requires : goal.header_columns-requires
header_columns-requires c =
    let plan = c.args.plan.now in
    let rows = c.args.rows.now in
    let within : IsWithin plan rows c.args.width = c.is_within.ensures.0 c.if-not-is_within.false in
    let same : column_count rows c.args.width ≡ length (columns_of plan rows c.args.width) =
    count_of plan rows c.args.width (sym c.is_empty.ensures ∙ c.if-is_empty.true) in
    omega (arith, same, within)
