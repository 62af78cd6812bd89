-- Without row titles the columns stay the same.
use Rattle.csvw_meta.proofs.RowTitlesLemmas.{unnamed}
use Rattle.csvw_meta.proofs.schema.with_row_titles.Goals as goal

pub returns-then-is_empty : goal.returns-then-is_empty
returns-then-is_empty c =
    unnamed c.args.keys.now.row_titles c.args.columns c.is_empty.result c.is_empty.ensures c.if-is_empty.true
