use Rattle.csvw_rows.proofs.OpenFronts.{wrong_name, wrong_too_long}
use Rattle.csvw_records.specs.RecordLaws.{laws_of}
use Rattle.csvw_rows.proofs.rows.Rows.broken_row.Goals as goal

pub returns-then-len-gt-ROW_LIMIT : goal.returns-then-len-gt-ROW_LIMIT
returns-then-len-gt-ROW_LIMIT c = wrong_too_long
    (laws_of c.record_laws.ensures) c.args.self.now c.args.len c.args.stop c.requires.readable c.requires.wrong c.if-len-gt-ROW_LIMIT.true

pub returns : goal.returns
returns c = wrong_name (laws_of c.record_laws.ensures) c.args.self.now c.args.len c.args.stop c.requires.readable c.requires.wrong c.if-len-gt-ROW_LIMIT.false
