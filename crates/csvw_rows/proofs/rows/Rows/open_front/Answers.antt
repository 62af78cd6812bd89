use Rattle.csvw_rows.proofs.OpenFronts.{front_stops, front_waits}
use Rattle.csvw_records.specs.RecordLaws.{laws_of}
use Rattle.csvw_rows.proofs.rows.Rows.open_front.Goals as goal

pub returns-then-len-gt-ROW_LIMIT : goal.returns-then-len-gt-ROW_LIMIT
returns-then-len-gt-ROW_LIMIT c = front_stops (laws_of c.record_laws.ensures) c.args.self.now c.args.len c.requires c.if-len-gt-ROW_LIMIT.true

pub waits-requires : goal.waits-requires
waits-requires c = front_waits (laws_of c.record_laws.ensures) c.args.self.now c.args.len c.requires c.if-len-gt-ROW_LIMIT.false
