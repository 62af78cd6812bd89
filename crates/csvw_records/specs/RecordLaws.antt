-- The laws of records, by which a reader of rows is proved, as the fields of one Antt record.
use Rattle.csvw_records.specs.TextLaws.{TextLaws}
use Rattle.csvw_records.specs.TerminatorLaws.{TerminatorLaws}
use Rattle.csvw_records.specs.PassLaws.{PassLaws}
use Rattle.csvw_records.specs.RowLaws.{RowLaws}
use Rattle.csvw_records.specs.PartLaws.{PartLaws}
use Rattle.csvw_records.specs.StopLaws.{StopLaws}
use Rattle.csvw_records.specs.FrontLaws.{FrontLaws}

pub record RecordLaws : Type 0 where
  pub texts : TextLaws
  pub terminators : TerminatorLaws
  pub passes : PassLaws
  pub rows : RowLaws
  pub parts : PartLaws
  pub stops : StopLaws
  pub fronts : FrontLaws

-- all these laws hold: one fact, which a search for proofs doesn't look into
unfoldable pub RecordsAreLawful : Type 0
RecordsAreLawful = RecordLaws

pub laws_of : RecordsAreLawful → RecordLaws
unfolding RecordsAreLawful
laws_of laws = laws
