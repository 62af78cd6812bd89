use Rattle.std.proofs.Common.{flat_map, subst}
use Rattle.std.specs.List.Sorted.{IsPermutation}
use Rattle.std.proofs.lemmas.List.Sorted.{IsPermutation-trans}
use Rattle.csvw_key_records.specs.RecordFaults.{record_faults}
use Rattle.csvw_row_keys.specs.RecordLaws.{all_of}
use Rattle.csvw_row_keys.specs.RowRecords.{records_of}
use Rattle.csvw_row_keys.proofs.laws.records_find_faults_of_parts.Goals as goal

pub returns : goal.returns
returns c = λ rules parts records ascend same.
    let all = records_of rules (all_of parts) in
    subst (λ faults. IsPermutation faults (record_faults records)) (c.records_find_key_faults.ensures rules (all_of parts) ascend)
    (c.permutes_faults.ensures all records
    (IsPermutation-trans all (flat_map (records_of rules) parts) records (c.parts_have_all_records.ensures rules parts) same))
