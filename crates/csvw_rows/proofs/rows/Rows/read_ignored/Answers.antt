use Rattle.csvw_rows.specs.SourceState.{rest_bytes}
use Rattle.csvw_records.specs.RecordLaws.{laws_of}
use Rattle.csvw_rows.proofs.IgnoredLemmas.{settled_searched}
use Rattle.csvw_rows.proofs.OpenFronts.{ignored_front}
use Rattle.csvw_rows.proofs.rows.Rows.read_ignored.Goals as goal

pub invariant_of-self-clause-none_ends : goal.invariant_of-self-clause-none_ends
invariant_of-self-clause-none_ends c =
    let s = c.args.self.now in
    settled_searched (laws_of c.record_laws.ensures) s.rules.dialect
    (rest_bytes s.source) c.settled_len-self.result c.settled_len-self.ensures.bytes c.in-None.ensures.0

pub open_front-requires : goal.open_front-requires
open_front-requires c =
    let k = c.requires in
    let e = c.settled_len-self.ensures in
    ignored_front (laws_of c.record_laws.ensures) _ c.settled_len-self.result
    (record { some = k.some; few = k.few; ignored = k.ignored }) c.in-None.ensures.0 c.in-None.ensures.1
    (record { bytes = e.bytes; chars = e.chars; text = e.text })
