-- What a run over a reader of records reads and writes: `JudgesAll`, `JudgesFront`.
use Rattle.std.specs.Prelude.{◌≡◌, ◌⊎◌, ◌==◌, ◌≤◌, ◌^◌, ℕ, Bool, List, [], flat_map, length, take, Option, Result, Ok, Err}
use Rattle.std.specs.Io.KnownBytes.{Consumes, IsAtEnd}
use Rattle.csvw_fault.specs.declared.fault.Fault.{Fault}
use Rattle.csvw_report.specs.Report.{line}
use Rattle.csvw_streams.specs.declared.counted.Counted.{Counted}
use Rattle.csvw_streams.specs.Count.{one_more}
use Rattle.csvw_streams.specs.Counted.{inner_of, failures_of}
use Rattle.csvw_streams.specs.Streams.{Sends, stream_of}
use Rattle.csvw_key_records.specs.declared.record.KeyRecord.{KeyRecord}
use Rattle.csvw_key_records.specs.declared.stop.KeyStop.{KeyStop}
use Rattle.csvw_key_records.specs.declared.stop.KeyStop.TheVariants as stop
use Rattle.csvw_key_records.specs.declared.stop.LineFault.TheVariants as fault
use Rattle.csvw_key_records.specs.Records.{line_of}
use Rattle.csvw_key_records.specs.Runs.{AreJudged, Halts}

-- a read gave so many bytes, none at the end; or it failed
abbrev pub Gives : {R : Type 0} → (R → Option (List ℕ)) → Counted R → Counted R → List ℕ → Result ℕ KeyStop → Type 0
Gives remaining old new room (Ok n) = (n ≤ length room) × Consumes (remaining (inner_of old)) (remaining (inner_of new)) (take n room)
    × (n ≡ 0 → IsAtEnd (remaining (inner_of new))) × (failures_of new ≡ failures_of old)
Gives remaining old new room (Err stop.Read) = Consumes (remaining (inner_of old)) (remaining (inner_of new)) []
    × (failures_of new ≡ one_more (failures_of old))
Gives remaining old new room (Err other) = ⊥

-- the reader had the lines of sorted records and no more, and the lines of their faults were sent
pub record JudgesAll {R W : Type 0} (remaining : R → Option (List ℕ)) (contents : W → Option (List ℕ)) (old new : Counted R) (out_old out_new : Counted W)
    (valid : Bool) : Type 0 where
  pub records : List KeyRecord
  pub faults : List Fault
  pub judged : AreJudged records faults
  pub consumed : Consumes (remaining (inner_of old)) (remaining (inner_of new)) (flat_map line_of records)
  pub at_end : IsAtEnd (remaining (inner_of new))
  pub steady : failures_of new ≡ failures_of old
  pub sent : Sends (stream_of contents out_old out_new) (flat_map line faults)
  pub valid_is : valid ≡ (length faults == 0)

-- after `Read` the reader failed, or it gave 2^40 bytes or more; after another stop it did not fail
abbrev pub Blames : {R : Type 0} → Counted R → Counted R → List ℕ → KeyStop → Type 0
Blames old new text stop.Memory = failures_of new ≡ failures_of old
Blames old new text stop.Read = (failures_of new ≡ one_more (failures_of old)) ⊎ ((2 ^ 40 ≤ length text) × (failures_of new ≡ failures_of old))
Blames old new text stop.Write = failures_of new ≡ failures_of old
Blames old new text (stop.Line n wrong) = failures_of new ≡ failures_of old

-- a last line without a line feed is at the end of what the reader has
abbrev pub EndsAt : Option (List ℕ) → KeyStop → Type 0
EndsAt left stop.Memory = Unit {0}
EndsAt left stop.Read = Unit {0}
EndsAt left stop.Write = Unit {0}
EndsAt left (stop.Line n fault.NoRecord) = Unit {0}
EndsAt left (stop.Line n fault.Cut) = IsAtEnd left
EndsAt left (stop.Line n fault.TooLong) = Unit {0}
EndsAt left (stop.Line n fault.Order) = Unit {0}
EndsAt left (stop.Line n fault.Twice) = Unit {0}
EndsAt left (stop.Line n fault.Row) = Unit {0}

-- the reader gave this text, in which the run stopped
pub record JudgesFront {R W : Type 0} (remaining : R → Option (List ℕ)) (contents : W → Option (List ℕ)) (old new : Counted R) (out_old out_new : Counted W)
    (reason : KeyStop) : Type 0 where
  pub text : List ℕ
  pub halts : Halts text (stream_of contents out_old out_new) reason
  pub consumed : Consumes (remaining (inner_of old)) (remaining (inner_of new)) text
  pub blames : Blames old new text reason
  pub ended : EndsAt (remaining (inner_of new)) reason
