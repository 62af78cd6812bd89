-- A run over the lines of sorted records, which writes the lines of their faults: `Runs`, `Halts`.
use Rattle.std.specs.Prelude.{◌≡◌, ◌≢◌, ◌==◌, ℕ, suc, ◌+◌, ◌-◌, ◌<◌, ◌^◌, min, Bool, false, List, [], ◌∷◌, ◌++◌, flat_map, length, Option, None, Some}
use Rattle.std.specs.List.{All, list_any}
use Rattle.std.specs.List.Sorted.{IsPermutation}
use Rattle.csvw_fault.specs.declared.fault.Fault.{Fault}
use Rattle.csvw_report.specs.Report.{line}
use Rattle.csvw_streams.specs.declared.counted.Counted.{Counted}
use Rattle.csvw_streams.specs.Counted.{inner_of, failures_of}
use Rattle.csvw_streams.specs.Streams.{Stream, IsCut, Sends}
use Rattle.csvw_key_records.specs.declared.feed.KeyFeed.{KeyFeed}
use Rattle.csvw_key_records.specs.declared.judge.Disorder.{Disorder}
use Rattle.csvw_key_records.specs.declared.judge.Disorder.TheVariants as why
use Rattle.csvw_key_records.specs.declared.record.KeyRecord.{KeyRecord}
use Rattle.csvw_key_records.specs.declared.run.KeyRun.{KeyRun}
use Rattle.csvw_key_records.specs.declared.stop.KeyStop.{KeyStop}
use Rattle.csvw_key_records.specs.declared.stop.KeyStop.TheVariants as stop
use Rattle.csvw_key_records.specs.declared.stop.LineFault.TheVariants as fault
use Rattle.csvw_key_records.specs.Judging.{Holds, IsDisorder}
use Rattle.csvw_key_records.specs.RecordFaults.{record_faults}
use Rattle.csvw_key_records.specs.Records.{Fits, line_of}
use Rattle.csvw_key_records.specs.Sorted.{AreSorted}

-- the records fit, they are sorted, and these are their faults
pub record AreJudged (records : List KeyRecord) (faults : List Fault) : Type 0 where
  pub fit : All Fits records
  pub sorted : AreSorted records
  pub found : IsPermutation (record_faults records) faults

-- a count, which stays at the greatest u64
abbrev pub counted : ℕ → ℕ
counted n = min n (2 ^ 64 - 1)

-- one more
abbrev pub next : ℕ → ℕ
next n = min (n + 1) (2 ^ 64 - 1)

-- the stop of a line that can't follow so many lines
abbrev pub stop_by : ℕ → Disorder → KeyStop
stop_by lines why.Memory = stop.Memory
stop_by lines why.Order = stop.Line (next lines) fault.Order
stop_by lines why.Twice = stop.Line (next lines) fault.Twice
stop_by lines why.Row = stop.Line (next lines) fault.Row

-- a stream since its writer held these bytes and had failed so often
abbrev pub since : {W : Type 0} → (W → Option (List ℕ)) → Option (List ℕ) → ℕ → Counted W → Stream
since contents held failures w = record { held = held; holds = contents (inner_of w); failures = failures; failed = failures_of w }

-- the run took these records, and these are their faults
pub record Took (run : KeyRun) (records : List KeyRecord) (faults : List Fault) : Type 0 where
  pub holds : Holds run.judge records faults
  pub lines : run.lines ≡ counted (length records)
  pub valid : run.valid ≡ (length faults == 0)

-- the run took this text, the lines of records, and sent the lines of their faults
pub record Runs (run : KeyRun) (text : List ℕ) (s : Stream) : Type 0 where
  pub records : List KeyRecord
  pub faults : List Fault
  pub took : Took run records faults
  pub is_text : text ≡ flat_map line_of records
  pub sends : Sends s (flat_map line faults)

-- after `Write` the stream failed; after another stop it did not
abbrev pub SentBefore : KeyStop → Stream → List ℕ → Type 0
SentBefore stop.Memory s text = Sends s text
SentBefore stop.Read s text = Sends s text
SentBefore stop.Write s text = IsCut s text
SentBefore (stop.Line n wrong) s text = Sends s text

-- the stop has the number of the line after so many lines
abbrev pub IsAfter : ℕ → KeyStop → Type 0
IsAfter lines stop.Memory = Unit {0}
IsAfter lines stop.Read = Unit {0}
IsAfter lines stop.Write = Unit {0}
IsAfter lines (stop.Line n wrong) = n ≡ counted (suc lines)

-- the stop is not that of the reader, or of its end
abbrev pub IsOwn : KeyStop → Type 0
IsOwn stop.Memory = Unit {0}
IsOwn stop.Read = ⊥
IsOwn stop.Write = Unit {0}
IsOwn (stop.Line n fault.NoRecord) = Unit {0}
IsOwn (stop.Line n fault.Cut) = ⊥
IsOwn (stop.Line n fault.TooLong) = Unit {0}
IsOwn (stop.Line n fault.Order) = Unit {0}
IsOwn (stop.Line n fault.Twice) = Unit {0}
IsOwn (stop.Line n fault.Row) = Unit {0}

-- no line ends in this text
abbrev pub HasNoEnd : List ℕ → Type 0
HasNoEnd text = list_any (λ b. b == 10) text ≡ false

-- one line: the first line feed is at its end
pub record IsLine (text : List ℕ) : Type 0 where
  pub body : List ℕ
  pub is : text ≡ body ++ 10 ∷ []
  pub no_end : HasNoEnd body

-- the first line of the text is that of no record
pub record HasNoRecord (text : List ℕ) : Type 0 where
  pub first : List ℕ
  pub after : List ℕ
  pub begins : text ≡ first ++ after
  pub is_line : IsLine first
  pub none : (r : KeyRecord) → Fits r → first ≡ line_of r → ⊥

-- the first line of the text is that of a record which can't follow these
pub record HasDisorder (records : List KeyRecord) (text : List ℕ) (disorder : Disorder) : Type 0 where
  pub next : KeyRecord
  pub after : List ℕ
  pub fits : Fits next
  pub begins : text ≡ line_of next ++ after
  pub fails : IsDisorder records next disorder

-- what is wrong with the text after the lines of these records
abbrev pub IsWrong : List KeyRecord → List ℕ → KeyStop → Type 0
IsWrong records text stop.Memory = Unit {0}
IsWrong records text stop.Read = Unit {0}
IsWrong records text stop.Write = Unit {0}
IsWrong records text (stop.Line n fault.NoRecord) = HasNoRecord text
IsWrong records text (stop.Line n fault.Cut) = (text ≢ []) × HasNoEnd text
IsWrong records text (stop.Line n fault.TooLong) = (2 ^ 24 < length text) × HasNoEnd text
IsWrong records text (stop.Line n fault.Order) = HasDisorder records text why.Order
IsWrong records text (stop.Line n fault.Twice) = HasDisorder records text why.Twice
IsWrong records text (stop.Line n fault.Row) = HasDisorder records text why.Row

-- the stop is that of a whole line
abbrev pub IsOfLine : KeyStop → Type 0
IsOfLine stop.Memory = Unit {0}
IsOfLine stop.Read = ⊥
IsOfLine stop.Write = Unit {0}
IsOfLine (stop.Line n fault.NoRecord) = Unit {0}
IsOfLine (stop.Line n fault.Cut) = ⊥
IsOfLine (stop.Line n fault.TooLong) = ⊥
IsOfLine (stop.Line n fault.Order) = Unit {0}
IsOfLine (stop.Line n fault.Twice) = Unit {0}
IsOfLine (stop.Line n fault.Row) = Unit {0}

-- a run over this text stopped: it judged the records of a front of the text, and sent the lines of their faults
pub record Halts (text : List ℕ) (s : Stream) (reason : KeyStop) : Type 0 where
  pub records : List KeyRecord
  pub faults : List Fault
  pub rest : List ℕ
  pub judged : AreJudged records faults
  pub is_text : text ≡ flat_map line_of records ++ rest
  pub sent : SentBefore reason s (flat_map line faults)
  pub after : IsAfter (length records) reason
  pub wrong : IsWrong records rest reason

-- a run goes on with this text
abbrev pub GoesOn : {W : Type 0} → (W → Option (List ℕ)) → KeyRun → KeyRun → Counted W → Counted W → List ℕ → Type 0
GoesOn contents old new out_old out_new piece = (text : List ℕ) (held : Option (List ℕ)) (failures : ℕ) → Runs old text (since contents held failures out_old)
    → Runs new (text ++ piece) (since contents held failures out_new)

-- a run stops in this text
abbrev pub StopsIn : {W : Type 0} → (W → Option (List ℕ)) → KeyRun → Counted W → Counted W → List ℕ → KeyStop → Type 0
StopsIn contents old out_old out_new piece reason =
    (text : List ℕ) (held : Option (List ℕ)) (failures : ℕ) → Runs old text (since contents held failures out_old)
    → Halts (text ++ piece) (since contents held failures out_new) reason

-- whether there is no fault, after a line with this one
abbrev pub valid_after : Bool → Option Fault → Bool
valid_after valid None = valid
valid_after valid (Some fault) = false

-- a run goes on with a front of this text, and this rest is left
pub record TakesLines {W : Type 0} (contents : W → Option (List ℕ)) (old new : KeyRun) (out_old out_new : Counted W) (text rest : List ℕ) : Type 0 where
  pub front : List ℕ
  pub parts : text ≡ front ++ rest
  pub goes_on : GoesOn contents old new out_old out_new front

-- the feed took this text, and sent the lines of the faults of the records of its whole lines
pub record Fed (feed : KeyFeed) (text : List ℕ) (s : Stream) : Type 0 where
  pub front : List ℕ
  pub runs : Runs feed.run front s
  pub is_text : text ≡ front ++ feed.unread.items
  pub no_end : HasNoEnd feed.unread.items

-- a feed goes on with this text
abbrev pub Feeds : {W : Type 0} → (W → Option (List ℕ)) → KeyFeed → KeyFeed → Counted W → Counted W → List ℕ → Type 0
Feeds contents old new out_old out_new piece = (text : List ℕ) (held : Option (List ℕ)) (failures : ℕ) → Fed old text (since contents held failures out_old)
    → Fed new (text ++ piece) (since contents held failures out_new)

-- a feed stops in this text
abbrev pub StopsFeed : {W : Type 0} → (W → Option (List ℕ)) → KeyFeed → Counted W → Counted W → List ℕ → KeyStop → Type 0
StopsFeed contents old out_old out_new piece reason =
    (text : List ℕ) (held : Option (List ℕ)) (failures : ℕ) → Fed old text (since contents held failures out_old)
    → Halts (text ++ piece) (since contents held failures out_new) reason

-- the text that was fed is whole lines of records, and this says whether they have no fault
pub record Ends (text : List ℕ) (s : Stream) (valid : Bool) : Type 0 where
  pub records : List KeyRecord
  pub faults : List Fault
  pub judged : AreJudged records faults
  pub is_text : text ≡ flat_map line_of records
  pub sends : Sends s (flat_map line faults)
  pub valid_is : valid ≡ (length faults == 0)

abbrev pub EndsValid : KeyFeed → Bool → Type 0
EndsValid feed valid = (text : List ℕ) (s : Stream) → Fed feed text s → Ends text s valid

-- the text that was fed ends in a line
abbrev pub EndsWrong : KeyFeed → KeyStop → Type 0
EndsWrong feed reason = (text : List ℕ) (s : Stream) → Fed feed text s → Halts text s reason
