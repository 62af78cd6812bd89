-- One run of the program: its words, its files, its two streams and its exit status: `Commands`.
use Rattle.std.specs.Prelude.{◌≡◌, ◌⊎◌, ◌≤◌, ℕ, Bool, List, Option, false, true}
use Rattle.clap.specs.Words.{HasKind, Text, fault_of, kind_of}
use Rattle.clap.specs.declared.error.Error.{Error}
use Rattle.csvw_engine_core.specs.declared.stop.Stop.{Stop}
use Rattle.csvw_triples_core.specs.declared.mode.Mode.TheVariants as mode
use Rattle.csvw_command_core.specs.Asked.{Asks, program_app}
use Rattle.csvw_command_core.specs.Mistakes.{IsMistaken, IsSound}
use Rattle.csvw_command_core.specs.declared.request.Request.{Request}
use Rattle.csvw_command_core.specs.declared.request.Request.TheVariants.{Check, Completions, Convert, Draft, Explain, Inspect, Keys, Manual, Plain, Report, Split, Validate}
use Rattle.csvw_command_runs.specs.Answers.{Answers, Gives, TellsMistake, TellsStop}
use Rattle.csvw_command_runs.specs.Defaults.{is_default, is_whole}
use Rattle.csvw_command_runs.specs.Groups.{RunsGroup, conversion}
use Rattle.csvw_command_runs.specs.Plain.{RunsPlain}
use Rattle.csvw_command.specs.Explained.{IsExplained}
use Rattle.csvw_command.specs.Shown.{ShowsRun}
use Rattle.csvw_triples_core.specs.declared.mode.Mode.{Mode}
use Rattle.csvw_command_core.specs.declared.request.Group.{Group}
use Rattle.csvw_streams.specs.declared.counted.Counted.{Counted}
use Rattle.csvw_streams.specs.Streams.{Stream, IsIdle}

-- The table is read as by a run without the explanation, which stops. Behind the line of the stop a text follows, for which files may be opened.
pub record ExplainsPlain {O R : Type 0} (opens : O → Text → Option R → O → Type 0) (closes : O → Counted R → O → Type 0) (remaining : R → Option (List ℕ))
    (url file : Text) (old : O) (out err : Stream) (status : ℕ) : Type 0 where
  pub between : O
  pub is_stop : 3 ≤ status
  pub explained : IsExplained (λ told. RunsPlain opens closes remaining url file old between out told status) err

-- the run of one table, whose stop is explained if the flag for that is there
abbrev pub RunsTable : {O R : Type 0} → (O → Text → Option R → O → Type 0) → (O → Counted R → O → Type 0) → (R → Option (List ℕ)) → Bool → Text → Text
    → O → O → Stream → Stream → ℕ → Type 0
RunsTable opens closes remaining false url file old new out err status = RunsPlain opens closes remaining url file old new out err status
RunsTable opens closes remaining true url file old new out err status =
    RunsPlain opens closes remaining url file old new out err status ⊎ ExplainsPlain opens closes remaining url file old out err status

-- A run over a group is `RunsGroup`, where its report and stop are told as a run tells them; else they are shown after it. Of a run over one part
-- nothing is said here but the bound of the status.
pub record RunsReport {O R : Type 0} (opens : O → Text → Option R → O → Type 0) (closes : O → Counted R → O → Type 0) (remaining : R → Option (List ℕ))
    (mode : Mode) (group : Group) (old new : O) (out err : Stream) (status : ℕ) : Type 0 where
  pub default : is_whole group ≡ true → is_default group ≡ true → RunsGroup opens closes remaining mode group old new out err status
  pub shown : is_whole group ≡ true → is_default group ≡ false → ShowsRun opens closes remaining mode group old out status
  pub bound : status ≤ 4

-- what was asked for is shown, or the stop is told
abbrev pub EndsOrStops : Stream → ℕ → Type 0
EndsOrStops err status = (IsIdle err × (status ≡ 0)) ⊎ ((reason : Stop) × TellsStop reason err status)

-- the same, but the stop is explained if the flag for that is there
abbrev pub RunsInspect : Bool → Stream → ℕ → Type 0
RunsInspect false err status = EndsOrStops err status
RunsInspect true err status = EndsOrStops err status ⊎ ((reason : Stop) × IsExplained (λ told. TellsStop reason told status) err)

-- what is asked for is done; of a check, a draft, a split, keys and reports nothing is said but the bound of the
-- status
abbrev pub RunsRequest : {O R : Type 0} → (O → Text → Option R → O → Type 0) → (O → Counted R → O → Type 0) → (R → Option (List ℕ)) → Request → O → O
    → Stream → Stream → ℕ → Type 0
RunsRequest opens closes remaining (Plain url file line_buffered explain progress) old new out err status =
    RunsTable opens closes remaining explain url.now file.now old new out err status
RunsRequest opens closes remaining (Validate group) old new out err status = RunsReport opens closes remaining mode.Validate group old new out err status
RunsRequest opens closes remaining (Convert group minimal line_buffered) old new out err status =
    RunsReport opens closes remaining (conversion minimal) group old new out err status
RunsRequest opens closes remaining (Check asked) old new out err status = status ≤ 4
RunsRequest opens closes remaining (Explain code) old new out err status = (new ≡ old) × Gives out err status
RunsRequest opens closes remaining (Inspect asked) old new out err status = RunsInspect asked.explain err status
RunsRequest opens closes remaining (Draft asked) old new out err status = status ≤ 4
RunsRequest opens closes remaining (Split asked) old new out err status = status ≤ 4
RunsRequest opens closes remaining (Keys asked) old new out err status = status ≤ 4
RunsRequest opens closes remaining (Report files) old new out err status = status ≤ 4
RunsRequest opens closes remaining (Completions shell) old new out err status = (new ≡ old) × Gives out err status
RunsRequest opens closes remaining Manual old new out err status = (new ≡ old) × Gives out err status

-- the words ask for something, and it is done
pub record RunsAsked {O R : Type 0} (opens : O → Text → Option R → O → Type 0) (closes : O → Counted R → O → Type 0) (remaining : R → Option (List ℕ))
    (words : List Text) (old new : O) (out err : Stream) (status : ℕ) : Type 0 where
  pub request : Request
  pub asks : Asks words request
  pub sound : IsSound request
  pub runs : RunsRequest opens closes remaining request old new out err status

-- the words ask for what is a mistake, which is told; no file is opened
pub record AsksMistaken {O : Type 0} (words : List Text) (old new : O) (out err : Stream) (status : ℕ) : Type 0 where
  pub request : Request
  pub asks : Asks words request
  pub mistaken : IsMistaken request
  pub opens_none : new ≡ old
  pub told : TellsMistake out err status

-- the words ask for no run, and they are answered; no file is opened
pub record AnswersWords {O : Type 0} (words : List Text) (old new : O) (out err : Stream) (status : ℕ) : Type 0 where
  pub answer : Error
  pub has_kind : HasKind (fault_of program_app words) answer
  pub opens_none : new ≡ old
  pub answers : Answers (kind_of answer) out err status

-- What one run does with its words, its files and its two streams, and the status that it ends with.
abbrev pub Commands : {O R : Type 0} → (O → Text → Option R → O → Type 0) → (O → Counted R → O → Type 0) → (R → Option (List ℕ)) → List Text → O → O
    → Stream → Stream → ℕ → Type 0
Commands opens closes remaining words old new out err status =
    RunsAsked opens closes remaining words old new out err status ⊎ (AsksMistaken words old new out err status ⊎ AnswersWords words old new out err status)
