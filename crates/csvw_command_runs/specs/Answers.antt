-- What the program writes, and its exit status, if the words ask for no run or if the run stops.
use Rattle.std.specs.Prelude.{◌≡◌, ◌⊎◌, ℕ, List, [], ◌∷◌, ◌++◌}
use Rattle.clap.specs.declared.error.kind.ErrorKind.{ErrorKind}
use Rattle.clap.specs.declared.error.kind.ErrorKind.TheVariants as kind
use Rattle.csvw_engine_core.specs.declared.stop.Stop.{Stop}
use Rattle.csvw_engine_core.specs.declared.stop.Stop.TheVariants as stop
use Rattle.csvw_command_runs.specs.Lines.{line_of}
use Rattle.csvw_command_runs.specs.Status.{stop_status}
use Rattle.csvw_streams.specs.Streams.{Stream, IsCut, IsIdle, Sends, Tells}

-- the line of a stop, with its end
abbrev pub ended_line : Stop → List ℕ
ended_line reason = line_of reason ++ (10 ∷ [])

-- a stop is reported by its line and its status
abbrev pub TellsStop : Stop → Stream → ℕ → Type 0
TellsStop reason err status = Tells err (ended_line reason) × (status ≡ stop_status reason)

-- memory ran out
abbrev pub LacksMemory : Stream → Stream → ℕ → Type 0
LacksMemory out err status = IsIdle out × TellsStop stop.Memory err status

-- this text goes to `out`; where that fails, the run stops
abbrev pub GivesText : List ℕ → Stream → Stream → ℕ → Type 0
GivesText text out err status = (Sends out text × IsIdle err × (status ≡ 0)) ⊎ (IsCut out text × TellsStop stop.Write err status)

-- a text is given, of which `clap` says nothing more
abbrev pub GivesHelp : Stream → Stream → ℕ → Type 0
GivesHelp out err status = (text : List ℕ) × GivesText text out err status

-- a text goes to `err`
abbrev pub TellsMistake : Stream → Stream → ℕ → Type 0
TellsMistake out err status = (text : List ℕ) × IsIdle out × Tells err text × (status ≡ 2)

-- help and the version are no mistakes
abbrev pub AnswersKind : ErrorKind → Stream → Stream → ℕ → Type 0
AnswersKind kind.DisplayHelp out err status = GivesHelp out err status
AnswersKind kind.DisplayVersion out err status = GivesHelp out err status
AnswersKind kind.OutOfMemory out err status = ⊥
AnswersKind _ out err status = TellsMistake out err status

-- what answers words that ask for no run
abbrev pub Answers : ErrorKind → Stream → Stream → ℕ → Type 0
Answers k out err status = LacksMemory out err status ⊎ AnswersKind k out err status

-- a text on codes is given, or there is no such code, or memory ran out
abbrev pub Gives : Stream → Stream → ℕ → Type 0
Gives out err status = GivesHelp out err status ⊎ (TellsMistake out err status ⊎ LacksMemory out err status)
