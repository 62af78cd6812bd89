-- The run of one table without metadata: `RunsPlain`.
use Rattle.std.specs.Prelude.{◌≡◌, ◌⊎◌, ℕ, List, [], ◌∷◌, Option, None, Some}
use Rattle.clap.specs.Words.{Text}
use Rattle.csvw_streams.specs.declared.counted.Counted.{Counted}
use Rattle.csvw_streams.specs.Counted.{inner_of, failures_of}
use Rattle.csvw_streams.specs.Streams.{Stream, IsIdle}
use Rattle.csvw_triples_core.specs.declared.mode.Mode.TheVariants as mode
use Rattle.csvw_engine_core.specs.declared.stop.Stop.TheVariants as stop
use Rattle.csvw_meta.specs.Document.{plain_description}
use Rattle.csvw_engine.specs.ReadOrder.{AreTableByTable}
use Rattle.csvw_engine.specs.Runs.{Runs}
use Rattle.csvw_command_runs.specs.Answers.{TellsStop}
use Rattle.csvw_command_runs.specs.Groups.{ComesToEnd, StopsEarly}

-- The table at this URL is read from a reader that hasn't failed, and converted; the report goes to `err`. The reader is handed back as the run
-- left it.
pub record RunsOver {O R : Type 0} (closes : O → Counted R → O → Type 0) (remaining : R → Option (List ℕ)) (url : Text) (reader : R) (between new : O)
    (out err : Stream) (status : ℕ) : Type 0 where
  pub input : Counted R
  pub is_reader : inner_of input ≡ reader
  pub steady : failures_of input ≡ 0
  pub left : Counted R
  pub closed : closes between left new
  pub runs : ComesToEnd (Runs remaining AreTableByTable (plain_description url) mode.Minimal (input ∷ []) (left ∷ []) out) err status
      ⊎ StopsEarly (Runs remaining AreTableByTable (plain_description url) mode.Minimal (input ∷ []) (left ∷ []) out) err status

-- what follows from the reader that a file's path gave
abbrev pub RunsOn : {O R : Type 0} → (O → Counted R → O → Type 0) → (R → Option (List ℕ)) → Text → O → O → Stream → Stream → ℕ → Option R → Type 0
RunsOn closes remaining url between new out err status None = (new ≡ between) × IsIdle out × TellsStop stop.Read err status
RunsOn closes remaining url between new out err status (Some reader) = RunsOver closes remaining url reader between new out err status

-- the file is opened, once, and its reader read as the table at this URL
pub record RunsPlain {O R : Type 0} (opens : O → Text → Option R → O → Type 0) (closes : O → Counted R → O → Type 0) (remaining : R → Option (List ℕ))
    (url file : Text) (old new : O) (out err : Stream) (status : ℕ) : Type 0 where
  pub opened : Option R
  pub between : O
  pub is_opened : opens old file opened between
  pub runs : RunsOn closes remaining url between new out err status opened
