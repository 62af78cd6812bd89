-- A run whose report is shown in another form, whose warnings count, or whose stop is explained: `ShowsRun`.
use Rattle.std.specs.Prelude.{◌≡◌, ◌⊎◌, ℕ, Bool, true, List, Option}
use Rattle.clap.specs.Words.{Text}
use Rattle.csvw_streams.specs.declared.counted.Counted.{Counted}
use Rattle.csvw_streams.specs.Streams.{Stream}
use Rattle.csvw_triples_core.specs.declared.mode.Mode.{Mode}
use Rattle.csvw_triples_core.specs.declared.mode.Mode.TheVariants as mode
use Rattle.csvw_command_core.specs.declared.request.Group.{Group}
use Rattle.csvw_command_runs.specs.Groups.{RunsGroup}

-- The status is that of the run, or 4 where the page can't be made or sent, or 1 where warnings count.
abbrev pub IsShownStatus : Bool → ℕ → ℕ → Type 0
IsShownStatus strict own status = (status ≡ own) ⊎ ((status ≡ 4) ⊎ ((strict ≡ true) × (own ≡ 0) × (status ≡ 1)))

-- the stream of a graph is this one; a validation has no graph
abbrev pub IsGraphTo : Mode → Stream → Stream → Type 0
IsGraphTo mode.Validate graph out = Unit {0}
IsGraphTo mode.Minimal graph out = graph ≡ out
IsGraphTo mode.Standard graph out = graph ≡ out

-- The group is read, and its graph written, as by a run, up to some moment; then the report or the stop is shown.
pub record ShowsRun {O R : Type 0} (opens : O → Text → Option R → O → Type 0) (closes : O → Counted R → O → Type 0) (remaining : R → Option (List ℕ))
    (mode : Mode) (group : Group) (old : O) (out : Stream) (status : ℕ) : Type 0 where
  pub between : O
  pub first : Stream
  pub second : Stream
  pub own : ℕ
  pub runs : RunsGroup opens closes remaining mode group old between first second own
  pub is_graph : IsGraphTo mode first out
  pub status_is : IsShownStatus group.reporting.strict own status
