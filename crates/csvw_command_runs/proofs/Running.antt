-- What `plain` leaves, as a run of the program.
use Rattle.std.proofs.Common.{◌≡◌, ℕ, List, [], ◌∷◌, Option, Result}
use Rattle.csvw_streams.specs.declared.counted.Counted.{Counted}
use Rattle.csvw_streams.specs.Counted.{inner_of, failures_of}
use Rattle.csvw_streams.specs.Streams.{Stream, stream_of}
use Rattle.csvw_meta.specs.Document.{plain_description}
use Rattle.csvw_triples_core.specs.declared.mode.Mode.TheVariants as mode
use Rattle.csvw_report.specs.declared.outcome.Outcome.{Outcome}
use Rattle.csvw_engine_core.specs.declared.stop.Stop.{Stop}
use Rattle.csvw_engine.specs.ReadOrder.{AreTableByTable}
use Rattle.csvw_engine.specs.Runs.{Runs}
use Rattle.csvw_command_runs.specs.Plain.{RunsOver}
use Rattle.csvw_command_runs.specs.Groups.{EndsSo}
use Rattle.csvw_command_runs.proofs.Ending.{ends}

pub runs_over : {O R V : Type 0} (closes : O → Counted R → O → Type 0) (remaining : R → Option (List ℕ)) (told : V → Option (List ℕ)) (url : List ℕ)
    (input left : Counted R) (reader : R) (between new : O) (out : Stream) (err reported last : Counted V) (result : Result Outcome Stop)
    → (status : ℕ) → inner_of input ≡ reader → failures_of input ≡ 0 → closes between left new
    → Runs remaining AreTableByTable (plain_description url) mode.Minimal (input ∷ []) (left ∷ []) out (stream_of told err reported) result
    → EndsSo result (stream_of told reported last) status
    → RunsOver closes remaining url reader between new out (stream_of told err last) status
runs_over closes remaining told url input left reader between new out err reported last result status inner failures closed runs end = record {
  input = input;
  is_reader = inner;
  steady = failures;
  left = left;
  closed = closed;
  runs = ends (Runs remaining AreTableByTable (plain_description url) mode.Minimal (input ∷ []) (left ∷ []) out) (told (inner_of err)) (told
      (inner_of reported))
      (told (inner_of last))
      (failures_of err) (failures_of reported) (failures_of last) result status runs end;
}
