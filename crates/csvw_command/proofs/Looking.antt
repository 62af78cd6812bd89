-- A stop that is reported and not explained, whether an explanation was asked for or not.
use Rattle.std.proofs.Common.{ℕ, Bool, true, false, inl, inr}
use Rattle.csvw_streams.specs.Streams.{Stream}
use Rattle.csvw_engine_core.specs.declared.stop.Stop.{Stop}
use Rattle.csvw_command_runs.specs.Answers.{TellsStop}
use Rattle.csvw_command.specs.Commands.{RunsInspect}

pub stops : (explain : Bool) (err : Stream) (status : ℕ) (reason : Stop) → TellsStop reason err status → RunsInspect explain err status
stops false err status reason told = inr (reason, told)
stops true err status reason told = inl (inr (reason, told))
