-- Without memory for the resources the stop is reported alone.
use Rattle.csvw_streams.specs.Streams.{stream_of}
use Rattle.csvw_engine_core.specs.declared.stop.Stop.TheVariants as stop
use Rattle.csvw_command.proofs.Looking.{stops}
use Rattle.csvw_command.proofs.look.run_inspect.Goals as goal

pub returns-in_default-clause-runs : goal.returns-in_default-clause-runs
returns-in_default-clause-runs g c =
    stops c.args.asked.now.explain (stream_of g.V.Write.contents c.args.err.now c.tell_stop.new.err) c.tell_stop.result stop.Memory
    c.tell_stop.ensures
