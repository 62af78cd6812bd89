-- The reader is that of the file, and what `plain` says of it holds.
use Rattle.std.proofs.Common.{Some, subst, sym}
use Rattle.csvw_streams.specs.Streams.{stream_of}
use Rattle.csvw_command_runs.specs.Plain.{RunsPlain}
use Rattle.csvw_command_runs.proofs.Running.{runs_over}
use Rattle.csvw_command_runs.proofs.plain.run_plain.Goals as goal

pub returns-clause-runs : goal.returns-clause-runs
returns-clause-runs g c =
    subst (λ status. RunsPlain g.O.Opener.opens g.O.Opener.closes g.O.Reader.Read.remaining c.args.table.url.now c.args.table.file.now c.args.opener.now
    c.close.new.self (stream_of g.W.Write.contents c.args.out.now c.plain-ran.new.out) (stream_of g.V.Write.contents c.args.err.now c.tell_end-status.new.err)
    status) (sym c.end_of-2.ensures) (record {
      opened = Some c.in-Some.reader;
      between = c.open.new.self;
      is_opened = c.in-Some.ensures;
      runs = runs_over g.O.Opener.closes g.O.Reader.Read.remaining g.V.Write.contents c.args.table.url.now c.new-input.result c.plain-ran.new.input
          c.in-Some.reader c.open.new.self c.close.new.self
          (stream_of g.W.Write.contents c.args.out.now c.plain-ran.new.out)
          c.args.err.now c.plain-ran.new.report c.tell_end-status.new.err c.plain-ran.result c.tell_end-status.result c.new-input.ensures.inner
          c.new-input.ensures.failures c.close.ensures c.plain-ran.ensures c.tell_end-status.ensures.end;
    })
