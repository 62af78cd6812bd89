-- A run over a group, in the mode that the words ask for.
use Rattle.std.proofs.Common.{subst}
use Rattle.csvw_streams.specs.Streams.{stream_of}
use Rattle.csvw_triples_core.specs.declared.mode.Mode.{Mode}
use Rattle.csvw_command.specs.Commands.{RunsReport}
use Rattle.csvw_command.proofs.program.run_request.Goals as goal

pub returns-in-Validate-clause-runs : goal.returns-in-Validate-clause-runs
returns-in-Validate-clause-runs g c = rw c.in-Validate.is (record {
  default = c.run_report.ensures.default;
  shown = c.run_report.ensures.shown;
  bound = c.run_report.ensures.bound;
})

pub returns-in-Convert-clause-runs : goal.returns-in-Convert-clause-runs
returns-in-Convert-clause-runs g c =
    let ran = c.run_report-in-Convert in
    rw c.in-Convert.is (subst
    (λ (m : Mode). RunsReport g.O.Opener.opens g.O.Opener.closes g.O.Reader.Read.remaining m c.in-Convert.group c.args.opener.now ran.new.opener
    (stream_of g.W.Write.contents c.args.out.now ran.new.out) (stream_of g.V.Write.contents c.args.err.now ran.new.err) ran.result) c.conversion-mode.ensures
    (record { default = ran.ensures.default; shown = ran.ensures.shown; bound = ran.ensures.bound }))
