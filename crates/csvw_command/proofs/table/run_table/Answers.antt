-- The run is that without the explanation. A text follows its stop.
use Rattle.std.proofs.Common.{inr}
use Rattle.csvw_streams.specs.Counted.{inner_of, failures_of}
use Rattle.csvw_command.proofs.table.run_table.Goals as goal

pub returns-clause-runs : goal.returns-clause-runs
returns-clause-runs g c = rw c.if-not-table.false (inr (record {
  between = c.run_plain-ended.new.opener;
  is_stop = c.if-status-lt-REFUSED.false;
  explained = record {
    held = g.V.Write.contents (inner_of c.run_plain-ended.new.err);
    failures = failures_of c.run_plain-ended.new.err;
    told = c.run_plain-ended.ensures.runs;
    text = c.explain_table.ensures;
  };
}))
