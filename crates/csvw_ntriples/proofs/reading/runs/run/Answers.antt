-- One more character, and the end of the run.
use Rattle.std.proofs.Common.{sym, ◌∙◌}
use Rattle.csvw_ntriples.specs.Reading.{is_in}
use Rattle.csvw_ntriples.proofs.Runs.{run_at, run_on, run_all}
use Rattle.csvw_ntriples.proofs.reading.runs.run.Goals as goal

pub loop-i-preserved : goal.loop-i-preserved
loop-i-preserved c =
    run_on (is_in c.args.class) c.args.text.now c.loop-i.i c.index-text-i.result c.loop-i-test.true c.loop-i.invariant c.index-text-i.is
    (sym c.is_in.ensures ∙ c.if-not-is_in.false)

pub returns-then-not-is_in : goal.returns-then-not-is_in
returns-then-not-is_in c =
    rw (c.split_at.ensures.front, c.split_at.ensures.back)
    (run_at (is_in c.args.class) c.args.text.now c.loop-i.i c.index-text-i.result c.loop-i-test.true c.loop-i.invariant c.index-text-i.is
    (sym c.is_in.ensures ∙ c.if-not-is_in.true))

pub returns : goal.returns
returns c =
    rw (c.split_at-2.ensures.front, c.split_at-2.ensures.back)
    (run_all (is_in c.args.class) c.args.text.now c.loop-i.i c.loop-i-test.false c.loop-i.invariant)
