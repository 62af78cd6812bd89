-- What was sent grows by the lines of some rows.
use Rattle.std.proofs.Common.{◌≤◌, arith}
use Rattle.std.proofs.lemmas.Result.{err_from_is_err_and}
use Rattle.csvw_row_keys.specs.Listings.{listed_records, row_lines}
use Rattle.csvw_row_keys.proofs.FitLemmas.{fit_between}
use Rattle.csvw_row_keys.proofs.Sending.{all_sent, sends_between, stops_between}
use Rattle.csvw_row_keys.proofs.writing.write_rows.Goals as goal

pub returns-in_err-send_rows-clause-stop : goal.returns-in_err-send_rows-clause-stop
returns-in_err-send_rows-clause-stop g c =
    let p = err_from_is_err_and c.from_residual.result c.from_residual.ensures.1 in
    rw (p.1, p.2)
    (stops_between (row_lines c.args.listing.now) c.args.rows.now g.V.Write.contents c.args.w.now c.loop-sent.w c.send_rows.new.w
    c.loop-sent.sent c.min-end.result (omega arith) _ c.loop-sent.invariant.written c.in_err-send_rows.ensures.stop)

pub loop-sent-preserved : goal.loop-sent-preserved
loop-sent-preserved g c =
    let later : c.loop-sent.sent ≤ c.min-end.result = omega arith in
    record {
      within = omega arith;
      written = sends_between (row_lines c.args.listing.now) c.args.rows.now g.V.Write.contents c.args.w.now c.loop-sent.w c.send_rows.new.w
          c.loop-sent.sent c.min-end.result later c.loop-sent.invariant.written c.in_ok-send_rows.ensures.ok;
      fit = fit_between (listed_records c.args.listing.now) c.args.rows.now c.loop-sent.sent c.min-end.result later
          c.loop-sent.invariant.fit c.in_ok-send_rows.ensures.fit;
    }

pub returns-clause-ok : goal.returns-clause-ok
returns-clause-ok g c =
    all_sent (row_lines c.args.listing.now) c.args.rows.now _ c.loop-sent.sent c.loop-sent-test.false c.loop-sent.invariant.written
