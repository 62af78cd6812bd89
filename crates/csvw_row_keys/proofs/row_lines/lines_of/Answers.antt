-- The line and the record of one row more.
use Rattle.std.proofs.Common.{◌∙◌, ◌++◌, ap}
use Rattle.csvw_row_keys.specs.Listings.{listed_records, row_lines}
use Rattle.csvw_row_keys.proofs.FitLemmas.{fit_next}
use Rattle.csvw_row_keys.proofs.ListLemmas.{one_more}
use Rattle.csvw_row_keys.proofs.row_lines.lines_of.Goals as goal

pub loop-row-preserved : goal.loop-row-preserved
loop-row-preserved c =
    let listing = c.args.listing.now in
    let rows = c.args.rows.now in
    let i = c.loop-row.row-index in
    let row = c.row-item.result in
    record {
      lines = c.in_ok-push_row.ensures.lines ∙ ap (λ text. text ++ row_lines listing row) c.loop-row.invariant.lines
          ∙ one_more (row_lines listing) rows i row c.loop-row-test.true c.row-item.is;
      fit = fit_next (listed_records listing) rows i row c.loop-row-test.true c.row-item.is c.loop-row.invariant.fit c.in_ok-push_row.ensures.fit;
    }
