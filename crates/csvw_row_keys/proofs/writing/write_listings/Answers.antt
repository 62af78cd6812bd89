-- The lines and the records of one list more.
use Rattle.std.proofs.lemmas.List.Elements.{All-nil}
use Rattle.std.proofs.lemmas.Result.{err_from_is_err_and}
use Rattle.csvw_key_records.specs.Records.{Fits}
use Rattle.csvw_row_keys.specs.Listings.{listing_lines, listing_records}
use Rattle.csvw_row_keys.proofs.FitLemmas.{all_fit, fit_next, is_there}
use Rattle.csvw_row_keys.proofs.Sending.{all_sent, empty_sent, sends_next, stops_next}
use Rattle.csvw_row_keys.proofs.writing.write_listings.Goals as goal

pub loop-listing-init : goal.loop-listing-init
loop-listing-init g c = record {
  written = λ rules tables keeps all. empty_sent g.V.Write.contents c.args.w.now;
  fit = λ rules tables keeps all. All-nil Fits;
}

pub loop-listing-preserved : goal.loop-listing-preserved
loop-listing-preserved g c =
    let listing = c.listing-item.result in
    let listings = c.args.listings.now in
    let i = c.loop-listing.listing-index in
    record {
      written = λ rules tables keeps all.
          sends_next (listing_lines tables) listings g.V.Write.contents c.args.w.now c.loop-listing.w c.write_listing.new.w
          i listing c.loop-listing-test.true c.listing-item.is (c.loop-listing.invariant.written rules tables keeps all)
          (c.in_ok-write_listing.ensures.ok rules tables keeps (is_there rules listings i listing c.loop-listing-test.true c.listing-item.is all));
      fit = λ rules tables keeps all.
          fit_next (listing_records tables) listings i listing c.loop-listing-test.true c.listing-item.is
          (c.loop-listing.invariant.fit rules tables keeps all)
          (c.in_ok-write_listing.ensures.fit rules tables keeps (is_there rules listings i listing c.loop-listing-test.true c.listing-item.is all));
    }

pub returns-in_err-write_listing-clause-stop : goal.returns-in_err-write_listing-clause-stop
returns-in_err-write_listing-clause-stop g c = λ rules tables keeps all.
    let p = err_from_is_err_and c.from_residual.result c.from_residual.ensures.1 in
    let listing = c.listing-item.result in
    let listings = c.args.listings.now in
    let i = c.loop-listing.listing-index in
    rw (p.1, p.2)
    (stops_next (listing_lines tables) listings g.V.Write.contents c.args.w.now c.loop-listing.w c.write_listing.new.w
    i listing c.loop-listing-test.true c.listing-item.is _ (c.loop-listing.invariant.written rules tables keeps all)
    (c.in_err-write_listing.ensures.stop rules tables keeps (is_there rules listings i listing c.loop-listing-test.true c.listing-item.is all)))

pub returns-clause-ok : goal.returns-clause-ok
returns-clause-ok g c = λ rules tables keeps all.
    all_sent (listing_lines tables) c.args.listings.now _ c.loop-listing.listing-index c.loop-listing-test.false
    (c.loop-listing.invariant.written rules tables keeps all)

pub returns-clause-fit : goal.returns-clause-fit
returns-clause-fit g c = λ rules tables keeps all.
    all_fit (listing_records tables) c.args.listings.now c.loop-listing.listing-index c.loop-listing-test.false
    (c.loop-listing.invariant.fit rules tables keeps all)
