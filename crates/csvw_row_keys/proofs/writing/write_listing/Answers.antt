-- The rows of a list are those of its table, since they are recorded.
use Rattle.std.proofs.Common.{◌∙◌, All, OnOk, flat_map, subst, sym}
use Rattle.std.proofs.lemmas.Bool.{false≢true}
use Rattle.csvw_key_records.specs.Records.{Fits}
use Rattle.csvw_row_keys.specs.Listings.{listed_records, row_lines}
use Rattle.csvw_streams.specs.Streams.{stream_of, Sends}
use Rattle.csvw_row_keys.proofs.writing.write_listing.Goals as goal

pub returns-in-Some-clause-ok : goal.returns-in-Some-clause-ok
returns-in-Some-clause-ok g c = λ rules tables keeps there.
    let sent = stream_of g.V.Write.contents c.args.w.now c.write_rows.new.w in
    subst (λ rows. OnOk c.write_rows.result (Sends sent (flat_map (row_lines c.args.listing.now) rows)))
    (rw c.as_slice.ensures at (c.in-Some.ensures rules tables keeps)) c.write_rows.ensures.ok

pub returns-in-None-clause-ok : goal.returns-in-None-clause-ok
returns-in-None-clause-ok g c = λ rules tables keeps there.
    absurd (false≢true (sym (rw c.as_slice.ensures at (c.in-None.ensures rules tables keeps)) ∙ there))

pub returns-in-Some-clause-fit : goal.returns-in-Some-clause-fit
returns-in-Some-clause-fit g c = λ rules tables keeps there.
    subst (λ rows. OnOk c.write_rows.result (All Fits (flat_map (listed_records c.args.listing.now) rows)))
    (rw c.as_slice.ensures at (c.in-Some.ensures rules tables keeps)) c.write_rows.ensures.fit

pub returns-in-None-clause-fit : goal.returns-in-None-clause-fit
returns-in-None-clause-fit g c = λ rules tables keeps there.
    absurd (false≢true (sym (rw c.as_slice.ensures at (c.in-None.ensures rules tables keeps)) ∙ there))
