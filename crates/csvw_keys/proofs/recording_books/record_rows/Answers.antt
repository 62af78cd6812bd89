-- A book records the rows in these columns: one that is there, or one more.
use Rattle.std.proofs.Common.{◌≡◌, ◌∙◌, true, sym, ap, subst}
use Rattle.std.specs.List.{list_any}
use Rattle.csvw_keys.specs.Books.{IsMore, book_records, purposes_of, records_in, rules_for}
use Rattle.csvw_keys.proofs.ServingLemmas.{found_in, from_some, more_by_one, no_more, same_place, wanted_now}
use Rattle.csvw_keys.proofs.recording_books.record_rows.Goals as goal

pub returns-then-is_some-clause-more : goal.returns-then-is_some-clause-more
returns-then-is_some-clause-more c = no_more c.args.books.now.items

pub returns-then-is_some-clause-recorded : goal.returns-then-is_some-clause-recorded
returns-then-is_some-clause-recorded c =
    from_some c.recorded_in.result _ _ c.recorded_in.ensures (sym c.is_some.ensures ∙ c.if-is_some.true)
    (λ found is. found_in (records_in c.args.table c.args.columns.now) book_records c.args.books.now.items _ (rw c.as_slice.ensures.value at is))

pub returns-clause-more : goal.returns-clause-more
returns-clause-more c =
    subst (IsMore c.args.books.now.items) (sym c.in_ok-push.ensures.items)
    (more_by_one c.args.books.now.items c.in_ok-book.book (ap rules_for c.in_ok-book.ensures.purpose) c.in_ok-book.ensures.keeps)

pub returns-clause-recorded : goal.returns-clause-recorded
returns-clause-recorded c =
    let is_wanted = records_in c.args.table c.args.columns.now in
    subst (λ bs. list_any is_wanted (purposes_of bs) ≡ true) (sym c.in_ok-push.ensures.items)
    (wanted_now c.args.books.now.items c.in_ok-book.book is_wanted
    (ap is_wanted c.in_ok-book.ensures.purpose ∙ same_place c.args.table c.args.columns.now))
