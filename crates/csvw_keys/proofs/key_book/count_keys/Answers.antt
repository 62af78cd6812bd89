-- A book counts the keys in these columns: one that is there, or one more.
use Rattle.std.proofs.Common.{◌≡◌, ◌∙◌, true, sym, ap, subst}
use Rattle.std.specs.List.{list_any}
use Rattle.csvw_keys.specs.Books.{IsMore, book_times, counts_in, purposes_of, rules_for}
use Rattle.csvw_keys.proofs.ServingLemmas.{found_in, from_some, more_by_one, no_more, same_place, wanted_now}
use Rattle.csvw_keys.proofs.key_book.count_keys.Goals as goal

pub returns-then-is_some-clause-more : goal.returns-then-is_some-clause-more
returns-then-is_some-clause-more c = no_more c.args.books.now.items

pub returns-then-is_some-clause-counted : goal.returns-then-is_some-clause-counted
returns-then-is_some-clause-counted c =
    from_some c.tally_in.result _ _ c.tally_in.ensures (sym c.is_some.ensures ∙ c.if-is_some.true)
    (λ found is. found_in (counts_in c.args.table c.args.columns.now) book_times c.args.books.now.items _ (rw c.as_slice.ensures.value at is))

pub returns-clause-more : goal.returns-clause-more
returns-clause-more c =
    subst (IsMore c.args.books.now.items) (sym c.in_ok-push.ensures.items)
    (more_by_one c.args.books.now.items c.in_ok-book.book (ap rules_for c.in_ok-book.ensures.purpose) c.in_ok-book.ensures.keeps)

pub returns-clause-counted : goal.returns-clause-counted
returns-clause-counted c =
    let is_wanted = counts_in c.args.table c.args.columns.now in
    subst (λ bs. list_any is_wanted (purposes_of bs) ≡ true) (sym c.in_ok-push.ensures.items)
    (wanted_now c.args.books.now.items c.in_ok-book.book is_wanted
    (ap is_wanted c.in_ok-book.ensures.purpose ∙ same_place c.args.table c.args.columns.now))
