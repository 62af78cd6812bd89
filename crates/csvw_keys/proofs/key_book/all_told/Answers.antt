-- The faults that one more book reports.
use Rattle.std.proofs.Common.{◌∙◌, ◌++◌, sym, ap}
use Rattle.csvw_keys.specs.Books.{told}
use Rattle.csvw_keys.proofs.ReferenceLemmas.{one_row_more}
use Rattle.csvw_keys.proofs.key_book.all_told.Goals as goal

pub loop-book-preserved : goal.loop-book-preserved
loop-book-preserved c =
    let books = c.args.books.now in
    let book = c.book-item.result in
    c.in_ok-tell.ensures ∙ ap (λ faults. faults ++ told books book) c.loop-book.invariant
    ∙ sym (one_row_more (told books) books c.loop-book.book-index book c.loop-book-test.true c.book-item.is)
