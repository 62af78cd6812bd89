-- What is found among the books that are left is what is found among all.
use Rattle.std.proofs.Common.{◌≡◌, drop}
use Rattle.csvw_keys.specs.Books.{rows_in}
use Rattle.csvw_keys.proofs.book.referring_in.Given as goal

abbrev pub invariant-loop-book : goal.invariant-loop-book
invariant-loop-book l = rows_in l.table l.columns (drop l.book-index l.books) ≡ rows_in l.table l.columns l.books
