-- What is found among the books that are left is what is found among all.
use Rattle.std.proofs.Common.{◌≡◌, drop}
use Rattle.csvw_keys.specs.Books.{recorded_in}
use Rattle.csvw_keys.proofs.book.recorded_in.Given as goal

abbrev pub invariant-loop-book : goal.invariant-loop-book
invariant-loop-book l = recorded_in l.table l.columns (drop l.book-index l.books) ≡ recorded_in l.table l.columns l.books
