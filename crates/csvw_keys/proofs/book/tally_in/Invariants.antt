use Rattle.std.proofs.Common.{◌≡◌, drop}
use Rattle.csvw_keys.specs.Books.{times_in}
use Rattle.csvw_keys.proofs.book.tally_in.Given as goal

abbrev pub invariant-loop-book : goal.invariant-loop-book
invariant-loop-book l = times_in l.table l.columns (drop l.book-index l.books) ≡ times_in l.table l.columns l.books
