use Rattle.std.proofs.Common.{◌≡◌, drop}
use Rattle.csvw_keys.specs.Books.{first_told}
use Rattle.csvw_keys.proofs.key_book.first_told.Given as goal

abbrev pub invariant-loop-book : goal.invariant-loop-book
invariant-loop-book l = first_told l.table (drop l.book-index l.books) ≡ first_told l.table l.books
