use Rattle.std.proofs.Common.{◌≡◌, flat_map, take}
use Rattle.csvw_keys.specs.Books.{told}
use Rattle.csvw_keys.proofs.key_book.all_told.Given as goal

abbrev pub invariant-loop-book : goal.invariant-loop-book
invariant-loop-book l = l.faults.items ≡ flat_map (told l.books) (take l.book-index l.books)
