-- Each book still has its purpose. The books so far have no rows.
use Rattle.std.proofs.Common.{◌≡◌, map}
use Rattle.std.specs.List.{AllWithin}
use Rattle.csvw_keys.specs.Books.{KeepsBook, no_rows, purpose_of}
use Rattle.csvw_keys.proofs.key_book.forget_each.Given as goal

abbrev pub invariant-loop-i : goal.invariant-loop-i
invariant-loop-i l = record {
  purposes : map purpose_of l.books ≡ map purpose_of l.initial.books;
  keeps : AllWithin (λ b. KeepsBook b no_rows) l.books 0 l.i;
}
