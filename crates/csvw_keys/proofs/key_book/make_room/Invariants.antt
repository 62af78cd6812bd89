-- Each book still has its key and keeps what it kept. The books so far have room for the row.
use Rattle.std.proofs.Common.{◌≡◌, ℕ, List, All, map}
use Rattle.std.specs.List.{AllWithin}
use Rattle.csvw_annotate.specs.declared.row.Row.{Row}
use Rattle.csvw_keys.specs.Books.{IsRoomy, KeepsBook, purpose_of}
use Rattle.csvw_keys.proofs.key_book.make_room.Given as goal

abbrev pub invariant-loop-i : goal.invariant-loop-i
invariant-loop-i l = record {
  purposes : map purpose_of l.books ≡ map purpose_of l.initial.books;
  keeps : (tables : ℕ → List Row) → All (λ b. KeepsBook b tables) l.initial.books → All (λ b. KeepsBook b tables) l.books;
  roomy : AllWithin (λ b. IsRoomy b l.table l.row) l.books 0 l.i;
}
