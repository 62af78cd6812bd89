-- Each book still has its key. The books so far have the row, and the others are unchanged.
use Rattle.std.proofs.Common.{◌≡◌, ◌≤◌, ℕ, List, All, get_or, length, map}
use Rattle.std.specs.List.{AllWithin}
use Rattle.csvw_annotate.specs.declared.row.Row.{Row}
use Rattle.csvw_keys.specs.declared.book.Book.{Book}
use Rattle.csvw_keys.specs.Books.{IsRoomy, KeepsBook, purpose_of}
use Rattle.csvw_keys.specs.Tables.{with_row}
use Rattle.csvw_keys.proofs.key_book.add_to_each.Given as goal

abbrev pub invariant-loop-i : goal.invariant-loop-i
invariant-loop-i l = record {
  purposes : map purpose_of l.books ≡ map purpose_of l.initial.books;
  places : length l.books ≡ length l.initial.books;
  rest : (k : ℕ) (d : Book) → l.i ≤ k → get_or l.books k d ≡ get_or l.initial.books k d;
  keeps : All (λ b. IsRoomy b l.table l.row) l.initial.books → (tables : ℕ → List Row) → All (λ b. KeepsBook b tables) l.initial.books
      → AllWithin (λ b. KeepsBook b (with_row tables l.table l.row)) l.books 0 l.i;
}
