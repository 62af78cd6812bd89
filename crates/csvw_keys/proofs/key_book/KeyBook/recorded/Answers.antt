-- What the first of the books that record has is the rows of the table.
use Rattle.csvw_keys.proofs.RecordingLemmas.{not_recorded, on_either, rows_recorded}
use Rattle.csvw_keys.proofs.key_book.KeyBook.recorded.Goals as goal

pub returns : goal.returns
returns c = λ rules tables keeps.
    let books = c.args.self.now.books.items in
    let table = c.args.table in
    let columns = c.args.columns.now in
    on_either c.recorded_in.result c.recorded_in.ensures
    (λ none. not_recorded books rules table columns keeps.served (rw c.as_slice.ensures.value at none))
    (λ rows some. rows_recorded tables books table columns rows.now keeps.keeps (rw c.as_slice.ensures.value at some))
