use Rattle.std.proofs.Common.{◌∙◌, ap}
use Rattle.csvw_keys.specs.Books.{first_told}
use Rattle.csvw_keys.specs.KeyRules.{duplicates_of}
use Rattle.csvw_keys.proofs.BookLemmas.{first_told_is}
use Rattle.csvw_keys.proofs.RecordingLemmas.{same_duplicates}
use Rattle.csvw_keys.proofs.key_book.KeyBook.duplicates.Goals as goal

pub returns : goal.returns
returns c = λ rules tables keeps.
    c.first_told.ensures
    ∙ ap (first_told c.args.table) c.as_slice.ensures.value
    ∙ first_told_is tables c.args.table c.args.self.now.books.items keeps.keeps
    ∙ ap (duplicates_of c.args.table tables) keeps.rules
    ∙ same_duplicates tables c.args.table rules
