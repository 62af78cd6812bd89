-- The book of the table has one row more. The table stays the same.
use Rattle.std.proofs.Common.{sym, subst}
use Rattle.csvw_keys.specs.Books.{IsRoomy, KeepsBook}
use Rattle.csvw_keys.specs.RecordingBooks.{KeepsRecording}
use Rattle.csvw_keys.specs.ReferenceBooks.{KeepsReferenced, KeepsReferring}
use Rattle.csvw_keys.specs.Tables.{with_row}
use Rattle.csvw_keys.proofs.book.Book.add.Goals as goal

pub returns-in-Referenced-clause-keeps : goal.returns-in-Referenced-clause-keeps
returns-in-Referenced-clause-keeps c = λ roomy tables keeps.
    let table = c.args.table in
    let row = c.args.row.now in
    let added = c.add-in-Referenced in
    let staged = subst (λ b. IsRoomy b table row) c.in-Referenced.is roomy in
    let before = subst (λ b. KeepsBook b tables) c.in-Referenced.is keeps in
    subst (λ n. KeepsReferenced added.new.book (with_row tables table row n)) (sym added.ensures.table) (added.ensures.keeps staged tables before)

pub returns-in-Referring-clause-keeps : goal.returns-in-Referring-clause-keeps
returns-in-Referring-clause-keeps c = λ roomy tables keeps.
    let table = c.args.table in
    let row = c.args.row.now in
    let added = c.add-in-Referring in
    let staged = subst (λ b. IsRoomy b table row) c.in-Referring.is roomy in
    let before = subst (λ b. KeepsBook b tables) c.in-Referring.is keeps in
    subst (λ n. KeepsReferring added.new.book (with_row tables table row n)) (sym added.ensures.table) (added.ensures.keeps staged tables before)

pub returns-in-Recording-clause-keeps : goal.returns-in-Recording-clause-keeps
returns-in-Recording-clause-keeps c = λ roomy tables keeps.
    let table = c.args.table in
    let row = c.args.row.now in
    let added = c.add-in-Recording in
    let staged = subst (λ b. IsRoomy b table row) c.in-Recording.is roomy in
    let before = subst (λ b. KeepsBook b tables) c.in-Recording.is keeps in
    subst (λ n. KeepsRecording added.new.book (with_row tables table row n)) (sym added.ensures.table) (added.ensures.keeps staged tables before)
