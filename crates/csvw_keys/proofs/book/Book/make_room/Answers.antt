-- The book of the table keeps its rows. The table stays the same.
use Rattle.std.proofs.Common.{sym, subst}
use Rattle.csvw_keys.specs.Books.{KeepsBook}
use Rattle.csvw_keys.specs.RecordingBooks.{KeepsRecording}
use Rattle.csvw_keys.specs.ReferenceBooks.{KeepsReferenced, KeepsReferring}
use Rattle.csvw_keys.proofs.book.Book.make_room.Goals as goal

pub returns-in-Referenced-clause-keeps : goal.returns-in-Referenced-clause-keeps
returns-in-Referenced-clause-keeps c = λ tables keeps.
    let room = c.make_room-in-Referenced in
    let before = subst (λ b. KeepsBook b tables) c.in-Referenced.is keeps in
    subst (λ n. KeepsReferenced room.new.book (tables n)) (sym room.ensures.table) (room.ensures.keeps (tables c.in-Referenced.book.table) before)

pub returns-in-Referring-clause-keeps : goal.returns-in-Referring-clause-keeps
returns-in-Referring-clause-keeps c = λ tables keeps.
    let room = c.make_room-in-Referring in
    let before = subst (λ b. KeepsBook b tables) c.in-Referring.is keeps in
    subst (λ n. KeepsReferring room.new.book (tables n)) (sym room.ensures.table) (room.ensures.keeps (tables c.in-Referring.book.table) before)

pub returns-in-Recording-clause-keeps : goal.returns-in-Recording-clause-keeps
returns-in-Recording-clause-keeps c = λ tables keeps.
    let room = c.make_room-in-Recording in
    let before = subst (λ b. KeepsBook b tables) c.in-Recording.is keeps in
    subst (λ n. KeepsRecording room.new.book (tables n)) (sym room.ensures.table) (room.ensures.keeps (tables c.in-Recording.book.table) before)
