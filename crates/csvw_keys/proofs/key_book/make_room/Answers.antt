use Rattle.std.proofs.Common.{◌<◌, ◌∙◌, length, arith}
use Rattle.std.proofs.lemmas.List.Elements.{AllWithin-more_set}
use Rattle.csvw_keys.specs.Books.{IsRoomy, KeepsBook, purpose_of}
use Rattle.csvw_keys.proofs.ListLemmas.{kept, same_map}
use Rattle.csvw_keys.proofs.key_book.make_room.Goals as goal

pub returns-in_err-make_room-clause-purposes : goal.returns-in_err-make_room-clause-purposes
returns-in_err-make_room-clause-purposes c =
    same_map c.loop-i.books c.loop-i.i c.index-books-i.result c.make_room.new.self purpose_of c.make_room.ensures.purpose
    ∙ c.loop-i.invariant.purposes

pub returns-in_err-make_room-clause-keeps : goal.returns-in_err-make_room-clause-keeps
returns-in_err-make_room-clause-keeps c = λ tables all.
    let lt : c.loop-i.i < length c.loop-i.books = omega arith in
    kept c.loop-i.books c.loop-i.i c.index-books-i.result c.make_room.new.self (λ b. KeepsBook b tables) lt
    (c.make_room.ensures.keeps tables) (c.loop-i.invariant.keeps tables all)

pub loop-i-preserved : goal.loop-i-preserved
loop-i-preserved c =
    let books = c.loop-i.books in
    let i = c.loop-i.i in
    let book = c.index-books-i.result in
    let new = c.make_room.new.self in
    let lt : i < length books = omega arith in
    record {
      purposes = same_map books i book new purpose_of c.make_room.ensures.purpose ∙ c.loop-i.invariant.purposes;
      keeps = λ tables all. kept books i book new (λ b. KeepsBook b tables) lt (c.make_room.ensures.keeps tables)
          (c.loop-i.invariant.keeps tables all);
      roomy = AllWithin-more_set books i new lt (λ b. IsRoomy b c.args.table c.args.row.now) c.loop-i.invariant.roomy c.in_ok-make_room.ensures.roomy;
    }
