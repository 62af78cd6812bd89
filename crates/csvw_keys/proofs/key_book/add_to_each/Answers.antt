use Rattle.std.proofs.Common.{◌<◌, ◌∙◌, length, arith}
use Rattle.std.proofs.Math.ListN.{length-set}
use Rattle.std.proofs.lemmas.List.Elements.{AllWithin-more_set}
use Rattle.csvw_keys.specs.Books.{IsRoomy, KeepsBook, purpose_of}
use Rattle.csvw_keys.specs.Tables.{with_row}
use Rattle.csvw_keys.proofs.ListLemmas.{rest_on, same_map, still}
use Rattle.csvw_keys.proofs.key_book.add_to_each.Goals as goal

pub loop-i-preserved : goal.loop-i-preserved
loop-i-preserved c =
    let books = c.loop-i.books in
    let before = c.args.books.now in
    let i = c.loop-i.i in
    let book = c.index-books-i.result in
    let new = c.add.new.self in
    let inv = c.loop-i.invariant in
    let table = c.args.table in
    let row = c.args.row.now in
    let lt : i < length books = omega arith in
    let there : i < length before = omega (arith, inv.places) in
    let same = still books i book new before inv.rest in
    record {
      purposes = same_map books i book new purpose_of c.add.ensures.purpose ∙ inv.purposes;
      places = length-set books i new ∙ inv.places;
      rest = rest_on books i book new before inv.rest;
      keeps = λ roomy tables all. AllWithin-more_set books i new lt (λ b. KeepsBook b (with_row tables table row)) (inv.keeps roomy tables all)
          (c.add.ensures.keeps (same (λ b. IsRoomy b table row) there roomy) tables (same (λ b. KeepsBook b tables) there all));
    }
