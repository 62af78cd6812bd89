use Rattle.std.proofs.Common.{◌<◌, ◌∙◌, length, arith}
use Rattle.std.proofs.lemmas.List.Elements.{AllWithin-more_set}
use Rattle.csvw_keys.specs.Books.{KeepsBook, no_rows, purpose_of}
use Rattle.csvw_keys.proofs.ListLemmas.{same_map}
use Rattle.csvw_keys.proofs.key_book.forget_each.Goals as goal

pub loop-i-preserved : goal.loop-i-preserved
loop-i-preserved c =
    let books = c.loop-i.books in
    let i = c.loop-i.i in
    let new = c.forget.new.self in
    let lt : i < length books = omega arith in
    record {
      purposes = same_map books i c.index-books-i.result new purpose_of c.forget.ensures.purpose ∙ c.loop-i.invariant.purposes;
      keeps = AllWithin-more_set books i new lt (λ b. KeepsBook b no_rows) c.loop-i.invariant.keeps c.forget.ensures.keeps;
    }
