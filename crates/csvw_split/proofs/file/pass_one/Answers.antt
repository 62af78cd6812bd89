-- The row that is lent is one more, or there is none.
use Rattle.std.proofs.Common.{[], ◌∷◌, ◌++◌, length, sym, length-append, add-zero}
use Rattle.csvw_rows.specs.RowValue.{row_of}
use Rattle.csvw_split.proofs.file.pass_one.Goals as goal

pub returns-in-Ok-Some : goal.returns-in-Ok-Some
returns-in-Ok-Some c =
    let a = rw (c.in-Ok-Some.is, c.in-Ok-Some.field-0-is) at c.next.follows.holds-at-none in
    let row = row_of c.in-Ok-Some.field-0-0 in
    (a.0, λ d max text ended given h. (given ++ row ∷ [], a.2 d max text ended given h, length-append given (row ∷ [])))

pub returns-in-Ok-None : goal.returns-in-Ok-None
returns-in-Ok-None c =
    let a = rw (c.in-Ok-None.is, c.in-Ok-None.field-0-is) at c.next.follows.holds-at-none in
    (a.0, λ d max text ended given h. (given, a.1 d max text ended given h, sym (add-zero (length given))))
