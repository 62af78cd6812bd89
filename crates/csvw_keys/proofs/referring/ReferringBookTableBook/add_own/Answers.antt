use Rattle.std.proofs.Common.{◌≡◌, ◌∙◌, ◌++◌, sym, ap}
use Rattle.csvw_keys.specs.Held.{held_of}
use Rattle.csvw_keys.specs.ReferenceBooks.{kept}
use Rattle.csvw_keys.proofs.PrimaryLemmas.{some_same}
use Rattle.csvw_keys.proofs.ReferringLemmas.{one_row_kept}
use Rattle.csvw_keys.proofs.referring.ReferringBookTableBook.add_own.Goals as goal

pub returns-clause-keeps : goal.returns-clause-keeps
returns-clause-keeps c = λ staged rows keeps.
    let row = c.args.row.now in
    let columns = c.args.self.now.columns in
    let is : c.in-Some.key ≡ held_of columns row = some_same _ _ (sym c.in-Some.is ∙ c.take.ensures.value ∙ staged.key) in
    c.refer.ensures staged.room
    ∙ ap (λ k. c.args.self.now.rows.items ++ kept k row.source) is
    ∙ one_row_kept columns rows row c.args.self.now.rows.items keeps
