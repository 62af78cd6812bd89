use Rattle.std.proofs.Common.{◌≡◌, ◌∙◌, ◌++◌, ◌∷◌, [], sym, ap}
use Rattle.csvw_keys.specs.Key.{key_of}
use Rattle.csvw_keys.specs.RecordingBooks.{keyed}
use Rattle.csvw_keys.proofs.RecordingLemmas.{one_row_keyed, same_key}
use Rattle.csvw_keys.proofs.recording.RecordingBookTableBook.add_own.Goals as goal

pub returns-clause-keeps : goal.returns-clause-keeps
returns-clause-keeps c = λ staged rows keeps.
    let row = c.args.row.now in
    let columns = c.args.self.now.columns in
    let is : c.in-Some.key ≡ key_of columns row = same_key _ _ (sym c.in-Some.is ∙ c.take.ensures.value ∙ staged.key) in
    c.note_row.ensures staged.room
    ∙ ap (λ k. c.args.self.now.rows.items ++ keyed k row.source ∷ []) is
    ∙ one_row_keyed columns rows row c.args.self.now.rows.items keeps
