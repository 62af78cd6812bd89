-- The rows of the table are still recorded once those of the referenced table are.
use Rattle.std.proofs.Common.{◌≡◌, ◌∷◌, [], true}
use Rattle.std.proofs.lemmas.List.Elements.{All-cons, All-nil}
use Rattle.csvw_keys.specs.Books.{is_served, purposes_of, records_in}
use Rattle.csvw_keys.specs.KeyRules.{KeyRule, Recorded}
use Rattle.csvw_keys.proofs.ServingLemmas.{still_more}
use Rattle.csvw_keys.proofs.recording_books.record_reference.Goals as goal

pub returns-clause-more : goal.returns-clause-more
returns-clause-more c = still_more _ _ _ c.in_ok-record_rows.ensures.more c.in_ok-record_rows-2.ensures.more

pub returns-clause-served : goal.returns-clause-served
returns-clause-served c =
    let key = c.args.key.now in
    let served = λ (rule : KeyRule). is_served (purposes_of c.record_rows-2.new.books.items) rule ≡ true in
    All-cons served (Recorded c.args.table key.columns) (Recorded key.table key.referenced ∷ [])
    (c.in_ok-record_rows-2.ensures.more.purposes (records_in c.args.table key.columns) (rw c.as_slice.ensures at c.in_ok-record_rows.ensures.recorded))
    (All-cons served (Recorded key.table key.referenced) [] (rw c.as_slice-2.ensures at c.in_ok-record_rows-2.ensures.recorded) (All-nil served))
