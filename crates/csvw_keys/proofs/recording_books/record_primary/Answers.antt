-- The rows of the primary key are recorded, if there is one.
use Rattle.std.proofs.Common.{◌≡◌, ◌∙◌, true, sym}
use Rattle.csvw_keys.specs.Books.{is_served, purposes_of}
use Rattle.csvw_keys.specs.KeyRules.{KeyRule}
use Rattle.csvw_keys.proofs.RecordingLemmas.{no_primary, primary_recorded}
use Rattle.csvw_keys.proofs.ServingLemmas.{no_more}
use Rattle.csvw_keys.proofs.recording_books.record_primary.Goals as goal

pub returns-then-is_empty-clause-more : goal.returns-then-is_empty-clause-more
returns-then-is_empty-clause-more c = no_more c.args.books.now.items

pub returns-then-is_empty-clause-served : goal.returns-then-is_empty-clause-served
returns-then-is_empty-clause-served c =
    no_primary (λ (rule : KeyRule). is_served (purposes_of c.args.books.now.items) rule ≡ true) c.args.table c.args.columns.now
    (sym c.is_empty.ensures ∙ c.if-is_empty.true)

pub returns-clause-served : goal.returns-clause-served
returns-clause-served c =
    primary_recorded (λ (rule : KeyRule). is_served (purposes_of c.record_rows.new.books.items) rule ≡ true) c.args.table c.args.columns.now
    c.in_ok-record_rows.ensures.recorded
