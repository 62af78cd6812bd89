-- The rows that refer are still kept once what they refer to is counted.
use Rattle.std.proofs.lemmas.Bool.{and_from}
use Rattle.csvw_keys.specs.Books.{lists_in}
use Rattle.csvw_keys.proofs.ServingLemmas.{still_more}
use Rattle.csvw_keys.proofs.key_book.serve.Goals as goal

pub returns-clause-more : goal.returns-clause-more
returns-clause-more c = still_more _ _ _ c.in_ok-list_rows.ensures.more c.in_ok-count_keys.ensures.more

pub returns-clause-served : goal.returns-clause-served
returns-clause-served c =
    and_from _ _
    (c.in_ok-count_keys.ensures.more.purposes (lists_in c.args.table c.args.key.now.columns) (rw c.as_slice.ensures at c.in_ok-list_rows.ensures.listed))
    (rw c.as_slice-2.ensures at c.in_ok-count_keys.ensures.counted)
