use Rattle.csvw_keys.proofs.ListLemmas.{on_ok}
use Rattle.csvw_keys.proofs.key_book.push_table.Goals as goal

pub returns-clause-keeps : goal.returns-clause-keeps
returns-clause-keeps c = on_ok c.push_references.result c.push_references.ensures.keeps (λ more all. more (c.in_ok-push_primary.ensures.keeps all))
