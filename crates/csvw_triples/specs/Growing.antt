-- Drafts to which triples are added.
use Rattle.std.specs.Prelude.{◌≡◌, ℕ, ◌+◌, List, ◌++◌}
use Rattle.csvw_triples_core.specs.declared.term.Triple.{Triple}
use Rattle.csvw_triples.specs.declared.draft.Draft.{Draft}

-- the draft has these triples more, and so many blank nodes of annotations more
abbrev pub Grows : Draft → List Triple → ℕ → Draft → Type 0
Grows old more count new = (new.triples.items ≡ old.triples.items ++ more) × (new.blanks ≡ old.blanks + count)
