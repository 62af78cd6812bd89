-- The triples so far, with those of the tables that are left, are the triples of all tables.
use Rattle.std.proofs.Common.{◌≡◌, ◌++◌, drop}
use Rattle.csvw_triples.specs.OpeningTriples.{tables_triples}
use Rattle.csvw_triples.proofs.opening.push_tables.Given as goal

abbrev pub invariant-loop-table : goal.invariant-loop-table
invariant-loop-table l =
    l.draft.triples.items ++ tables_triples l.group l.draft.blanks (drop l.table-index l.tables)
    ≡ l.initial.draft.triples.items ++ tables_triples l.group l.initial.draft.blanks l.tables
