-- The cells passed so far have their links, and the last about link is known.
use Rattle.std.proofs.Common.{◌≡◌}
use Rattle.csvw_annotate.specs.Linked.{linked_in, values_of}
use Rattle.csvw_annotate.specs.LinksAt.{IsAboutBefore}
use Rattle.csvw_annotate.proofs.LinkLemmas.{front}
use Rattle.csvw_annotate.proofs.linking.link_cells.Given as goal

abbrev pub invariant-loop-i : goal.invariant-loop-i
invariant-loop-i l = record {
  linked : l.cells ≡ front (linked_in l.columns l.row (values_of l.initial.cells)) l.i l.columns.columns l.initial.cells;
  about : IsAboutBefore l.columns l.row l.initial.cells l.i l.about;
}
