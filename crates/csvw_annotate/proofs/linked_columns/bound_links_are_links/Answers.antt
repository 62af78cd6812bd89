-- By the laws of bound templates.
use Rattle.csvw_annotate.proofs.BindingLemmas as lemmas
use Rattle.csvw_annotate.proofs.linked_columns.bound_links_are_links.Goals as goal

pub returns : goal.returns
returns c = lemmas.bound_links_are_links c.bound_gives_the_same.ensures.same c.bound_gives_the_same.ensures.constant
