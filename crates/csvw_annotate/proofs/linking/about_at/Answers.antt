-- By the law of bound links.
use Rattle.csvw_annotate.proofs.BoundLemmas.{about_made, before_made}
use Rattle.csvw_annotate.proofs.linking.about_at.Goals as goal

pub about_at-requires-clause-before : goal.about_at-requires-clause-before
about_at-requires-clause-before c =
    before_made c.bound_links_are_links.ensures c.args.columns.now c.args.scope.now.row c.args.scope.now.cells.now c.requires.places c.args.place
    c.args.before c.requires.before

pub returns : goal.returns
returns c =
    about_made c.bound_links_are_links.ensures c.args.columns.now c.args.scope.now.row c.args.scope.now.cells.now c.requires.places c.args.place _
    c.in_ok-made.ensures
