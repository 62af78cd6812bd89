-- The about links of the columns passed so far.
use Rattle.std.proofs.Common.{◌≡◌, map, take}
use Rattle.csvw_annotate.specs.declared.bound_link.BoundLink.TheVariants.{Same}
use Rattle.csvw_annotate.specs.declared.bound_link.Which.TheVariants.{About}
use Rattle.csvw_annotate.specs.BoundLinks.{link_of_column, told_abouts}
use Rattle.csvw_annotate.specs.Links.{no_link}
use Rattle.csvw_annotate.proofs.bound_link.bind_abouts.Given as goal

abbrev pub invariant-loop-i : goal.invariant-loop-i
invariant-loop-i l = told_abouts (Same no_link) l.links ≡ map (link_of_column About l.columns) (take l.i l.columns.columns)
