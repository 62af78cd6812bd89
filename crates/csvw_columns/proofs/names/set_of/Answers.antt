-- The set is made from the items of the vector.
use Rattle.std.proofs.Common.{◌∙◌}
use Rattle.std.specs.BTreeSet.{IsFromIterResult}
use Rattle.std.specs.Cmp.Lexicographic.{slice_cmp}
use Rattle.std.specs.Ordering.{nat_cmp}
use Rattle.std.proofs.lemmas.Iterator.Adapters.{fact_from_collect, YieldsList-from_vec}
use Rattle.csvw_columns.proofs.names.set_of.Goals as goal

pub returns : goal.returns
returns c =
    fact_from_collect (IsFromIterResult (slice_cmp nat_cmp)) c.collect.result c.collect.ensures.ran
    (YieldsList-from_vec {s = c.into_iter.result} c.args.names.items c.into_iter.ensures.rest (c.into_iter.ensures.len ∙ c.args.names.ok.0))
