-- The rows of some bytes more were read, and the bytes were counted.
use Rattle.std.proofs.Common.{◌++◌, sym, subst}
use Rattle.csvw_split.specs.FileState.{Follows}
use Rattle.csvw_split.proofs.CutLemmas.{cuts_fed}
use Rattle.csvw_split.proofs.cuts.FileCuts.feed.Goals as goal

pub returns-clause-cuts : goal.returns-clause-cuts
returns-clause-cuts c = λ t text h.
    let follows = c.in_ok-feed.ensures t.dialect text h.follows in
    let counted = c.count.ensures in
    cuts_fed c.args.self.now c.count.new.self t text c.args.bytes.now h
    (subst (λ f. Follows f t.dialect (text ++ c.args.bytes.now)) (sym counted.file) follows) counted.count counted.cuts counted.wanted counted.header
