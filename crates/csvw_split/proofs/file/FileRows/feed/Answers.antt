-- Some bytes were fed, and rows were read.
use Rattle.std.proofs.Common.{refl}
use Rattle.csvw_split.proofs.FileLemmas.{feed_follows}
use Rattle.csvw_split.proofs.file.FileRows.feed.Goals as goal

pub returns : goal.returns
returns c = λ d text f.
    feed_follows c.args.self.now _ c.feed.new.self d text c.args.piece.now c.in_ok-count.count c.in_default.ensures.feeds c.in_ok-count.ensures.count refl
    c.saturating_add-self.ensures f
