-- So far the bytes of the reads were fed.
use Rattle.csvw_key_records.proofs.Judging.{IsFed}
use Rattle.csvw_key_records.proofs.keys.feed_all.Given as goal

abbrev pub invariant-loop-reads : goal.invariant-loop-reads
invariant-loop-reads g l = IsFed g.R.Read.remaining g.W.Write.contents l.fn.reader l.reader l.fn.out l.out l.feed l._reads
