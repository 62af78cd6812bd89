-- One more write extends the front that was sent.
use Rattle.std.proofs.Common.{arith, ◌∙◌}
use Rattle.csvw_streams.proofs.WritingLemmas.{sent_rest, after_write-some}
use Rattle.csvw_streams.proofs.writing.write_out.Goals as goal

pub loop-sent-preserved : goal.loop-sent-preserved
loop-sent-preserved g c = record {
  within = omega (arith, c.in-Ok.ensures.bound);
  out = sent_rest _ _ _ c.args.bytes.now c.loop-sent.sent c.in-Ok.n c.loop-sent.invariant.out c.in-Ok.ensures.bytes;
  no_failure = c.write.ensures.count ∙ after_write-some c.write.result c.in-Ok.n _ _ c.in-Ok.is c.if-n-gt0.true ∙ c.loop-sent.invariant.no_failure;
}
