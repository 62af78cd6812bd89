-- If the line is cut off, a front of it was sent.
use Rattle.std.proofs.Common.{◌∙◌, refl, rules}
use Rattle.csvw_triples_core.specs.Lent.{triple_of}
use Rattle.csvw_ntriples.proofs.Cutting.{cut_in, cut_sends}
use Rattle.csvw_ntriples.proofs.nt_sink.NtSinkTripleSink.put_ref.Goals as goal

pub returns-in-Err-clause-err : goal.returns-in-Err-clause-err
returns-in-Err-clause-err g c =
    let line = c.as_slice.ensures.value ∙ c.in-Ok.ensures.text in (
      refl,
      tt,
      cut_sends _ _ _ (triple_of c.args.triple.now) (search rules)
          (cut_in _ _ (triple_of c.args.triple.now) c.in-Err.field-0.sent c.as_slice.result.now
          c.in-Ok.ensures.fits line c.in-Err.ensures.cut_before_end c.in-Err.ensures.cut),
    )

pub returns-in-Err-clause-cut : goal.returns-in-Err-clause-cut
returns-in-Err-clause-cut g c =
    let line = c.as_slice.ensures.value ∙ c.in-Ok.ensures.text in
    λ device. (
      refl,
      search rules,
      refl,
      cut_in _ _ (triple_of c.args.triple.now) c.in-Err.field-0.sent c.as_slice.result.now
          c.in-Ok.ensures.fits line c.in-Err.ensures.cut_before_end c.in-Err.ensures.cut,
    )
