use Rattle.std.proofs.Common.{arith}
use Rattle.std.proofs.lemmas.Simd.{zip2_splat, zip2_of_maps, length-chunk}
use lib.Lanes.{chunk}
use Rattle.csvw_fields.proofs.MarkLemmas.{marks_are}
use Rattle.csvw_fields.proofs.marks.marks_from.Goals as goal

pub returns-clause-marks : goal.returns-clause-marks
returns-clause-marks c =
    let delimiter = c.args.delimiter in
    let quote = c.args.quote in
    let from = c.args.from in
    let text = c.args.text.now in
    let v = chunk from 64 text in
    let long = length-chunk from 64 text c.requires in
    record {
      few = omega arith;
      within = c.requires;
      mask = marks_are delimiter quote text from _ c.requires (zip2_of_maps _ _ _ v
          (zip2_of_maps _ _ _ v (zip2_splat _ v 64 delimiter long) (zip2_splat _ v 64 quote long)) (zip2_splat _ v 64 10 long));
    }
