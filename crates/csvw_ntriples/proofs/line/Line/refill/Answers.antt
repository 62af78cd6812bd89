-- The front of the line stays when more is added to it.
use Rattle.std.proofs.Common.{◌∙◌, ap, take}
use Rattle.csvw_ntriples.proofs.Fronts.{front_stays}
use Rattle.csvw_ntriples.proofs.line.Line.refill.Goals as goal

pub invariant_of-self-2 : goal.invariant_of-self-2
invariant_of-self-2 c = record {
  begins = λ kept.
      let begun = c.begin.new.self.begins kept in (
        ap (take c.begin.new.self.front) c.in_ok-push_rest.ensures.text
            ∙ front_stays c.begin.new.self.front _ c.begin.new.self.bytes _ begun.0 begun.1,
        begun.1,
      );
}
