-- A line more was read, or the first wrong line was found.
use Rattle.std.proofs.Common.{◌≡◌, [], ◌∷◌, ◌++◌, refl, inr, rules}
use Rattle.std.proofs.lemmas.List.Elements.{All-push}
use Rattle.csvw_part_plan.proofs.Empty.{not_empty}
use Rattle.csvw_reports.specs.Reading.{Fits}
use Rattle.csvw_reports.proofs.Lines.{shorter, text_more}
use Rattle.csvw_reports.proofs.reading.read_report.Goals as goal

pub returns-in_default-fault_at-clause-refused : goal.returns-in_default-fault_at-clause-refused
returns-in_default-fault_at-clause-refused c =
    rw c.at_line.ensures (inr (
      c.loop-rest.faults,
      c.loop-rest.rest.now,
      record {
        is_text = c.loop-rest.invariant.is_text;
        fit = c.loop-rest.invariant.fit;
        is_wrong = record { some = not_empty _ c.is_empty.result c.is_empty.ensures c.loop-rest-test.true; none = c.in_default-fault_at.ensures };
        is_line = refl;
      },
    ))

pub loop-rest-smaller : goal.loop-rest-smaller
loop-rest-smaller c = shorter c.in-Some-fault_at.fault _ _ c.in-Some-fault_at.ensures.0

pub loop-rest-preserved : goal.loop-rest-preserved
loop-rest-preserved c =
    let before = c.loop-rest.faults in
    let fault = c.in-Some-fault_at.fault in
    let pushed : c.push.new.self ≡ before ++ fault ∷ [] = search rules in
    rw pushed record {
      is_text = text_more _ before fault _ _ c.loop-rest.invariant.is_text c.in-Some-fault_at.ensures.0;
      fit = All-push Fits before fault c.loop-rest.invariant.fit c.in-Some-fault_at.ensures.1;
    }
