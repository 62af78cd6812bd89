-- The run of letters, digits and dashes is a tag, or no tag is followed by a dot.
use Rattle.csvw_ntriples.proofs.LabelRuns.{tag_found, tag_once, tag_missing}
use Rattle.csvw_ntriples.proofs.reading.language.language.Goals as goal

pub returns-in-Ok-Some : goal.returns-in-Ok-Some
returns-in-Ok-Some c =
    let is = rw c.in-Ok-Some.field-0-is at c.in-Ok-Some.ensures in (
      tag_found c.args.text.now c.run.result.0.now c.run.result.1.now c.in-Ok.characters c.in-Ok-Some.tag c.run.ensures c.in-Ok.ensures is.0 is.1,
      tag_once c.args.text.now c.run.result.0.now c.run.result.1.now c.run.ensures,
    )

pub returns-in-Ok-None : goal.returns-in-Ok-None
returns-in-Ok-None c =
    let is = rw c.in-Ok-None.field-0-is at c.in-Ok-None.ensures in
    tag_missing c.args.text.now c.run.result.0.now c.run.result.1.now c.in-Ok.characters c.run.ensures c.in-Ok.ensures is
