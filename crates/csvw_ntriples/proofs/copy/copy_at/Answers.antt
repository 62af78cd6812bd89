-- The bytes that were put after the front are those of the text.
use Rattle.std.proofs.Common.{take, ap, ◌∙◌}
use Rattle.csvw_ntriples.proofs.CopyLemmas.{copied_on}
use Rattle.csvw_ntriples.proofs.copy.copy_at.Goals as goal

pub returns-in-Some : goal.returns-in-Some
returns-in-Some g c =
    let behind = c.split_at_mut-behind in
    copied_on c.args.bytes.now c.args.room.now behind.result.0.now behind.result.1.now c.in-Some.found.now c.overwrite.new.room c.args.at g.row.N
    c.requires.within c.requires.copied behind.ensures.front behind.ensures.back
    (c.in-Some.ensures.cases.same ∙ ap (take g.row.N) c.split_at.ensures.back) c.overwrite.ensures
