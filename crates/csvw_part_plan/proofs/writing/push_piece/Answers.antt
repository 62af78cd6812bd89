-- The texts that are added are the line of the piece.
use Rattle.std.proofs.Common.{◌++◌, List, ℕ, subst}
use Rattle.std.specs.Prelude.{OnErr, OnOk}
use Rattle.csvw_streams.specs.Lines.{SendsOn}
use Rattle.csvw_streams.specs.Streams.{IsCut, stream_of}
use Rattle.csvw_part_plan.proofs.Lines.{texts-line}
use Rattle.csvw_part_plan.proofs.writing.push_piece.Goals as goal

pub returns-clause-ok : goal.returns-clause-ok
returns-clause-ok g c =
    let same = texts-line c.args.piece.now _ _ _ _ _ _ _ c.format.ensures.text c.format-2.ensures.text c.format-3.ensures.text c.format-4.ensures.text
    c.format-5.ensures.text c.format-6.ensures.text c.format-7.ensures.text in
    let P = λ (t : List ℕ). OnOk c.push_parts.result (SendsOn (stream_of g.W.Write.contents c.args.w.now c.push_parts.new.w) c.args.room.now.items t c.push_parts.new.room.items) in
    subst P same c.push_parts.ensures.ok

pub returns-clause-cut : goal.returns-clause-cut
returns-clause-cut g c =
    let same = texts-line c.args.piece.now _ _ _ _ _ _ _ c.format.ensures.text c.format-2.ensures.text c.format-3.ensures.text c.format-4.ensures.text
    c.format-5.ensures.text c.format-6.ensures.text c.format-7.ensures.text in
    let P = λ (t : List ℕ). OnErr c.push_parts.result (IsCut (stream_of g.W.Write.contents c.args.w.now c.push_parts.new.w) (c.args.room.now.items ++ t)) in
    subst P same c.push_parts.ensures.cut
