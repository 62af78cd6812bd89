-- One piece at the front.
use Rattle.std.proofs.Common.{inl, inr, refl, ◌∙◌, sym}
use Rattle.csvw_ntriples.proofs.BodyPieces.{raw_piece, escape_piece, numbered_result, two_heads}
use Rattle.csvw_ntriples.proofs.reading.enclosed.piece.Goals as goal

pub returns-then-is_raw : goal.returns-then-is_raw
returns-then-is_raw c = raw_piece c.args.kind c.args.text.now c.in_ok-first.after.now c.in_ok-first.first.now c.in_ok-first.ensures.cases.0
    (sym c.is_raw.ensures ∙ c.if-is_raw.true)

pub returns-in-u : goal.returns-in-u
returns-in-u c =
    numbered_result c.args.kind c.args.text.now c.in_ok-letter.rest.now 117 4 c.numbered.result
    (two_heads _ _ _ _ _ 92 117 c.in_ok-first.ensures.cases.0 c.in_ok-letter.ensures.cases.0 c.if-first-ne92.false c.in-u.is)
    (inl (refl, refl)) c.numbered.ensures

pub returns-in-U : goal.returns-in-U
returns-in-U c =
    numbered_result c.args.kind c.args.text.now c.in_ok-letter.rest.now 85 8 c.numbered-in-U.result
    (two_heads _ _ _ _ _ 92 85 c.in_ok-first.ensures.cases.0 c.in_ok-letter.ensures.cases.0 c.if-first-ne92.false c.in-U.is)
    (inr (refl, refl)) c.numbered-in-U.ensures

pub returns-in_ok-escape-in_default : goal.returns-in_ok-escape-in_default
returns-in_ok-escape-in_default c =
    escape_piece c.args.kind c.args.text.now c.in_ok-letter.rest.now c.in_ok-escape-in_default.field-0 c.in_ok-letter.letter.now
    (two_heads _ _ _ _ _ 92 _ c.in_ok-first.ensures.cases.0 c.in_ok-letter.ensures.cases.0 c.if-first-ne92.false refl) (sym c.in_ok-escape-in_default.ensures)
