-- One piece more, the closing mark, or none of both.
use Rattle.std.proofs.Common.{◌≡◌, ◌∙◌, sym, ℕ, false, nat_eq}
use Rattle.std.proofs.lemmas.Bool.Decides.{Decides-eqb}
use Rattle.csvw_ntriples.specs.Reading.{mark_of}
use Rattle.csvw_ntriples.proofs.BodyPieces.{body_more, body_end, body_stuck}
use Rattle.csvw_ntriples.proofs.reading.enclosed.body.Goals as goal

pub loop-first-preserved : goal.loop-first-preserved
loop-first-preserved c = let i = c.loop-first.invariant in
    body_more c.args.kind c.args.text.now i.1 c.loop-first.rest.now c.in-Some-piece.next.now i.0 c.in-Some-piece.c _ _ i.2 i.3 i.4
    c.in-Some-piece.ensures.0 c.in-Ok-push.ensures.bytes

pub returns-in_default-piece : goal.returns-in_default-piece
returns-in_default-piece c = let i = c.loop-first.invariant in
    body_stuck c.args.kind c.args.text.now i.1 c.loop-first.rest.now i.0 c.in-Some.first.now c.in-Some.after.now i.2 i.3 c.in-Some.ensures.cases.0
    (not_same c.in-Some.first.now (mark_of c.args.kind) (sym c.is_mark.ensures ∙ c.if-is_mark.false)) c.in_default-piece.ensures
  where
    not_same : (a b : ℕ) → nat_eq a b ≡ false → a ≡ b → ⊥
    not_same a b h e = let k = (Decides-eqb a b).1 e in cc

pub returns : goal.returns
returns c = let i = c.loop-first.invariant in
    body_end c.args.kind c.args.text.now i.1 c.loop-first.rest.now i.0 i.2 i.3 c.in_default-split_first.ensures.cases
