-- A line more was read, or the first wrong line was found.
use Rattle.std.proofs.Common.{◌≡◌, ◌∙◌, [], ◌∷◌, ◌++◌, sym, ap, refl, true, inl, inr, rules}
use Rattle.std.proofs.lemmas.List.Elements.{All-push}
use Rattle.csvw_part_plan.specs.Order.{fault_after}
use Rattle.csvw_part_plan.specs.Plans.{Fits}
use Rattle.csvw_part_plan.proofs.Chains.{tile_more}
use Rattle.csvw_part_plan.proofs.Empty.{empty, not_empty}
use Rattle.csvw_part_plan.proofs.Lines.{shorter, text_more}
use Rattle.csvw_part_plan.proofs.reading.read_plan.Goals as goal

pub returns-in_default-piece_at-clause-refused : goal.returns-in_default-piece_at-clause-refused
returns-in_default-piece_at-clause-refused c =
    rw c.at_line.ensures (inr (
      c.loop-rest.pieces,
      c.loop-rest.rest.now,
      record { is_text = c.loop-rest.invariant.is_text; fit = c.loop-rest.invariant.fit; tile = c.loop-rest.invariant.tile; at = refl },
      inr (inl (refl, record { some = not_empty _ c.is_empty.result c.is_empty.ensures c.loop-rest-test.true; none = c.in_default-piece_at.ensures })),
    ))

pub returns-in-Some-fault_after-clause-refused : goal.returns-in-Some-fault_after-clause-refused
returns-in-Some-fault_after-clause-refused c =
    let piece = c.in-Some-piece_at.piece in
    rw c.at_line-in-Some-fault_after.ensures (inr (
      c.loop-rest.pieces,
      c.loop-rest.rest.now,
      record { is_text = c.loop-rest.invariant.is_text; fit = c.loop-rest.invariant.fit; tile = c.loop-rest.invariant.tile; at = refl },
      inr (inr record {
        piece = piece;
        rest = c.in-Some-piece_at.after.now;
        fits = c.in-Some-piece_at.ensures.1;
        is_next = c.in-Some-piece_at.ensures.0;
        breaks = ap (λ before. fault_after before piece) (sym c.as_slice.ensures) ∙ sym c.fault_after.ensures ∙ c.in-Some-fault_after.is;
      }),
    ))

pub loop-rest-smaller : goal.loop-rest-smaller
loop-rest-smaller c = shorter c.in-Some-piece_at.piece _ _ c.in-Some-piece_at.ensures.0

pub loop-rest-preserved : goal.loop-rest-preserved
loop-rest-preserved c =
    let before = c.loop-rest.pieces in
    let piece = c.in-Some-piece_at.piece in
    let pushed : c.push.new.self ≡ before ++ piece ∷ [] = search rules in
    let none = ap (λ xs. fault_after xs piece) (sym c.as_slice.ensures) ∙ sym c.fault_after.ensures ∙ c.in_default-fault_after.is in
    rw pushed record {
      is_text = text_more _ before piece _ _ c.loop-rest.invariant.is_text c.in-Some-piece_at.ensures.0;
      fit = All-push Fits before piece c.loop-rest.invariant.fit c.in-Some-piece_at.ensures.1;
      tile = tile_more before piece c.loop-rest.invariant.tile none;
    }

pub returns-then-is_empty-clause-refused : goal.returns-then-is_empty-clause-refused
returns-then-is_empty-clause-refused c =
    let ends : c.is_empty.result ≡ true = search rules in
    rw c.at_line-then-is_empty.ensures (inr (
      c.loop-rest.pieces,
      c.loop-rest.rest.now,
      record { is_text = c.loop-rest.invariant.is_text; fit = c.loop-rest.invariant.fit; tile = c.loop-rest.invariant.tile; at = refl },
      inl (refl, empty _ c.is_empty-2.result c.is_empty-2.ensures c.if-is_empty.true, empty _ c.is_empty.result c.is_empty.ensures ends),
    ))
