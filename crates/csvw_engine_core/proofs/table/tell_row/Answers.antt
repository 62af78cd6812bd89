-- All cells were passed.
use Rattle.std.proofs.Common.{◌≡◌, ◌⊎◌, [], inl, inr}
use Rattle.csvw_engine_core.proofs.Faults.{no_items, told_all}
use Rattle.csvw_engine_core.proofs.table.tell_row.Goals as goal

pub returns : goal.returns
returns c =
    let none : (c.loop-column.column-iterator.a.rest.now ≡ []) ⊎ (c.loop-column.column-iterator.b.rest.now ≡ []) =
    elim c.in-None.ensures.steps [ inl (_, (none, _)) ↦ inl (no_items _ none) | inr (_, (none, _)) ↦ inr (no_items _ none) ] in
    told_all _ c.loop-column.column-iterator.a.rest.now c.loop-column.column-iterator.b.rest.now c.loop-column.faults _ none c.loop-column.invariant
