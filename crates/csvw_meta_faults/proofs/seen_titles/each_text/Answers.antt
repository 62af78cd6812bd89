-- The value of an item comes before those of the remaining ones.
use Rattle.std.proofs.Common.{◌∙◌}
use Rattle.csvw_meta_core.specs.Pointer.{text_of}
use Rattle.csvw_meta_core.specs.Kinds.{text}
use Rattle.csvw_meta_faults.proofs.ItemsLemmas.{map_same, value_more, values_done}
use Rattle.csvw_meta_faults.proofs.seen_titles.each_text.Goals as goal

pub loop-i-preserved : goal.loop-i-preserved
loop-i-preserved c =
    rw c.in_ok-push.ensures.items
    (value_more (λ t. t) (λ n. text) (text_of c.args.part.now.at) c.loop-i.texts.items c.loop-i.i c.index-items-i.result c.args.items.now
    c.in_ok-text.text _ c.loop-i-test.true c.index-items-i.is c.loop-i.invariant c.in_ok-text.ensures)

pub returns : goal.returns
returns c =
    c.of.ensures
    ∙ (values_done (λ t. t) (λ n. text) (text_of c.args.part.now.at) c.loop-i.texts.items c.loop-i.i c.args.items.now _ c.loop-i-test.false c.loop-i.invariant
    ∙ map_same _)
