-- The value of an item comes before those of the remaining ones.
use Rattle.std.proofs.Common.{◌∙◌}
use Rattle.csvw_meta_core.specs.Pointer.{text_of}
use Rattle.csvw_meta_keys.specs.ForeignKeys.{foreign_key}
use Rattle.csvw_meta_faults_parts.specs.BareKeys.{bare_key}
use Rattle.csvw_meta_faults_parts.proofs.ItemsLemmas.{value_more, values_done}
use Rattle.csvw_meta_faults_parts.proofs.seen_keys.each_seen.Goals as goal

pub loop-i-preserved : goal.loop-i-preserved
loop-i-preserved c = λ place.
    rw c.in_ok-push.ensures.items
    (value_more bare_key (λ n. foreign_key c.args.context.now.profile c.args.context.now.base place) (text_of c.args.part.now.at)
    c.loop-i.keys.items c.loop-i.i c.index-items-i.result
    c.args.items.now c.in_ok-key.key _ c.loop-i-test.true c.index-items-i.is (c.loop-i.invariant place) (c.in_ok-key.ensures place))

pub returns : goal.returns
returns c = λ place.
    c.of.ensures
    ∙ values_done bare_key (λ n. foreign_key c.args.context.now.profile c.args.context.now.base place) (text_of c.args.part.now.at)
    c.loop-i.keys.items c.loop-i.i c.args.items.now _
    c.loop-i-test.false (c.loop-i.invariant place)
