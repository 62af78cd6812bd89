-- One more flag.
use Rattle.std.proofs.Common.{◌≡◌, ap, arith, not, subst}
use Rattle.csvw_meta_core.specs.Pointer.{item_at}
use Rattle.csvw_meta_core.specs.Rules.{could_read_property}
use Rattle.csvw_meta_faults.specs.Flags.{AreFlags}
use Rattle.csvw_meta_faults.proofs.FlagsLemmas.{flags_more, no_flags}
use Rattle.csvw_meta_faults.proofs.names_read.property_known.Goals as goal

pub loop-i-init : goal.loop-i-init
loop-i-init c =
    rw c.new-known.ensures.items (no_flags (λ i. could_read_property c.args.marks.now.faults.now (item_at c.args.at.now i) c.args.name.now))

pub loop-i-preserved : goal.loop-i-preserved
loop-i-preserved c =
    rw c.in_ok-push.ensures.items
    (flags_more (λ i. could_read_property c.args.marks.now.faults.now (item_at c.args.at.now i) c.args.name.now) c.loop-i.i c.loop-i.known.items
    (not c.in_ok-hidden.hidden) c.loop-i.invariant (ap not c.in_ok-hidden.ensures))

pub returns : goal.returns
returns c =
    let all : c.loop-i.i ≡ c.args.count = omega (arith, c.loop-i.auto.i-end, c.loop-i-test.false) in
    subst (λ n. AreFlags (λ i. could_read_property c.args.marks.now.faults.now (item_at c.args.at.now i) c.args.name.now) n c.loop-i.known.items) all
    c.loop-i.invariant
