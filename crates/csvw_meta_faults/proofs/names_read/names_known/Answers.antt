-- One more flag.
use Rattle.std.proofs.Common.{◌≡◌, arith, length, not, subst}
use Rattle.csvw_meta.specs.NamesRead.{name_known}
use Rattle.csvw_meta_faults.specs.Flags.{AreFlags}
use Rattle.csvw_meta_faults.proofs.FlagsLemmas.{flags_more, no_flags}
use Rattle.csvw_meta_faults.proofs.KnownLemmas.{known_at}
use Rattle.csvw_meta_faults.proofs.names_read.names_known.Goals as goal

pub loop-i-init : goal.loop-i-init
loop-i-init c = rw c.new-known.ensures.items (no_flags (name_known c.args.marks.now.faults.now c.args.at.now c.args.columns.now))

pub loop-i-preserved : goal.loop-i-preserved
loop-i-preserved c =
    let faults = c.args.marks.now.faults.now in
    let is = known_at faults c.args.at.now c.args.columns.now c.loop-i.i c.index-columns-i.result c.in_ok-hidden.hidden c.loop-i-test.true c.index-columns-i.is c.in_ok-hidden.ensures in
    rw c.in_ok-push.ensures.items
    (flags_more (name_known faults c.args.at.now c.args.columns.now) c.loop-i.i c.loop-i.known.items (not c.in_ok-hidden.hidden) c.loop-i.invariant is)

pub returns : goal.returns
returns c =
    let all : c.loop-i.i ≡ length c.args.columns.now = omega (arith, c.loop-i.auto.i-end, c.loop-i-test.false) in
    subst (λ n. AreFlags (name_known c.args.marks.now.faults.now c.args.at.now c.args.columns.now) n c.loop-i.known.items) all c.loop-i.invariant
