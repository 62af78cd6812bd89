-- One more text is repeated or not.
use Rattle.std.proofs.Common.{◌≡◌, ◌∙◌, ◌&&◌, ap, bytes_eq, false, get_or, map, subst, sym}
use Rattle.csvw_meta_faults.proofs.RepeatedLemmas.{repeats, repeats_done}
use Rattle.csvw_meta_faults.proofs.SetLemmas.{any_kept}
use Rattle.csvw_meta_faults.proofs.repeated.repeated_at.Goals as goal

pub loop-i-preserved : goal.loop-i-preserved
loop-i-preserved c =
    let this = c.as_str-this.result in
    let keep = get_or c.args.known.now c.loop-i.i false in (
      λ fault.
          rw (c.in_ok-push_if.ensures, c.in_ok-push_if-2.ensures)
          (repeats (λ i. get_or c.args.known.now i false) fault _ (λ t. t.now) c.loop-i.found.items c.loop-i.before.items c.loop-i.i this
          c.args.texts.now c.is_repeated-repeats.result c.loop-i-test.true
          (subst (λ y. y ≡ get_or c.args.texts.now c.loop-i.i y) (sym c.as_str-this.ensures) c.index-texts-i.is)
          (c.is_repeated-repeats.ensures ∙ ap (λ b. keep && b) (c.loop-i.invariant.1 this.now)) (c.loop-i.invariant.0 fault)),
      λ p.
          rw c.in_ok-push_if-2.ensures
          (any_kept (λ u. bytes_eq u p) (λ t. t.now) c.loop-i.before.items this keep _ _ (c.loop-i.invariant.1 p) (c.in_ok-add_if.ensures p)),
    )

pub returns : goal.returns
returns c = λ fault.
    ap (λ ks. map fault ks) c.of.ensures
    ∙ repeats_done (λ i. get_or c.args.known.now i false) fault _ c.loop-i.found.items (map (λ t. t.now) c.loop-i.before.items) c.loop-i.i c.args.texts.now
    c.loop-i-test.false (c.loop-i.invariant.0 fault)
