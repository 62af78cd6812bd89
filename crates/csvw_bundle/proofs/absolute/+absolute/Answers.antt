-- A member is made last, since its name is above those before it. All items and members together are what they should be.
use Rattle.std.proofs.Common.{◌≡◌, [], ◌∷◌, ◌++◌, sym, ap, ◌∙◌, subst, append_assoc, append-nil, arith}
use Rattle.std.specs.List.Sorted.{IsStrictlySortedBy}
use Rattle.std.specs.Map.{keys_of}
use Rattle.std.specs.String.{string_cmp}
use Rattle.serde_json.specs.View.{members_view}
use Rattle.serde_json.proofs.Views.{Entry}
use Rattle.csvw_bundle.specs.Absolute.{absolute, absolute_members}
use Rattle.csvw_bundle.proofs.AbsoluteLemmas.{absolute_maps, are_absolute}
use Rattle.csvw_bundle.proofs.MembersLemmas.{goes_last}
use Rattle.csvw_bundle.proofs.absolute.+absolute.Goals as goal

pub absolute_members-loop-name-preserved : goal.absolute_members-loop-name-preserved
absolute_members-loop-name-preserved t c =
    let l = c.loop-name in
    let done = l.invariant.0 in
    let e : Entry = (c.in-Some.name.now, c.in-Some.value.now) in
    let left = c.next.new.self in
    let all : c.args.members.now.entries ≡ done ++ e ∷ left = l.invariant.1 ∙ ap (λ es. done ++ es) c.in-Some.ensures.steps in
    let last = goes_last (absolute c.args.base.now) done e left (subst (λ es. IsStrictlySortedBy string_cmp (keys_of es)) all c.iter-name-items.ensures.ordered) in (
      done ++ e ∷ [],
      all ∙ sym (append_assoc done (e ∷ []) left),
      c.in_ok-put.ensures.ok ∙ rw (c.as_str-in-loop-name.ensures.value, c.in_ok-value.ensures, c.as_str.ensures.value, l.invariant.2) last,
    )

pub absolute_members-returns : goal.absolute_members-returns
absolute_members-returns t c =
    let l = c.loop-name in
    let all : c.args.members.now.entries ≡ l.invariant.0 = l.invariant.1 ∙ ap (λ es. l.invariant.0 ++ es) c.in-None.ensures.steps.0 ∙ append-nil l.invariant.0 in
    l.invariant.2 ∙ sym (absolute_maps c.args.base.now (members_view l.invariant.0))
    ∙ ap (λ es. absolute_members c.args.base.now (members_view es)) (sym all)

pub absolute_items-returns : goal.absolute_items-returns
absolute_items-returns t c =
    let done = rw c.deref-item-items.ensures.value at c.loop-item.invariant in
    are_absolute c.args.base.now c.loop-item.item-index c.args.items.now.items c.loop-item.resolved.items (omega arith) done
