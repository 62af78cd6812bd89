-- The next member is judged behind those that were passed, since its name is above theirs.
use Rattle.std.proofs.Common.{◌≡◌, [], ◌∷◌, ◌++◌, sym, ap, ◌∙◌, subst, append_assoc}
use Rattle.std.specs.List.Sorted.{IsStrictlySortedBy}
use Rattle.std.specs.Map.{keys_of}
use Rattle.std.specs.String.{string_cmp}
use Rattle.serde_json.specs.View.{members_view}
use Rattle.serde_json.proofs.Views.{Entry}
use Rattle.csvw_meta_core.specs.Pointer.{text_of}
use Rattle.csvw_defaults.specs.Sources.{source_of}
use Rattle.csvw_defaults.specs.Parts.{member_faults}
use Rattle.csvw_defaults.proofs.MemberLemmas.{of, faults_last, goes_last, names_last}
use Rattle.csvw_defaults.proofs.object.judge_members.Goals as goal

pub loop-name-preserved : goal.loop-name-preserved
loop-name-preserved g c =
    let l = c.loop-name in
    let rule = g.P.Properties.rule c.args.properties.now in
    let at = text_of c.args.node.now.part.at in
    let j = source_of c.args.node.now.source in
    let old = c.args.faults.now.items in
    let done = l.invariant.0 in
    let e : Entry = (c.in-Some.name.now, c.in-Some.value.now) in
    let more = c.next.new.self in
    let all : c.args.members.now.entries ≡ done ++ e ∷ more = l.invariant.1 ∙ ap (λ es. done ++ es) c.in-Some.ensures.steps in
    let last = goes_last rule at j done e more (subst (λ es. IsStrictlySortedBy string_cmp (keys_of es)) all c.iter-name-items.ensures.ordered) in
    let faults = rw (c.member.ensures.at, c.member.ensures.source, c.member.ensures.value, c.as_str-name.ensures.value) at c.in_ok-kept.ensures.faults in
    let left = rw (c.member.ensures.at, c.member.ensures.source, c.member.ensures.value, c.as_str-name.ensures.value) at c.in_ok-kept.ensures.left in (
      done ++ e ∷ [],
      all ∙ sym (append_assoc done (e ∷ []) more),
      faults ∙ ap (λ fs. fs ++ (of rule at j e).faults) l.invariant.2 ∙ append_assoc old (member_faults rule at j (members_view done)) (of rule at j e).faults
          ∙ ap (λ fs. old ++ fs) (sym (faults_last rule at j done e)),
      c.in_ok-put_kept.ensures ∙ rw (c.as_str-name.ensures.value, left.value, l.invariant.3) last,
      c.in_ok-push_if.ensures ∙ rw (c.as_str-name.ensures.value, left.is_ignored, l.invariant.4) (sym (names_last rule at j done e)),
    )
