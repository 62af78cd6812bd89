-- A member is put last, since its name is above those before it. Its fault is a fault of all.
use Rattle.std.proofs.Common.{◌≡◌, [], ◌∷◌, ◌++◌, sym, ap, ◌∙◌, subst, append_assoc, append-nil}
use Rattle.std.proofs.lemmas.Result.{err_from_is_err_and}
use Rattle.std.specs.List.Sorted.{IsStrictlySortedBy}
use Rattle.std.specs.Map.{keys_of}
use Rattle.std.specs.String.{string_cmp}
use Rattle.serde_json.specs.Data.{Data}
use Rattle.serde_json.specs.View.{members_view}
use Rattle.serde_json.proofs.Views.{Entry}
use Rattle.csvw_meta_core.specs.Read.{Read}
use Rattle.csvw_bundle.specs.Members.{each_member}
use Rattle.csvw_bundle.proofs.MembersLemmas.{fails_among, goes_last, none_last, reads_all, value_of}
use Rattle.csvw_bundle.proofs.members.each_member.Goals as goal

pub returns-in_err-value : goal.returns-in_err-value
returns-in_err-value g c =
    let p = err_from_is_err_and c.from_residual.result c.from_residual.ensures.1 in
    let l = c.loop-name in
    let e : Entry = (c.in-Some.name.now, c.in-Some.value.now) in
    let all : c.args.members.now.entries ≡ l.invariant.0 ++ e ∷ c.next.new.self = l.invariant.1 ∙ ap (λ es. l.invariant.0 ++ es) c.in-Some.ensures.steps in
    let fault = rw c.as_str.ensures.value at c.in_err-value.ensures in
    rw (p.1, p.2, all) (fails_among (g.R.MemberReader.reads c.args.reader.now) c.in_err-value.field-0.0 l.invariant.0 e c.next.new.self fault)

pub loop-name-preserved : goal.loop-name-preserved
loop-name-preserved g c =
    let l = c.loop-name in
    let reads = g.R.MemberReader.reads c.args.reader.now in
    let done = l.invariant.0 in
    let e : Entry = (c.in-Some.name.now, c.in-Some.value.now) in
    let left = c.next.new.self in
    let all : c.args.members.now.entries ≡ done ++ e ∷ left = l.invariant.1 ∙ ap (λ es. done ++ es) c.in-Some.ensures.steps in
    let last = goes_last (value_of reads) done e left (subst (λ es. IsStrictlySortedBy string_cmp (keys_of es)) all c.iter-name-items.ensures.ordered) in
    let one = rw c.as_str.ensures.value at c.in_ok-value.ensures in
    let value = sym (ap (λ (r : Read Data). r.value) one) in (
      done ++ e ∷ [],
      all ∙ sym (append_assoc done (e ∷ []) left),
      none_last reads done e l.invariant.2 (ap (λ (r : Read Data). r.faults) one),
      c.in_ok-put.ensures.ok ∙ rw (c.as_str-in-loop-name.ensures.value, value, l.invariant.3) last,
    )

pub returns : goal.returns
returns g c =
    let l = c.loop-name in
    let reads = g.R.MemberReader.reads c.args.reader.now in
    let all : c.args.members.now.entries ≡ l.invariant.0 = l.invariant.1 ∙ ap (λ es. l.invariant.0 ++ es) c.in-None.ensures.steps.0 ∙ append-nil l.invariant.0 in
    ap (λ es. each_member reads (members_view es)) all ∙ reads_all reads l.invariant.0 _ l.invariant.2 l.invariant.3
