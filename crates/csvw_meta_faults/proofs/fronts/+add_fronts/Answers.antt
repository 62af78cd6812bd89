-- A pointer, and then the fronts of what is before its last step.
use Rattle.std.proofs.Common.{◌≡◌, ◌∙◌, ◌-◌, ap, arith, drop, suc, take}
use Rattle.std.proofs.lemmas.Str.Pattern.{rfind_char}
use Rattle.csvw_meta_faults.proofs.FrontsLemmas.{cut_at, sole_front, step_after, step_of, with_front}
use Rattle.csvw_meta_faults.proofs.fronts.+add_fronts.Goals as goal

pub returns : goal.returns
returns t c = λ p.
    let pointer = c.args.pointer.now in
    let k = c.in-Some.k in
    let found = rw c.in-Some.is at (rfind_char 47 pointer c.rfind.result c.rfind.ensures.cases (omega arith)) in
    let same : k - 0 ≡ k = omega arith in
    with_front pointer (take k pointer) (drop (suc k) pointer) p _ _ _ (cut_at pointer k found.0 found.1) (step_after pointer k found.2)
    (c.in_ok-add_text.ensures p) (rw (c.range.ensures.value ∙ ap (λ n. take n pointer) same) at (c.in_ok-add_fronts.ensures p))

pub returns-in_default : goal.returns-in_default
returns-in_default t c = λ p.
    let pointer = c.args.pointer.now in
    let found = rw c.in_default.is at (rfind_char 47 pointer c.rfind.result c.rfind.ensures.cases (omega arith)) in
    sole_front pointer p _ _ (step_of pointer found) (c.in_ok-add_text.ensures p)
