-- One step more was taken, or nothing is left.
use Rattle.std.proofs.Common.{◌≡◌, ◌∙◌, ◌++◌, [], drop, sym, ap, subst, append_assoc, append-nil, take-append-drop, arith, rules, true}
use Rattle.std.proofs.lemmas.Bool.Decides.{nat_tests}
use Rattle.csvw_split.specs.Cuts.{Cuts}
use Rattle.csvw_split.proofs.FileLemmas.{none_left}
use Rattle.csvw_split.proofs.cuts.FileCuts.take.Goals as goal

pub loop-rest-preserved : goal.loop-rest-preserved
loop-rest-preserved c =
    let inv = c.loop-rest.invariant in
    let step = c.split_at.result.0.now in
    let after = c.split_at.result.1.now in
    let both : c.loop-rest.rest.now ≡ step ++ after =
    sym (take-append-drop c.step_len.result c.loop-rest.rest.now) ∙ ap (λ b. b ++ drop c.step_len.result c.loop-rest.rest.now) (sym c.split_at.ensures.front)
    ∙ ap (λ b. step ++ b) (sym c.split_at.ensures.back) in
    record {
      fits = search rules;
      front = inv.front ++ step;
      parts = inv.parts ∙ ap (λ b. inv.front ++ b) both ∙ sym (append_assoc inv.front step after);
      cuts = λ t text h. subst (Cuts c.step.new.self t) (append_assoc text inv.front step) (c.in_ok-step.ensures.cuts t (text ++ inv.front) (inv.cuts t text h));
    }

pub returns : goal.returns
returns c =
    let inv = c.loop-rest.invariant in
    let ends : c.is_empty.result ≡ true = search rules in
    let none : c.loop-rest.rest.now ≡ [] = none_left c.loop-rest.rest.now (let e = c.is_empty.ensures in grind (arith, nat_tests)) in
    let whole : inv.front ≡ c.args.piece.now = sym (inv.parts ∙ ap (λ b. inv.front ++ b) none ∙ append-nil inv.front) in
    record { cuts = λ t text h. subst (λ b. Cuts c.loop-rest.self t (text ++ b)) whole (inv.cuts t text h) }
