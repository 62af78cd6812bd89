use Rattle.std.proofs.Common.{◌≡◌, ◌<◌, ◌++◌, length, string_bytes, sym, ap, ◌∙◌, append_assoc, append-nil, arith}
use Rattle.std.proofs.lemmas.Bool.Decides.{nat_tests}
use Rattle.csvw_template.specs.Expand.{kept}
use Rattle.csvw_template.proofs.KeptLemmas.{kept-other, kept-nil}
use Rattle.csvw_template.proofs.encode.push_kept.Goals as goal

pub loop-rest-preserved : goal.loop-rest-preserved
loop-rest-preserved c =
    let lt : 0 < length c.loop-rest.rest.now = grind (arith, nat_tests) in
    let one = kept-other c.loop-rest.rest.now lt (sym c.is_triplet.ensures.value ∙ c.if-is_triplet.false) in
    rw (c.skip-rest-else-is_triplet.ensures, c.in_ok-push_kept_byte.ensures, append_assoc, ← one) c.loop-rest.invariant

pub returns : goal.returns
returns c =
    let none : length c.loop-rest.rest.now ≡ 0 = grind (arith, nat_tests) in
    sym (append-nil (string_bytes c.loop-rest.out)) ∙ ap (λ x. string_bytes c.loop-rest.out ++ x) (sym (kept-nil c.loop-rest.rest.now none))
    ∙ c.loop-rest.invariant ∙ ap (λ x. string_bytes c.args.out.now ++ kept x) c.as_bytes-rest.ensures.value
