use Rattle.std.proofs.Common.{arith, ◌^◌, ◌<◌, ◌≡◌, ◌++◌, ◌-◌, ◌*◌, ◌/◌, ◌%◌, ℕ, [], refl, unsigned_abs, FitsSigned, ap, sym, subst, ◌∙◌}
use mir.Syntax.{w128}
use Rattle.std.proofs.Math.Nat.{mod-eq-sub-div-mul}
use Rattle.std.proofs.lemmas.Int.{to_z-of_z}
use Rattle.std.specs.Fmt.{decimal}
use Rattle.csvw_datatype_core.specs.LexicalNumbers.{AppendsPart}
use Rattle.csvw_datatype_core.proofs.FormLemmas.{number_is_form}
use Rattle.csvw_datatype_core.proofs.LexicalNumber.{lexical_number}
use Rattle.csvw_datatype_core.proofs.lexical_number.refill_number.Goals as goal

pub returns : goal.returns
returns c =
    let count = c.unsigned_abs-count.result in
    let abs : count ≡ unsigned_abs c.args.number = c.unsigned_abs-count.ensures.value
    ∙ ap unsigned_abs (to_z-of_z w128 c.args.number c.ranges.number) in
    let small : count < 10 ^ 38 = omega (arith, abs, c.requires) in
    let fits : FitsSigned w128 c.args.number = c.ranges.number in
    let sign = simp to_z-of_z at c.in_ok-refill_sign.ensures in
    let whole : c.whole_part-whole.result ≡ count / 10 ^ 18 = c.whole_part-whole.ensures in
    let rest : count - c.whole_part-whole.result * 10 ^ 18 ≡ count % 10 ^ 18 =
    ap (λ w. count - w * 10 ^ 18) whole ∙ sym (mod-eq-sub-div-mul count (10 ^ 18)) in
    let WritesWhole : ℕ → Type 0 = λ w. c.push_decimal.new.out ≡ c.refill_sign.new.out ++ decimal w in
    let WritesRest : ℕ → Type 0 = AppendsPart c.push_decimal.new.out c.push_fraction.new.out in
    let lexical = lexical_number c.args.number count [] _ _ _ abs small refl sign
    (subst WritesWhole whole c.in_ok-push_decimal.ensures) (subst WritesRest rest c.in_ok-push_fraction.ensures) in
    number_is_form _ c.args.number c.requires lexical
