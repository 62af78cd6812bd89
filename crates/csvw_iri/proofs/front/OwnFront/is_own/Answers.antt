use Rattle.std.proofs.Common.{◌≡◌, ◌∙◌, ◌++◌, Some, true, ap, sym, subst, arith}
use Rattle.std.proofs.lemmas.Bool.Decides.{nat_tests}
use Rattle.csvw_iri.specs.Own.{IsOwnFront, goes_on}
use Rattle.csvw_iri.proofs.FrontLemmas.{GoesOn, goes_behind}
use Rattle.csvw_iri.proofs.OwnLinks.{own_link, own_raw}
use Rattle.csvw_iri.proofs.front.OwnFront.is_own.Goals as goal

pub returns-in-Some : goal.returns-in-Some
returns-in-Some c =
    let text = c.args.text.now in
    let more = c.in-Some.rest.now in
    let place = c.self.inside.place in
    let front = c.as_str.result.now in
    let is_front : IsOwnFront front place = subst (λ f. IsOwnFront f place) (sym c.as_str.ensures) c.self.invariant in
    let split : text ≡ front ++ more = c.in-Some.ensures in
    let on : goes_on (Some place) more ≡ c.goes_on.result = ap (goes_on (Some place)) (sym c.as_bytes.ensures.value) ∙ sym c.goes_on.ensures in
    let behind : c.goes_on.result ≡ true → GoesOn text = λ goes. goes_behind front place more text is_front split (on ∙ goes) in
    record {
      link = λ goes. own_link text (behind goes).rest (behind goes).of_scheme (behind goes).goes (grind (arith, nat_tests));
      raw = λ goes. own_raw text (behind goes).rest (behind goes).of_scheme (behind goes).goes;
    }
