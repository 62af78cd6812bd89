use Rattle.std.proofs.Common.{◌≡◌, ◌++◌, ◌∙◌, sym, subst, arith}
use Rattle.std.specs.Prelude.{codes}
use Rattle.std.proofs.lemmas.Bool.Decides.{nat_tests}
use Rattle.csvw_iri.proofs.FragmentLinks.{fragment_link, fragment_raw}
use Rattle.csvw_iri.proofs.own.is_fragment.Goals as goal

pub returns-in-Some : goal.returns-in-Some
returns-in-Some c =
    let text = c.args.text.now in
    let rest = c.in-Some.rest.now in
    let split = subst (λ t. t ≡ codes "#" ++ rest) c.as_bytes.ensures.value c.in-Some.ensures in
    record {
      link = λ goes. fragment_link text rest split (sym c.goes_on.ensures ∙ goes) (grind (arith, nat_tests));
      raw = λ goes. fragment_raw text rest split (sym c.goes_on.ensures ∙ goes);
    }
