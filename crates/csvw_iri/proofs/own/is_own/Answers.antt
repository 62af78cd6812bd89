use Rattle.std.proofs.Common.{◌∙◌, sym, subst, arith}
use Rattle.std.proofs.lemmas.Bool.Decides.{nat_tests}
use Rattle.csvw_iri.specs.Own.{IsOfScheme}
use Rattle.csvw_iri.proofs.OwnLinks.{own_link, own_raw}
use Rattle.csvw_iri.proofs.own.is_own.Goals as goal

pub returns-in-Some : goal.returns-in-Some
returns-in-Some c =
    let text = c.args.text.now in
    let rest = c.in-Some.rest.now in
    let split = subst (λ t. IsOfScheme t rest) c.as_bytes.ensures.value c.in-Some.ensures in
    record {
      link = λ is_own. own_link text rest split (sym c.goes_on.ensures ∙ is_own) (grind (arith, nat_tests));
      raw = λ is_own. own_raw text rest split (sym c.goes_on.ensures ∙ is_own);
    }
