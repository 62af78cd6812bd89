use Rattle.std.proofs.Common.{◌≡◌, ◌∙◌, sym}
use Rattle.std.proofs.lemmas.Slice.Eq.{bytes_eq-Decides}
use Rattle.csvw_iri.proofs.FrontLemmas.{joined}
use Rattle.csvw_iri.proofs.front.behind.Goals as goal

pub returns-in-Some : goal.returns-in-Some
returns-in-Some c =
    let front = c.in-Some.front.now in
    let same : front ≡ c.args.first.now = (bytes_eq-Decides front c.args.first.now).0 (sym c.eq.ensures ∙ c.if-eq.true) in
    joined c.args.text.now c.args.first.now front c.in-Some.rest.now c.in-Some.ensures.front c.in-Some.ensures.back same
