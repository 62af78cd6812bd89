use Rattle.std.proofs.Common.{◌≡◌, ◌+◌, ◌++◌, ◌∙◌, sym, ap, subst, arith, string_bytes, true, false, length, length-append, List, ℕ, nat_lt}
use Rattle.std.specs.Prelude.{Ok}
use Rattle.std.proofs.lemmas.Bool.Decides.{nat_tests}
use Rattle.csvw_iri.specs.Encoded.{percent_encoded}
use Rattle.csvw_iri.specs.Link.{max_text, link_of}
use Rattle.csvw_iri.specs.Safe.{is_iri}
use Rattle.csvw_iri.proofs.EncodedLinks.{both_raw, link_behind}
use Rattle.csvw_iri.proofs.front.OwnFront.encoded_link.Goals as goal

-- what stands in the room
encodes : (c : goal.After-as_str-2) → c.as_str-2.result.now ≡ percent_encoded c.args.text.now
encodes c =
    c.as_str-2.ensures.value ∙ c.in_ok-push_percent_encoded.ensures ∙ ap (λ l. l ++ percent_encoded c.args.text.now) c.clear.ensures.bytes

raw : (c : goal.After-as_str-2) → (is_iri c.self.inside.text ≡ true) × (is_iri (percent_encoded c.args.text.now) ≡ true)
raw c =
    both_raw c.self.inside.text c.self.inside.place (percent_encoded c.args.text.now) c.self.invariant (c.takes.ensures c.if-not-takes.false)

pub over-requires-clause-front : goal.over-requires-clause-front
over-requires-clause-front c = ap is_iri c.as_str.ensures ∙ (raw c).0

pub over-requires-clause-rest : goal.over-requires-clause-rest
over-requires-clause-rest c = ap is_iri (encodes c) ∙ (raw c).1

pub returns : goal.returns
returns c = λ base.
    let goes = c.takes.ensures c.if-not-takes.false in
    let front = c.self.inside.text in
    let more = percent_encoded c.args.text.now in
    let is_room : string_bytes c.push_percent_encoded.new.out ≡ more =
    c.in_ok-push_percent_encoded.ensures ∙ ap (λ l. l ++ more) c.clear.ensures.bytes in
    let size : length (string_bytes c.push_percent_encoded.new.out) ≡ length more = ap (λ (l : List ℕ). length l) is_room in
    let both : length (front ++ more) ≡ length front + length more = length-append front more in
    let short : nat_lt max_text (length (front ++ more)) ≡ false = grind (arith, nat_tests) in
    let is_iri : c.in_ok-iri.iri ≡ front ++ more =
    c.in_ok-iri.ensures ∙ ap (λ f. f ++ c.as_str-2.result.now) c.as_str.ensures ∙ ap (λ r. front ++ r) (c.as_str-2.ensures.value ∙ is_room) in
    subst (λ f. link_of base (f ++ more) ≡ Ok c.in_ok-iri.iri) c.self.view_is
    (link_behind front c.self.inside.place more c.self.invariant goes short base ∙ ap Ok (sym is_iri))
