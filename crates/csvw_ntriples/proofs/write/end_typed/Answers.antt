-- The bytes after a literal with a datatype are its end and the end of the line.
use Rattle.std.proofs.Common.{◌≡◌, ℕ, true, false, List, [], ◌∷◌, ◌++◌, sym, ap, ◌∙◌, append_assoc}
use Rattle.std.specs.Prelude.{codes}
use Rattle.std.proofs.lemmas.Bool.{cond-true, cond-false}
use Rattle.std.proofs.lemmas.Result.{on_ok_weaker}
use Rattle.csvw_ntriples.specs.Written.{datatype_text, iri_text, is_string_type}
use Rattle.csvw_ntriples.proofs.write.end_typed.Goals as goal

plain : (out iri : List ℕ) → is_string_type iri ≡ true → out ++ codes "\" .\n" ≡ (out ++ 34 ∷ datatype_text iri) ++ codes " .\n"
plain out iri is =
    let written : out ++ codes "\" .\n" ≡ (out ++ 34 ∷ []) ++ codes " .\n" = simp append_assoc in
    written ∙ ap (λ d. (out ++ 34 ∷ d) ++ codes " .\n") (sym (cond-true _ _ _ is))

typed : (out iri : List ℕ) → is_string_type iri ≡ false
    → ((out ++ codes "\"^^<") ++ iri) ++ codes "> .\n" ≡ (out ++ 34 ∷ datatype_text iri) ++ codes " .\n"
typed out iri other =
    let written : ((out ++ codes "\"^^<") ++ iri) ++ codes "> .\n" ≡ (out ++ 34 ∷ (codes "^^" ++ iri_text iri)) ++ codes " .\n" = simp append_assoc in
    written ∙ ap (λ d. (out ++ 34 ∷ d) ++ codes " .\n") (sym (cond-false _ _ _ other))

pub returns-then-is_xsd_string : goal.returns-then-is_xsd_string
returns-then-is_xsd_string c = record {
  text = on_ok_weaker c.push_fixed.result (λ e. e ∙ plain c.args.out.now c.args.iri.now (sym c.if-is_xsd_string.ensures.value)) c.push_fixed.ensures;
  fits = on_ok_weaker c.push_fixed.result (λ _. c.if-is_xsd_string.ensures.fits) c.push_fixed.ensures;
}

pub returns-clause-text : goal.returns-clause-text
returns-clause-text c =
    on_ok_weaker c.push_fixed-3.result
    (λ e. e
    ∙ ap (λ z. z ++ codes "> .\n") (c.in_ok-push_iri.ensures.text ∙ ap (λ z. z ++ c.args.iri.now) c.in_ok-push_fixed.ensures)
    ∙ typed c.args.out.now c.args.iri.now (sym c.if-is_xsd_string.ensures.value))
    c.push_fixed-3.ensures
