-- A term by what the text begins with.
use Rattle.std.proofs.lemmas.Result.{err_from_is_err_and}
use Rattle.csvw_ntriples.proofs.Composed.{err_on_dot, dot_on_dot, no_named_term, no_blank_term, no_literal_term, no_term, named_term_once}
use Rattle.csvw_ntriples.proofs.Composed.{blank_term_once, literal_term_once}
use Rattle.csvw_ntriples.proofs.reading.triple_line.term.Goals as goal

pub returns-in_err-iri-in-Iri : goal.returns-in_err-iri-in-Iri
returns-in_err-iri-in-Iri c =
    let p = err_from_is_err_and c.from_residual.result c.from_residual.ensures.1 in
    err_on_dot _ _ c.from_residual.result p.0 _ p.1 p.2 c.in_err-iri-in-Iri.ensures (no_named_term c.args.text.now c.in-Iri.ensures)

pub returns-in_err-label-in-Blank : goal.returns-in_err-label-in-Blank
returns-in_err-label-in-Blank c =
    let p = err_from_is_err_and c.from_residual-in_err-label-in-Blank.result c.from_residual-in_err-label-in-Blank.ensures.1 in
    err_on_dot _ _ c.from_residual-in_err-label-in-Blank.result p.0 _ p.1 p.2 c.in_err-label-in-Blank.ensures (no_blank_term c.args.text.now c.in-Blank.ensures)

pub returns-in_err-lit-in-Literal : goal.returns-in_err-lit-in-Literal
returns-in_err-lit-in-Literal c =
    let p = err_from_is_err_and c.from_residual-in_err-lit-in-Literal.result c.from_residual-in_err-lit-in-Literal.ensures.1 in
    dot_on_dot _ _ c.from_residual-in_err-lit-in-Literal.result p.0 _ p.1 p.2 c.in_err-lit-in-Literal.ensures
    (no_literal_term c.args.text.now c.in-Literal.ensures)

pub returns-in_ok-iri-in-Iri : goal.returns-in_ok-iri-in-Iri
returns-in_ok-iri-in-Iri c =
    (c.in_ok-iri-in-Iri.ensures, named_term_once c.args.text.now c.in_ok-iri-in-Iri.iri c.in_ok-iri-in-Iri.rest.now c.in-Iri.ensures c.in_ok-iri-in-Iri.ensures)

pub returns-in_ok-label-in-Blank : goal.returns-in_ok-label-in-Blank
returns-in_ok-label-in-Blank c = (
  c.in_ok-label-in-Blank.ensures,
  blank_term_once c.args.text.now c.in_ok-label-in-Blank.label c.in_ok-label-in-Blank.rest.now c.in-Blank.ensures
      c.in_ok-label-in-Blank.ensures,
)

pub returns-in_ok-lit-in-Literal : goal.returns-in_ok-lit-in-Literal
returns-in_ok-lit-in-Literal c =
    (c.in_ok-lit-in-Literal.ensures.0, literal_term_once c.args.text.now c.in_ok-lit-in-Literal.rest.now c.in-Literal.ensures c.in_ok-lit-in-Literal.ensures.1)

pub returns-in-Other : goal.returns-in-Other
returns-in-Other c = no_term c.args.text.now c.in-Other.ensures.0 c.in-Other.ensures.1 c.in-Other.ensures.2
