-- A node by what the text begins with.
use Rattle.std.proofs.Common.{inl, inr, subst}
use Rattle.std.proofs.lemmas.Result.{err_from_is_err_and}
use Rattle.csvw_ntriples.specs.Reading.{StartsSo}
use Rattle.csvw_ntriples.proofs.Composed.{err_on, no_named, no_blank, no_node, literal_no_node}
use Rattle.csvw_ntriples.proofs.reading.triple_line.node.Goals as goal

pub returns-in_err-iri-in-Iri : goal.returns-in_err-iri-in-Iri
returns-in_err-iri-in-Iri c =
    let p = err_from_is_err_and c.from_residual.result c.from_residual.ensures.1 in
    err_on _ _ c.from_residual.result p.0 _ p.1 p.2 c.in_err-iri-in-Iri.ensures (no_named c.args.text.now c.in-Iri.ensures)

pub returns-in_err-label-in-Blank : goal.returns-in_err-label-in-Blank
returns-in_err-label-in-Blank c =
    let p = err_from_is_err_and c.from_residual-in_err-label-in-Blank.result c.from_residual-in_err-label-in-Blank.ensures.1 in
    err_on _ _ c.from_residual-in_err-label-in-Blank.result p.0 _ p.1 p.2 c.in_err-label-in-Blank.ensures (no_blank c.args.text.now c.in-Blank.ensures)

pub returns-in-Literal : goal.returns-in-Literal
returns-in-Literal c =
    elim c.in-Literal.is [
      | inl e ↦ literal_no_node c.args.text.now (subst (StartsSo c.args.text.now) e c.start_of.ensures)
      | inr e ↦ let other = subst (StartsSo c.args.text.now) e c.start_of.ensures in no_node c.args.text.now other.0 other.1
    ]
