-- The triples that were read, and what the reader has left, are the document.
use Rattle.std.proofs.Common.{◌≡◌, ◌∙◌, sym, ap, subst, Option}
use Rattle.std.specs.Prelude.{Ok, Err}
use Rattle.std.proofs.lemmas.Result.{err_from_is_err_and}
use Rattle.csvw_ntriples.specs.Passing.{Passes, given}
use Rattle.csvw_ntriples.specs.declared.term.NtTriple.{NtTriple}
use Rattle.csvw_ntriples.specs.declared.term.NtFault.TheVariants.{Syntax}
use Rattle.csvw_ntriples.proofs.Lines.{err_same}
use Rattle.csvw_ntriples.proofs.Passing.{read_on, read_all, read_none}
use Rattle.csvw_ntriples.proofs.reading.document.read.Goals as goal

pub returns-in_err-triple-clause-none : goal.returns-in_err-triple-clause-none
returns-in_err-triple-clause-none c =
    let p = err_from_is_err_and c.from_residual.result c.from_residual.ensures.1 in
    λ h ts d.
    let same : p.0 ≡ Syntax = err_same c.from_residual.result p.0 p.1 h in
    read_none c.args.bytes.now c.loop-reader.reader c.next.new.self c.loop-reader.triples ts c.loop-reader.invariant c.in_err-triple.ensures.passes
    (c.in_err-triple.ensures.refused (ap Err (sym p.2 ∙ same))) d

pub loop-reader-preserved : goal.loop-reader-preserved
loop-reader-preserved c =
    let one = subst (λ (z : Option NtTriple). Passes c.loop-reader.reader (given (Ok z)) c.next.new.self) c.in-Some.is c.in_ok-triple.ensures.passes in
    read_on c.args.bytes.now c.loop-reader.reader c.next.new.self c.loop-reader.triples c.push.new.self c.in-Some.triple c.loop-reader.invariant one
    c.in-Ok.ensures.ok

pub returns-clause-found : goal.returns-clause-found
returns-clause-found c =
    let none = subst (λ (z : Option NtTriple). Passes c.loop-reader.reader (given (Ok z)) c.next.new.self) c.in_default.is c.in_ok-triple.ensures.passes in
    read_all c.args.bytes.now c.loop-reader.reader c.next.new.self c.loop-reader.triples c.into_vec.result.items c.loop-reader.invariant none
    (c.in_ok-triple.ensures.ended (ap Ok c.in_default.is)) c.into_vec.ensures
