-- The next line gives a triple, gives none, or denotes nothing.
use Rattle.std.proofs.Common.{◌≡◌, ◌∙◌, sym, subst, length, arith}
use Rattle.std.proofs.lemmas.Bool.Decides.{nat_tests}
use Rattle.std.specs.Prelude.{Err}
use Rattle.std.proofs.lemmas.Result.{err_from_is_err_and}
use Rattle.csvw_ntriples.specs.Passing.{BytesGive}
use Rattle.csvw_ntriples.specs.Reading.{Answers}
use Rattle.csvw_ntriples.specs.declared.term.NtFault.{NtFault}
use Rattle.csvw_ntriples.specs.declared.term.NtFault.TheVariants.{Syntax}
use Rattle.csvw_ntriples.proofs.Lines.{err_same}
use Rattle.csvw_ntriples.proofs.Passing.{line_read, line_idle, line_refused, line_stays, never_left}
use Rattle.csvw_ntriples.proofs.reading.document.NtReader.next.Goals as goal

pub returns-in_err-triple-clause-refused : goal.returns-in_err-triple-clause-refused
returns-in_err-triple-clause-refused c =
    let p = err_from_is_err_and c.from_residual.result c.from_residual.ensures.1 in
    let line = c.first_line.result.0.now in
    λ h.
    let same : p.0 ≡ Syntax = err_same c.from_residual.result p.0 p.1 h in
    let none = subst (λ (z : NtFault). Answers (BytesGive line) (Err z)) (sym p.2 ∙ same) c.in_err-triple.ensures in
    line_refused _ line _ c.first_line.ensures.line none

pub returns-then-is_some-clause-passes : goal.returns-then-is_some-clause-passes
returns-then-is_some-clause-passes c =
    line_read _ _ c.first_line.result.0.now _ c.in_ok-triple.triple c.loop-self.invariant c.first_line.ensures.line c.in_ok-triple.ensures

pub loop-self-preserved : goal.loop-self-preserved
loop-self-preserved c =
    line_idle _ _ c.first_line.result.0.now _ c.in_ok-triple.triple c.loop-self.invariant c.first_line.ensures.line c.in_ok-triple.ensures
    (sym c.is_some.ensures ∙ c.if-is_some.false)

pub returns-then-is_some-clause-stays : goal.returns-then-is_some-clause-stays
returns-then-is_some-clause-stays c =
    line_stays _ _ c.first_line.result.0.now _ c.in_ok-triple.triple c.loop-self.invariant c.first_line.ensures.line c.in_ok-triple.ensures
    (sym c.is_some.ensures ∙ c.if-is_some.true)

pub returns-clause-stays : goal.returns-clause-stays
returns-clause-stays c =
    let none : length c.loop-self.self-inside.rest.now ≡ 0 = grind (arith, nat_tests) in
    never_left c.args.self.now _ none c.loop-self.invariant
