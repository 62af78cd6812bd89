-- Past spaces and tabs, nothing or a comment.
use Rattle.std.proofs.Common.{refl}
use Rattle.std.proofs.lemmas.Bool.Decides.{Decides-eqb}
use Rattle.csvw_ntriples.proofs.Begun.{idle_none, idle_if, idle_only}
use Rattle.csvw_ntriples.proofs.reading.terminal.is_idle.Goals as goal

pub returns-in-None : goal.returns-in-None
returns-in-None c =
    let r = c.after_blanks.ensures in
    (λ _. idle_none c.args.text.now r.0 c.after_blanks.result.now r.1 c.in-None.ensures.cases, λ _. refl)

pub returns-in-Some : goal.returns-in-Some
returns-in-Some c =
    let r = c.after_blanks.ensures in
    let d = Decides-eqb c.in-Some.first.now 35 in (
      λ h. idle_if c.args.text.now r.0 c.after_blanks.result.now c.in-Some.field-0-1.now c.in-Some.first.now r.1 c.in-Some.ensures.cases.0 (d.0 h),
      λ i. d.1 (idle_only c.args.text.now r.0 c.after_blanks.result.now c.in-Some.field-0-1.now c.in-Some.first.now r.1 c.in-Some.ensures.cases.0 i),
    )
