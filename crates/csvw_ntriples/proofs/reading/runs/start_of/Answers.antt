-- The first character past the spaces and tabs.
use Rattle.std.proofs.Common.{ℕ, ◌≡◌, Some}
use Rattle.csvw_ntriples.specs.Reading.{dark}
use Rattle.csvw_ntriples.proofs.Runs.{dark_is, dark_not, dark_none}
use Rattle.csvw_ntriples.proofs.reading.runs.start_of.Goals as goal

pub returns-in_default : goal.returns-in_default
returns-in_default c =
    let r = c.after_blanks.ensures in
    let none : (d : ℕ) → dark c.args.text.now ≡ Some d → ⊥ = λ d. dark_none c.args.text.now r.0 c.after_blanks.result.now d r.1 c.in_default.ensures.cases in
    (none 60, none 95, none 34)

pub returns-then-first-eq60 : goal.returns-then-first-eq60
returns-then-first-eq60 c =
    let r = c.after_blanks.ensures in
    dark_is c.args.text.now r.0 c.after_blanks.result.now _ c.in-Some.first.now 60 r.1 c.in-Some.ensures.cases.0 c.if-first-eq60.true

pub returns-then-first-eq95 : goal.returns-then-first-eq95
returns-then-first-eq95 c =
    let r = c.after_blanks.ensures in
    dark_is c.args.text.now r.0 c.after_blanks.result.now _ c.in-Some.first.now 95 r.1 c.in-Some.ensures.cases.0 c.if-first-eq95.true

pub returns-then-first-eq34 : goal.returns-then-first-eq34
returns-then-first-eq34 c =
    let r = c.after_blanks.ensures in
    dark_is c.args.text.now r.0 c.after_blanks.result.now _ c.in-Some.first.now 34 r.1 c.in-Some.ensures.cases.0 c.if-first-eq34.true

pub returns-else-first-eq34 : goal.returns-else-first-eq34
returns-else-first-eq34 c =
    let r = c.after_blanks.ensures in
    let other : (d : ℕ) → (c.in-Some.first.now ≡ d → ⊥) → dark c.args.text.now ≡ Some d
    → ⊥ = λ d. dark_not c.args.text.now r.0 c.after_blanks.result.now _ c.in-Some.first.now d r.1 c.in-Some.ensures.cases.0 in
    (other 60 c.if-first-eq60.false, other 95 c.if-first-eq95.false, other 34 c.if-first-eq34.false)
