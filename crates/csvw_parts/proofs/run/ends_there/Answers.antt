-- A row ends there, in the numbers of the next piece.
use Rattle.std.proofs.Common.{◌≡◌, ℕ, true, subst}
use Rattle.std.specs.Prelude.{nat_eq}
use Rattle.std.proofs.lemmas.Bool.{eqb-true}
use Rattle.csvw_parts.specs.Parts.{EndsAtRow, HasNoRow}
use Rattle.csvw_parts.proofs.run.ends_there.Goals as goal

-- what holds of two numbers holds of those that equal them
with_equals : (P : ℕ → ℕ → Type 0) (a b c d : ℕ) → a ≡ c → nat_eq b d ≡ true → P a b → P c d
with_equals P a b c d first second p = subst (λ n. P n d) first (subst (P a) (eqb-true b d second) p)

pub returns-then-here-next-clause-ends : goal.returns-then-here-next-clause-ends
returns-then-here-next-clause-ends c = λ e.
    let here = c.in-Some.here in
    let next = c.args.next.now in
    with_equals (EndsAtRow c.args.part.now) here.rows here.data_rows next.rows_before next.data_rows_before c.if-here-next.true e c.in-Some.ensures.ends

pub returns-then-here-next-clause-none : goal.returns-then-here-next-clause-none
returns-then-here-next-clause-none c = λ e.
    let here = c.in-Some.here in
    let next = c.args.next.now in
    with_equals (HasNoRow c.args.part.now) here.rows here.data_rows next.rows_before next.data_rows_before c.if-here-next.true e c.in-Some.ensures.none
