-- The bytes of the text are the text, with a `T`; with a space the value is that of the parts.
use Rattle.std.proofs.Common.{List, ℕ, ℤ, Option, MatchOption, subst, sym}
use Rattle.csvw_datatype_core.specs.declared.moment.MomentFormat.TheVariants.{Seconds}
use Rattle.csvw_datatype_core.specs.JoinedMoments.{ReadsJoined}
use Rattle.csvw_datatype_core.specs.Moments.{ReadsSpaced}
use Rattle.csvw_datatype_core.proofs.SpacedLemmas.{spaced_given}
use Rattle.csvw_datatype_core.proofs.moment.read_moment.Goals as goal

pub returns-in-Seconds : goal.returns-in-Seconds
returns-in-Seconds c =
    let P : List ℕ → Type 0 =
    λ t. MatchOption c.moment_at.result ((moment : ℤ) → ReadsJoined Seconds t moment → ⊥) (ReadsJoined Seconds t) in
    rw c.in-Seconds.is (subst P c.as_bytes.ensures.value c.moment_at.ensures)

pub returns-in-Spaced : goal.returns-in-Spaced
returns-in-Spaced c =
    let date = c.in-Spaced.date in
    let time = c.in-Spaced.time in
    let text = c.args.text.now in
    let P : Option ℤ → Type 0 = λ o. MatchOption o ((moment : ℤ) → ReadsSpaced date time text moment → ⊥) (ReadsSpaced date time text) in
    rw c.in-Spaced.is (subst P (sym c.read_spaced.ensures) (spaced_given date time text))
