use Rattle.std.proofs.Common.{ℕ, Option, MatchOption, sym, ap, ◌∙◌, subst, length}
use Rattle.csvw_datatype.specs.Characters.{IsCharacter}
use Rattle.csvw_datatype.proofs.CharacterLemmas.{no_character, a_character, two_characters}
use Rattle.csvw_datatype.proofs.format.one_character.Goals as goal

pub returns-in_err-first : goal.returns-in_err-first
returns-in_err-first c =
    let P : Option ℕ → Type 0 = λ o. MatchOption o ((x : ℕ) → IsCharacter c.args.text.now x → ⊥) (IsCharacter c.args.text.now) in
    subst P (sym c.from_residual.ensures) (no_character c.args.text.now (ap length (sym c.chars-characters.ensures.rest) ∙ c.in_err-first.ensures.steps.0.0))

pub returns-in-None : goal.returns-in-None
returns-in-None c =
    a_character c.args.text.now c.next.new.self.rest.now c.in_ok-first.first c.utf8.text
    (sym c.chars-characters.ensures.rest ∙ c.in_ok-first.ensures.steps.0) c.in-None.ensures.steps.0.0

pub returns-in-Some : goal.returns-in-Some
returns-in-Some c =
    two_characters c.args.text.now c.next.new.self.rest.now c.in_ok-first.first c.in-Some.field-0 c.utf8.text
    (sym c.chars-characters.ensures.rest ∙ c.in_ok-first.ensures.steps.0) c.in-Some.ensures.steps.2
