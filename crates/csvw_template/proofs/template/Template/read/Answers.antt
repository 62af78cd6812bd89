-- The parts are those of the pieces.
use Rattle.std.proofs.Common.{◌≡◌, ℕ, List, Ok, false, sym, ◌∙◌}
use Rattle.std.specs.List.{slice_split}
use Rattle.std.proofs.lemmas.Bool.{cond-false}
use Rattle.csvw_template.specs.declared.part.Part.{Part}
use Rattle.csvw_template.specs.Grammar.{is_open}
use Rattle.csvw_template.specs.Reading.{is_past, of_pieces, template}
use Rattle.csvw_template.proofs.template.Template.read.Goals as goal

read_whole : (text : List ℕ) (parts : List Part) → is_past text ≡ false → of_pieces (slice_split is_open text) ≡ Ok parts → template text ≡ Ok parts
unfolding template
read_whole text parts within read = cond-false _ _ _ within ∙ read

pub returns-clause-value : goal.returns-clause-value
returns-clause-value c =
    let read = rw (c.as_slice.ensures.value, c.in_ok-pieces.ensures, ← c.of.ensures) at c.in_ok-parts.ensures in
    read_whole c.args.text.now c.of.result (sym c.is_past.ensures ∙ c.if-is_past.false) read
