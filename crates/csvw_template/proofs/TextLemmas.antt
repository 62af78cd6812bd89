-- A template's parts spell the text that it was read from, so templates of equal parts were read from one text.
use Rattle.std.proofs.Common.{◌≡◌, ℕ, List, [], Ok, Err, ap, sym, ◌∙◌}
use Rattle.csvw_template.specs.declared.part.Part.{Part}
use Rattle.csvw_template.specs.Grammar.{spelling}
use Rattle.csvw_template.specs.Reading.{Parts, template}
use Rattle.csvw_template.proofs.ReadingLemmas.{reading}

spelled : (text : List ℕ) (parts : List Part) → template text ≡ Ok parts → text ≡ spelling parts
spelled text parts is =
    let (within, (are_parts, spells)) = ((reading text).is_template parts).0 is in
    spells

pub one_text : (a b : List ℕ) (p q : List Part) → template a ≡ Ok p → template b ≡ Ok q → p ≡ q → a ≡ b
one_text a b p q of_a of_b same = spelled a p of_a ∙ ap spelling same ∙ sym (spelled b q of_b)

abbrev parts_of : Parts → List Part
parts_of (Ok parts) = parts
parts_of (Err fault) = []

pub one_reading : (a b : List ℕ) (p q : List Part) → template a ≡ Ok p → template b ≡ Ok q → a ≡ b → p ≡ q
one_reading a b p q of_a of_b same = ap parts_of (sym of_a ∙ ap template same ∙ of_b)
