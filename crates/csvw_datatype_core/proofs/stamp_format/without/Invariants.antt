-- The letters so far are at the end of the text.
use Rattle.std.proofs.Common.{◌≡◌, length}
use denote.Text.{Utf8}
use denote.Shadow.{shadow}
use Rattle.csvw_datatype_core.specs.StampFormats.{letter_byte, without}
use Rattle.csvw_datatype_core.proofs.stamp_format.without.Given as goal

abbrev pub invariant-loop-front : goal.invariant-loop-front
invariant-loop-front l = shadow (Utf8 l.kept) × (without (letter_byte l.letter) l.kept ≡ without (letter_byte l.letter) l.text)

abbrev pub decreases-loop-front : goal.decreases-loop-front
decreases-loop-front l = length l.kept
