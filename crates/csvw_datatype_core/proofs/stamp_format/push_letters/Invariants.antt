-- The text, with the letters that are left, is the whole one.
use Rattle.std.proofs.Common.{◌≡◌, ◌++◌, string_bytes}
use Rattle.csvw_datatype_core.specs.StampFormats.{letter_byte, letters}
use Rattle.csvw_datatype_core.proofs.stamp_format.push_letters.Given as goal

abbrev pub invariant-loop-left : goal.invariant-loop-left
invariant-loop-left l = string_bytes l.text ++ letters (letter_byte l.letter) l.left ≡ string_bytes l.initial.text ++ letters (letter_byte l.letter) l.count

abbrev pub decreases-loop-left : goal.decreases-loop-left
decreases-loop-left l = l.left
