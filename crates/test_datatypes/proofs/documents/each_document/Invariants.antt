-- The document and the lines after it stay texts. The check proves it of a value that a loop changes only if it is told to.
use denote.Text.{Utf8}
use denote.Shadow.{shadow}
use Rattle.test_datatypes.proofs.documents.each_document.Given as goal

abbrev pub invariant-loop-line : goal.invariant-loop-line
invariant-loop-line g l =
    (goal.iterator-loop-line g).can_next l.line-iterator ×
    (goal.iterator-loop-line g).is_finite l.line-iterator ×
    (shadow (Utf8 l.document) × shadow (Utf8 l.after))
