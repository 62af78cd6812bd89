-- IRIs of the CSVW namespace that annotations name (CSVW Namespace Vocabulary Terms).
use Rattle.std.specs.Prelude.{ℕ, List, codes}

abbrev pub csvw_note : List ℕ
csvw_note = codes "http://www.w3.org/ns/csvw#note"
