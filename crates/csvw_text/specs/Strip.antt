-- Texts without the white space at their start and end, as lists of characters (Model for Tabular Data, section 6.4).
use Rattle.std.specs.Prelude.{ℕ, List, [], ◌∷◌, reverse, if◌then◌else◌}
use Rattle.csvw_text.specs.Class.{is_white_char}

abbrev pub strip_start : List ℕ → List ℕ
strip_start [] = []
strip_start (c ∷ cs) = if is_white_char c then strip_start cs else c ∷ cs

abbrev pub strip_end : List ℕ → List ℕ
strip_end text = reverse (strip_start (reverse text))
