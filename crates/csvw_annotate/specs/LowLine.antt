-- Names that begin with `_`: each cell has variables of such names, and no column declares one (Metadata Vocabulary for Tabular
-- Data, section 5.6).
use Rattle.std.specs.Prelude.{ℕ, ◌==◌, List, [], ◌∷◌, Bool, false}

abbrev pub begins_with_low_line : List ℕ → Bool
begins_with_low_line [] = false
begins_with_low_line (b ∷ bs) = b == 95
