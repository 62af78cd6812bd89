-- The names of the inherited properties (Metadata Vocabulary for Tabular Data, section 5.7).
use Rattle.std.specs.Prelude.{ℕ, List, [], ◌∷◌, codes}

abbrev pub inherited_names : List (List ℕ)
inherited_names =
    codes "aboutUrl" ∷ codes "propertyUrl" ∷ codes "valueUrl" ∷ codes "datatype" ∷ codes "default" ∷ codes "lang" ∷ codes "null"
    ∷ codes "ordered" ∷ codes "required" ∷ codes "separator" ∷ codes "textDirection" ∷ []
