-- Links that are a constant text and one percent-encoded value after it (RFC 6570, section 3.2.2).
use Rattle.std.specs.Prelude.{◌≡◌, ℕ, List, [], ◌∷◌, codes}
use Rattle.csvw_template.specs.declared.bound.Binding.TheVariants.{At}
use Rattle.csvw_template.specs.declared.bound.BoundPart.{BoundPart}
use Rattle.csvw_template.specs.declared.bound.BoundPart.TheVariants.{Written, Values}
use Rattle.csvw_template.specs.declared.part.Operator.TheVariants.{Simple}
use Rattle.csvw_annotate.specs.declared.simple.SimpleFront.{SimpleFront}
use Rattle.csvw_annotate.specs.declared.simple.SimpleFront.TheVariants.{Hash, Url}

-- the text of the front
abbrev pub front_text : SimpleFront → List ℕ
front_text Hash = codes "#"
front_text (Url text) = text

-- the parts are the front and the value at this place
abbrev pub IsSimple : List BoundPart → SimpleFront → ℕ → Type 0
IsSimple parts front place = parts ≡ Written (front_text front) ∷ Values Simple (At place ∷ []) ∷ []
