-- Facets that fit a type and each other (Metadata Vocabulary for Tabular Data, section 5.11.2).
use Rattle.std.specs.Prelude.{◌≡◌, true}
use Rattle.csvw_datatype.specs.declared.simple.Simple.{Simple}
use Rattle.csvw_datatype.specs.declared.datatype.Facets.{Facets}
use Rattle.csvw_datatype.specs.Sound.{AreBoundsOf, lengths_apply, lengths_agree, bounds_agree}

pub record FacetsFit (s : Simple) (f : Facets) : Type 0 where
  pub bounds : AreBoundsOf s f
  pub lengths_apply : lengths_apply s f ≡ true
  pub lengths_agree : lengths_agree f ≡ true
  pub bounds_agree : bounds_agree s f ≡ true
