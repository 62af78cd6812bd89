-- The facets of a datatype of a document, and their faults: `facets` (Metadata Vocabulary for Tabular Data, section 5.11.2).
use Rattle.std.specs.Prelude.{ℕ, List, if◌then◌else◌}
use Rattle.serde_json.specs.Data.{Data}
use Rattle.csvw_datatype.specs.declared.simple.Simple.{Simple}
use Rattle.csvw_datatype.specs.declared.datatype.Facets.{Facets}
use Rattle.csvw_datatype.specs.Breaks.{no_facets}
use Rattle.csvw_datatype.specs.Sound.{agree}
use Rattle.csvw_meta_core.specs.declared.fault.MetaCode.TheVariants.{BadDatatype}
use Rattle.csvw_meta_core.specs.Read.{Read, fine, faulty, ◌>>=◌}
use Rattle.csvw_meta_datatype.specs.declared.bounds.Bounds.{Bounds}
use Rattle.csvw_meta_datatype.specs.declared.lengths.Lengths.{Lengths}
use Rattle.csvw_meta_datatype.specs.Bounds.{bounds}
use Rattle.csvw_meta_datatype.specs.Lengths.{lengths}

abbrev pub together : Lengths → Bounds → Facets
together l b = record {
  length = l.length;
  min_length = l.min_length;
  max_length = l.max_length;
  minimum = b.minimum;
  min_inclusive = b.min_inclusive;
  min_exclusive = b.min_exclusive;
  maximum = b.maximum;
  max_inclusive = b.max_inclusive;
  max_exclusive = b.max_exclusive;
}

-- each facet by itself
unfoldable pub each_facet : Simple → List ℕ → Data → Read Facets
each_facet s at d = do
  lengths ← lengths s at d
  bounds ← bounds s at d
  fine (together lengths bounds)

-- Facets of a type agree if none excludes what another requires. A facet that can't be read counts as missing and requires nothing.
abbrev pub facets : Simple → List ℕ → Data → Read Facets
facets s at d = each_facet s at d >>= (λ f. if agree s f then fine f else faulty BadDatatype at no_facets)
