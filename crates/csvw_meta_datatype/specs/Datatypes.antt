-- The datatype that a value of a document describes, and its faults (Metadata Vocabulary for Tabular Data, section 5.11).
use Rattle.std.specs.Prelude.{ℕ, List, [], ◌++◌, Option, None, codes}
use Rattle.serde_json.specs.Data.{Data, null, boolean, number, string, array, object}
use Rattle.url.specs.Parts.{Parts}
use Rattle.csvw_fault.specs.declared.fault.Place.{Place}
use Rattle.csvw_datatype.specs.declared.simple.Simple.{Simple}
use Rattle.csvw_datatype.specs.declared.simple.Simple.TheVariants.{Text}
use Rattle.csvw_datatype.specs.Breaks.{no_facets}
use Rattle.csvw_meta_core.specs.Read.{Read, fine, ◌>>=◌, under, property, optional}
use Rattle.csvw_meta_core.specs.Kinds.{fixed}
use Rattle.csvw_meta_core.specs.Links.{id}
use Rattle.csvw_meta_datatype.specs.Facets.{facets}
use Rattle.csvw_meta_datatype.specs.Formats.{no_format, format}
use Rattle.csvw_meta_notes.specs.Unlisted.{unlisted}
use Rattle.csvw_meta_datatype.specs.declared.form.DatatypeFound.{DatatypeFound}
use Rattle.csvw_meta_datatype.specs.Base.{base}
use Rattle.csvw_meta_core.specs.declared.profile.Profile.{Profile}
use Rattle.csvw_meta_datatype.specs.Names.{datatype_names, simples_of}
use Rattle.csvw_meta_datatype.specs.Whichever.{whichever}

-- the datatype of a name
abbrev pub named : Simple → DatatypeFound
named simple = record { datatype = record { simple = simple; id = None; format = None; facets = no_facets }; warnings = [] }

-- The datatype of a type, with the format and the facets of an object.
unfoldable pub of_type : Profile → Option (List ℕ) → Place → List ℕ → Data → Simple → Read DatatypeFound
of_type profile id place at d simple = do
  found ← property (format profile simple place) no_format at d (codes "format")
  facets ← facets simple at d
  fine (record {
    datatype = record { simple = simple; id = id; format = found.format; facets = facets };
    warnings = found.warnings;
  })

-- If the type of an object can't be read, its format and facets have the faults that they have for every datatype of the profile.
abbrev pub based : Profile → Option (List ℕ) → Place → List ℕ → Data → Read DatatypeFound
based profile id place at d =
    whichever (simples_of profile) (named Text) (property (base profile) Text at d (codes "base")) (of_type profile id place at d)

-- the datatype that an object describes
unfoldable pub form : Profile → Parts → Place → List ℕ → Data → Read DatatypeFound
form profile against place at d = do
  iri ← optional (id against) at d (codes "@id")
  type ← optional (fixed (codes "Datatype")) at d (codes "@type")
  warnings ← unlisted against None (datatype_names ++ []) place at d
  found ← based profile iri place at d
  fine (record { datatype = found.datatype; warnings = found.warnings ++ warnings })

-- the datatype of a name or of an object
unfoldable pub datatype : Profile → Parts → Place → List ℕ → Data → Read DatatypeFound
datatype profile against place at (object ms) = form profile against place at (object ms)
datatype profile against place at null = under named (base profile at null)
datatype profile against place at (boolean b) = under named (base profile at (boolean b))
datatype profile against place at (number n) = under named (base profile at (number n))
datatype profile against place at (string s) = under named (base profile at (string s))
datatype profile against place at (array ds) = under named (base profile at (array ds))
