-- The built-in datatype that a text names (Metadata Vocabulary for Tabular Data, section 5.11.1).
use Rattle.std.specs.Prelude.{ℕ, List, Option, Some, None}
use Rattle.serde_json.specs.Data.{Data}
use Rattle.serde_json.specs.Find.{as_str}
use Rattle.csvw_datatype.specs.declared.simple.Simple.{Simple}
use Rattle.csvw_datatype.specs.declared.simple.Simple.TheVariants.{Text}
use Rattle.csvw_meta_core.specs.declared.fault.MetaCode.TheVariants.{NotSupported}
use Rattle.csvw_meta_core.specs.Read.{Read, fine, faulty, on_kind}
use Rattle.csvw_meta_core.specs.declared.profile.Profile.{Profile}
use Rattle.csvw_meta_datatype.specs.Names.{named_of}

abbrev pub simple_found : List ℕ → Option Simple → Read Simple
simple_found at None = faulty NotSupported at Text
simple_found at (Some s) = fine s

-- the name of a built-in datatype; a name that the profile doesn't have is not supported
abbrev pub base : Profile → List ℕ → Data → Read Simple
base profile at d = on_kind at d Text (as_str d) (λ s. simple_found at (named_of profile s))
