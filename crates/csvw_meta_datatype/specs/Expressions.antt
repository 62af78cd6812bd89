-- Regular expressions as formats (Model for Tabular Data, section 6.4.6).
use Rattle.std.specs.Prelude.{ℕ, List, Option, Some, None, if◌then◌else◌}
use Rattle.serde_json.specs.Data.{Data}
use Rattle.serde_json.specs.Find.{as_str}
use Rattle.csvw_regex.specs.Expressions.{is_expression}
use Rattle.csvw_meta_core.specs.declared.fault.MetaCode.TheVariants.{BadDatatype, NotSupported}
use Rattle.csvw_meta_core.specs.declared.profile.Profile.{Profile}
use Rattle.csvw_meta_core.specs.declared.profile.Profile.TheVariants.{Core, W3c}
use Rattle.csvw_meta_core.specs.Read.{Read, fine, faulty, on_kind}

-- a text, if it is an expression
abbrev pub expression_of : List ℕ → List ℕ → Read (Option (List ℕ))
expression_of at s = if is_expression s then fine (Some s) else faulty BadDatatype at None

-- the text of an expression; in the profile core no expression is supported
abbrev pub text_expression : Profile → List ℕ → Data → Read (Option (List ℕ))
text_expression Core at d = faulty NotSupported at None
text_expression W3c at d = on_kind at d None (as_str d) (expression_of at)
