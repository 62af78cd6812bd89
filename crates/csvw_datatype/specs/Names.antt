-- The names of datatypes (Metadata Vocabulary for Tabular Data, section 5.11.1).
use Rattle.std.specs.Prelude.{◌≡◌, ◌⊎◌, ℕ, List, codes}
use Rattle.csvw_datatype.specs.declared.simple.Simple.{Simple}
use Rattle.csvw_datatype.specs.declared.simple.Simple.TheVariants.{Text, Truth, Whole, Decimal, Day, Uri, Derived, Moment, Other, Floating}
use Rattle.csvw_datatype.specs.declared.simple.Floating.{Floating as FloatingType}
use Rattle.csvw_datatype.specs.declared.simple.Floating.TheVariants.{Double, Float}
use Rattle.csvw_datatype.specs.declared.simple.TextType.{TextType}
use Rattle.csvw_datatype.specs.declared.simple.TextType.TheVariants.{Any, Normalized, Token, Language, Name, NameToken, QualifiedName, Xml, Html, Json}
use Rattle.csvw_datatype.specs.declared.simple.TextType.TheVariants.{Time, Date, DateTime, Part, Binary, Duration}
use Rattle.csvw_datatype_core.specs.declared.date_part.DatePart.{DatePart}
use Rattle.csvw_datatype_core.specs.declared.date_part.DatePart.TheVariants as parts
use Rattle.csvw_datatype_core.specs.declared.date_time.Zone.{Zone}
use Rattle.csvw_datatype_core.specs.declared.date_time.Zone.TheVariants as zones
use Rattle.csvw_binary.specs.declared.binary.BinaryForm.{BinaryForm}
use Rattle.csvw_binary.specs.declared.binary.BinaryForm.TheVariants as forms
use Rattle.csvw_duration.specs.declared.value.DurationKind.{DurationKind}
use Rattle.csvw_duration.specs.declared.value.DurationKind.TheVariants as kinds
use Rattle.csvw_datatype.specs.declared.simple.Width.{Width}
use Rattle.csvw_datatype.specs.declared.simple.Width.TheVariants.{Long, Int, Short, Byte, UnsignedLong, UnsignedInt, UnsignedShort, UnsignedByte}
use Rattle.csvw_datatype.specs.declared.simple.Width.TheVariants.{NonNegativeInteger, PositiveInteger, NonPositiveInteger, NegativeInteger}

abbrev pub width_name : Width → List ℕ
width_name Long = codes "long"
width_name Int = codes "int"
width_name Short = codes "short"
width_name Byte = codes "byte"
width_name UnsignedLong = codes "unsignedLong"
width_name UnsignedInt = codes "unsignedInt"
width_name UnsignedShort = codes "unsignedShort"
width_name UnsignedByte = codes "unsignedByte"
width_name NonNegativeInteger = codes "nonNegativeInteger"
width_name PositiveInteger = codes "positiveInteger"
width_name NonPositiveInteger = codes "nonPositiveInteger"
width_name NegativeInteger = codes "negativeInteger"

abbrev pub floating_name : FloatingType → List ℕ
floating_name Double = codes "double"
floating_name Float = codes "float"

-- the type has this name, or its other name
abbrev pub IsFloatingNamed : List ℕ → FloatingType → Type 0
IsFloatingNamed name Double = (name ≡ codes "double") ⊎ (name ≡ codes "number")
IsFloatingNamed name Float = name ≡ codes "float"

abbrev pub part_name : DatePart → List ℕ
part_name parts.Year = codes "gYear"
part_name parts.YearMonth = codes "gYearMonth"
part_name parts.Month = codes "gMonth"
part_name parts.MonthDay = codes "gMonthDay"
part_name parts.Day = codes "gDay"

abbrev pub date_time_name : Zone → List ℕ
date_time_name zones.Optional = codes "dateTime"
date_time_name zones.Required = codes "dateTimeStamp"

abbrev pub binary_name : BinaryForm → List ℕ
binary_name forms.Hex = codes "hexBinary"
binary_name forms.Base64 = codes "base64Binary"

-- the form has this name, or its other name
abbrev pub IsBinaryNamed : List ℕ → BinaryForm → Type 0
IsBinaryNamed name forms.Hex = name ≡ codes "hexBinary"
IsBinaryNamed name forms.Base64 = (name ≡ codes "base64Binary") ⊎ (name ≡ codes "binary")

abbrev pub duration_name : DurationKind → List ℕ
duration_name kinds.Any = codes "duration"
duration_name kinds.YearMonth = codes "yearMonthDuration"
duration_name kinds.DayTime = codes "dayTimeDuration"

abbrev pub text_type_name : TextType → List ℕ
text_type_name Any = codes "anyAtomicType"
text_type_name Normalized = codes "normalizedString"
text_type_name Token = codes "token"
text_type_name Language = codes "language"
text_type_name Name = codes "Name"
text_type_name NameToken = codes "NMTOKEN"
text_type_name QualifiedName = codes "QName"
text_type_name Xml = codes "xml"
text_type_name Html = codes "html"
text_type_name Json = codes "json"
text_type_name Time = codes "time"
text_type_name Date = codes "date"
text_type_name (DateTime zone) = date_time_name zone
text_type_name (Part part) = part_name part
text_type_name (Binary form) = binary_name form
text_type_name (Duration kind) = duration_name kind

-- The type has this name, or its other name. The types that `date` and `dateTime` name have no zones.
abbrev pub IsTextTypeNamed : List ℕ → TextType → Type 0
IsTextTypeNamed name Date = ⊥
IsTextTypeNamed name (DateTime zones.Optional) = ⊥
IsTextTypeNamed name Any = (name ≡ codes "anyAtomicType") ⊎ (name ≡ codes "any")
IsTextTypeNamed name (Binary form) = IsBinaryNamed name form
IsTextTypeNamed name t = name ≡ text_type_name t

-- xml, html and json have IRIs of their own
abbrev pub part_iri : DatePart → List ℕ
part_iri parts.Year = codes "http://www.w3.org/2001/XMLSchema#gYear"
part_iri parts.YearMonth = codes "http://www.w3.org/2001/XMLSchema#gYearMonth"
part_iri parts.Month = codes "http://www.w3.org/2001/XMLSchema#gMonth"
part_iri parts.MonthDay = codes "http://www.w3.org/2001/XMLSchema#gMonthDay"
part_iri parts.Day = codes "http://www.w3.org/2001/XMLSchema#gDay"

abbrev pub date_time_iri : Zone → List ℕ
date_time_iri zones.Optional = codes "http://www.w3.org/2001/XMLSchema#dateTime"
date_time_iri zones.Required = codes "http://www.w3.org/2001/XMLSchema#dateTimeStamp"

abbrev pub binary_iri : BinaryForm → List ℕ
binary_iri forms.Hex = codes "http://www.w3.org/2001/XMLSchema#hexBinary"
binary_iri forms.Base64 = codes "http://www.w3.org/2001/XMLSchema#base64Binary"

abbrev pub duration_iri : DurationKind → List ℕ
duration_iri kinds.Any = codes "http://www.w3.org/2001/XMLSchema#duration"
duration_iri kinds.YearMonth = codes "http://www.w3.org/2001/XMLSchema#yearMonthDuration"
duration_iri kinds.DayTime = codes "http://www.w3.org/2001/XMLSchema#dayTimeDuration"

abbrev pub text_type_iri : TextType → List ℕ
text_type_iri Any = codes "http://www.w3.org/2001/XMLSchema#anyAtomicType"
text_type_iri Normalized = codes "http://www.w3.org/2001/XMLSchema#normalizedString"
text_type_iri Token = codes "http://www.w3.org/2001/XMLSchema#token"
text_type_iri Language = codes "http://www.w3.org/2001/XMLSchema#language"
text_type_iri Name = codes "http://www.w3.org/2001/XMLSchema#Name"
text_type_iri NameToken = codes "http://www.w3.org/2001/XMLSchema#NMTOKEN"
text_type_iri QualifiedName = codes "http://www.w3.org/2001/XMLSchema#QName"
text_type_iri Xml = codes "http://www.w3.org/1999/02/22-rdf-syntax-ns#XMLLiteral"
text_type_iri Html = codes "http://www.w3.org/1999/02/22-rdf-syntax-ns#HTML"
text_type_iri Json = codes "http://www.w3.org/ns/csvw#JSON"
text_type_iri Time = codes "http://www.w3.org/2001/XMLSchema#time"
text_type_iri Date = codes "http://www.w3.org/2001/XMLSchema#date"
text_type_iri (DateTime zone) = date_time_iri zone
text_type_iri (Part part) = part_iri part
text_type_iri (Binary form) = binary_iri form
text_type_iri (Duration kind) = duration_iri kind

abbrev pub name_of : Simple → List ℕ
name_of Text = codes "string"
name_of Truth = codes "boolean"
name_of Whole = codes "integer"
name_of Decimal = codes "decimal"
name_of Day = codes "date"
name_of Uri = codes "anyURI"
name_of (Derived w) = width_name w
name_of Moment = codes "dateTime"
name_of (Other t) = text_type_name t
name_of (Floating t) = floating_name t

-- the type has this name, or its other name
abbrev pub IsNamed : List ℕ → Simple → Type 0
IsNamed name Moment = (name ≡ codes "dateTime") ⊎ (name ≡ codes "datetime")
IsNamed name (Other t) = IsTextTypeNamed name t
IsNamed name (Floating t) = IsFloatingNamed name t
IsNamed name s = name ≡ name_of s

-- no type of octets, of durations or of parts of dates has this name
pub record IsOfNoFamily (name : List ℕ) : Type 0 where
  pub binary : (form : BinaryForm) → ¬ IsBinaryNamed name form
  pub duration : (kind : DurationKind) → ¬ (name ≡ duration_name kind)
  pub part : (part : DatePart) → ¬ (name ≡ part_name part)

-- no type that is derived from others, has exponents or is a text has this name
pub record IsNoneNamed (name : List ℕ) : Type 0 where
  pub width : (w : Width) → ¬ (name ≡ width_name w)
  pub floating : (t : FloatingType) → ¬ IsFloatingNamed name t
  pub text_type : (t : TextType) → ¬ IsTextTypeNamed name t
