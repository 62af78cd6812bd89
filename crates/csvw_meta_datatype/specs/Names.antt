-- The names of built-in datatypes, and the properties that are listed for a datatype (Metadata Vocabulary for Tabular Data, sections
-- 5.11.1 and 5.11.2).
use Rattle.std.specs.Prelude.{ℕ, List, [], ◌∷◌, Bool, true, false, codes, bytes_eq, filter, map, if◌then◌else◌, Option, Some, None}
use Rattle.csvw_datatype_core.specs.declared.date_part.DatePart.TheVariants.{Year, YearMonth, Month, MonthDay, Day as DayOfMonth}
use Rattle.csvw_datatype_core.specs.declared.date_time.Zone.TheVariants.{Optional, Required}
use Rattle.csvw_binary.specs.declared.binary.BinaryForm.TheVariants.{Hex, Base64}
use Rattle.csvw_duration.specs.declared.value.DurationKind.TheVariants.{Any as AnyDuration, YearMonth as YearMonthDuration, DayTime}
use Rattle.csvw_datatype.specs.declared.simple.Simple.{Simple}
use Rattle.csvw_datatype.specs.declared.simple.Simple.TheVariants.{Text, Truth, Whole, Decimal, Day, Uri, Derived, Moment, Other, Floating}
use Rattle.csvw_datatype.specs.declared.simple.Floating.TheVariants.{Double, Float}
use Rattle.csvw_datatype.specs.declared.simple.TextType.TheVariants.{Any, Normalized, Token, Language, Name, NameToken, QualifiedName, Xml, Html, Json}
use Rattle.csvw_datatype.specs.declared.simple.TextType.TheVariants.{Time, Date, DateTime, Part, Binary, Duration}
use Rattle.csvw_datatype.specs.declared.simple.Width.TheVariants.{Long, Int, Short, Byte, UnsignedLong, UnsignedInt, UnsignedShort, UnsignedByte}
use Rattle.csvw_datatype.specs.declared.simple.Width.TheVariants.{NonNegativeInteger, PositiveInteger, NonPositiveInteger, NegativeInteger}
use Rattle.csvw_datatype.specs.Names.{name_of}
use Rattle.csvw_meta_core.specs.declared.profile.Profile.{Profile}
use Rattle.csvw_meta_core.specs.declared.profile.Profile.TheVariants.{Core, W3c}

-- the built-in datatypes of all profiles
abbrev pub all_simples : List Simple
all_simples =
    Text ∷ Truth ∷ Whole ∷ Decimal ∷ Day ∷ Uri ∷ Moment ∷ Derived Long ∷ Derived Int ∷ Derived Short ∷ Derived Byte ∷ Derived UnsignedLong
    ∷ Derived UnsignedInt ∷ Derived UnsignedShort ∷ Derived UnsignedByte ∷ Derived NonNegativeInteger ∷ Derived PositiveInteger
    ∷ Derived NonPositiveInteger ∷ Derived NegativeInteger ∷ Other Any ∷ Other Token ∷ Other Xml ∷ Other Html ∷ Other Json
    ∷ Floating Double ∷ Floating Float ∷ Other Language ∷ Other Name ∷ Other NameToken ∷ Other Time ∷ Other (Part Year) ∷ Other (Part YearMonth)
    ∷ Other (Part Month) ∷ Other (Part MonthDay) ∷ Other (Part DayOfMonth) ∷ Other (DateTime Required)
    ∷ Other Normalized ∷ Other QualifiedName ∷ Other (Binary Hex) ∷ Other (Binary Base64) ∷ Other (Duration AnyDuration)
    ∷ Other (Duration YearMonthDuration) ∷ Other (Duration DayTime) ∷ []

-- the first of them that has the name
abbrev pub named_in : List Simple → List ℕ → Option Simple
named_in [] name = None
named_in (s ∷ ss) name = if bytes_eq name (name_of s) then Some s else named_in ss name

-- `datetime` is another name of `dateTime`, `any` of `anyAtomicType`, `number` of `double`, and `binary` of `base64Binary`
abbrev pub type_named : List ℕ → Option Simple
type_named name =
    if bytes_eq name (codes "datetime") then Some Moment
    else (if bytes_eq name (codes "any") then Some (Other Any)
    else (if bytes_eq name (codes "number") then Some (Floating Double)
    else (if bytes_eq name (codes "binary") then Some (Other (Binary Base64))
    else named_in all_simples name)))

-- a document in the profile may use the type
abbrev pub is_in : Profile → Simple → Bool
is_in Core (Other t) = false
is_in Core (Floating t) = false
is_in profile s = true

-- in the profile w3c a date may have a zone, and a dateTime a zone and parts of a second
abbrev pub with_zones : Profile → Simple → Simple
with_zones W3c Day = Other Date
with_zones W3c Moment = Other (DateTime Optional)
with_zones profile s = s

-- the built-in datatypes of a profile
abbrev pub simples_of : Profile → List Simple
simples_of profile = map (with_zones profile) (filter (is_in profile) all_simples)

abbrev pub kept_in : Profile → Option Simple → Option Simple
kept_in profile None = None
kept_in profile (Some s) = if is_in profile s then Some (with_zones profile s) else None

-- the type of a name that a document in the profile may use
abbrev pub named_of : Profile → List ℕ → Option Simple
named_of profile name = kept_in profile (type_named name)

abbrev pub datatype_names : List (List ℕ)
datatype_names =
    codes "@id" ∷ codes "@type" ∷ codes "base" ∷ codes "format" ∷ codes "length" ∷ codes "minLength" ∷ codes "maxLength" ∷ codes "minimum"
    ∷ codes "minInclusive" ∷ codes "minExclusive" ∷ codes "maximum" ∷ codes "maxInclusive" ∷ codes "maxExclusive" ∷ []
