-- The characters of the IRIs of the built-in datatypes may be raw in an IRIREF.
use Rattle.std.proofs.Common.{◌≡◌, ◌∙◌, ℕ, List, ◌++◌, refl, ap}
use Rattle.std.specs.Prelude.{codes}
use Rattle.csvw_iri.specs.Safe.{safe}
use Rattle.csvw_datatype.specs.Names.{name_of, text_type_iri}
use Rattle.csvw_datatype_core.specs.declared.date_part.DatePart.TheVariants as parts
use Rattle.csvw_datatype.specs.declared.simple.Simple.{Simple}
use Rattle.csvw_datatype.specs.declared.simple.Simple.TheVariants as simples
use Rattle.csvw_datatype.specs.declared.simple.Floating.{Floating}
use Rattle.csvw_datatype.specs.declared.simple.Floating.TheVariants as floating
use Rattle.csvw_datatype_core.specs.declared.date_time.Zone.TheVariants as zones
use Rattle.csvw_binary.specs.declared.binary.BinaryForm.TheVariants as forms
use Rattle.csvw_duration.specs.declared.value.DurationKind.TheVariants as kinds
use Rattle.csvw_datatype.specs.declared.simple.TextType.{TextType}
use Rattle.csvw_datatype.specs.declared.simple.TextType.TheVariants as types
use Rattle.csvw_datatype.specs.declared.simple.Width.{Width}
use Rattle.csvw_datatype.specs.declared.simple.Width.TheVariants as widths
use Rattle.csvw_columns_core.specs.LiteralDatatype.{xsd_type}

raw_width : (w : Width) → safe (xsd_type (simples.Derived w)) ≡ xsd_type (simples.Derived w)
unfolding safe
raw_width widths.Long = refl
raw_width widths.Int = refl
raw_width widths.Short = refl
raw_width widths.Byte = refl
raw_width widths.UnsignedLong = refl
raw_width widths.UnsignedInt = refl
raw_width widths.UnsignedShort = refl
raw_width widths.UnsignedByte = refl
raw_width widths.NonNegativeInteger = refl
raw_width widths.PositiveInteger = refl
raw_width widths.NonPositiveInteger = refl
raw_width widths.NegativeInteger = refl

raw_text_type : (t : TextType) → safe (xsd_type (simples.Other t)) ≡ xsd_type (simples.Other t)
unfolding safe
raw_text_type types.Any = refl
raw_text_type types.Normalized = refl
raw_text_type types.Token = refl
raw_text_type types.Language = refl
raw_text_type types.Name = refl
raw_text_type types.NameToken = refl
raw_text_type types.QualifiedName = refl
raw_text_type types.Xml = refl
raw_text_type types.Html = refl
raw_text_type types.Json = refl
raw_text_type types.Time = refl
raw_text_type types.Date = refl
raw_text_type (types.DateTime zones.Optional) = refl
raw_text_type (types.DateTime zones.Required) = refl
raw_text_type (types.Part parts.Year) = refl
raw_text_type (types.Part parts.YearMonth) = refl
raw_text_type (types.Part parts.Month) = refl
raw_text_type (types.Part parts.MonthDay) = refl
raw_text_type (types.Part parts.Day) = refl
raw_text_type (types.Binary forms.Hex) = refl
raw_text_type (types.Binary forms.Base64) = refl
raw_text_type (types.Duration kinds.Any) = refl
raw_text_type (types.Duration kinds.YearMonth) = refl
raw_text_type (types.Duration kinds.DayTime) = refl

raw_floating : (t : Floating) → safe (xsd_type (simples.Floating t)) ≡ xsd_type (simples.Floating t)
unfolding safe
raw_floating floating.Double = refl
raw_floating floating.Float = refl

raw_type : (s : Simple) → safe (xsd_type s) ≡ xsd_type s
unfolding safe
raw_type simples.Text = refl
raw_type simples.Truth = refl
raw_type simples.Whole = refl
raw_type simples.Decimal = refl
raw_type simples.Day = refl
raw_type simples.Uri = refl
raw_type (simples.Derived w) = raw_width w
raw_type simples.Moment = refl
raw_type (simples.Other t) = raw_text_type t
raw_type (simples.Floating t) = raw_floating t

pub raw_iri : (t : TextType) → safe (text_type_iri t) ≡ text_type_iri t
unfolding safe
raw_iri types.Any = refl
raw_iri types.Normalized = refl
raw_iri types.Token = refl
raw_iri types.Language = refl
raw_iri types.Name = refl
raw_iri types.NameToken = refl
raw_iri types.QualifiedName = refl
raw_iri types.Xml = refl
raw_iri types.Html = refl
raw_iri types.Json = refl
raw_iri types.Time = refl
raw_iri types.Date = refl
raw_iri (types.DateTime zones.Optional) = refl
raw_iri (types.DateTime zones.Required) = refl
raw_iri (types.Part parts.Year) = refl
raw_iri (types.Part parts.YearMonth) = refl
raw_iri (types.Part parts.Month) = refl
raw_iri (types.Part parts.MonthDay) = refl
raw_iri (types.Part parts.Day) = refl
raw_iri (types.Binary forms.Hex) = refl
raw_iri (types.Binary forms.Base64) = refl
raw_iri (types.Duration kinds.Any) = refl
raw_iri (types.Duration kinds.YearMonth) = refl
raw_iri (types.Duration kinds.DayTime) = refl

pub safe_type : (s : Simple) (text joined head name : List ℕ) → text ≡ joined → joined ≡ head ++ name
    → head ≡ codes "http://www.w3.org/2001/XMLSchema#" → name ≡ name_of s
    → safe text ≡ xsd_type s
safe_type s text joined head name e f g h =
    ap safe (e ∙ f ∙ ap (λ t. t ++ name) g ∙ ap (λ t. codes "http://www.w3.org/2001/XMLSchema#" ++ t) h) ∙ raw_type s
