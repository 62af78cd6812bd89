-- The type of a name, by its other form.
use Rattle.std.proofs.Common.{◌≡◌, MatchOption, inl, inr, ℕ, List, [], ◌∷◌, Option, Some, None, Bool, true, false, refl, bytes_eq, codes, sym}
use Rattle.std.proofs.lemmas.Slice.Eq.{bytes_eq-Decides}
use Rattle.csvw_datatype_core.specs.declared.date_part.DatePart.TheVariants as parts
use Rattle.csvw_datatype_core.specs.declared.date_time.Zone.TheVariants as zones
use Rattle.csvw_binary.specs.declared.binary.BinaryForm.TheVariants as forms
use Rattle.csvw_duration.specs.declared.value.DurationKind.TheVariants as kinds
use Rattle.csvw_datatype.specs.declared.simple.Simple.{Simple}
use Rattle.csvw_datatype.specs.declared.simple.Simple.TheVariants.{Text, Truth, Whole, Decimal, Day, Uri, Derived, Moment, Other, Floating}
use Rattle.csvw_datatype.specs.declared.simple.Floating.{Floating as FloatingType}
use Rattle.csvw_datatype.specs.declared.simple.Floating.TheVariants.{Double, Float}
use Rattle.csvw_datatype.specs.declared.simple.TextType.{TextType}
use Rattle.csvw_datatype.specs.declared.simple.TextType.TheVariants.{Any, Normalized, Token, Language, Name, NameToken, QualifiedName, Xml, Html, Json}
use Rattle.csvw_datatype.specs.declared.simple.TextType.TheVariants.{Time, Date, DateTime, Part, Binary, Duration}
use Rattle.csvw_datatype.specs.declared.simple.Width.{Width}
use Rattle.csvw_datatype.specs.declared.simple.Width.TheVariants.{Long, Int, Short, Byte, UnsignedLong, UnsignedInt, UnsignedShort, UnsignedByte}
use Rattle.csvw_datatype.specs.declared.simple.Width.TheVariants.{NonNegativeInteger, PositiveInteger, NonPositiveInteger, NegativeInteger}
use Rattle.csvw_datatype.specs.Names.{name_of, width_name, text_type_name, IsFloatingNamed, IsTextTypeNamed, IsNamed}
use Rattle.csvw_meta_datatype.specs.Names.{all_simples, named_in, type_named}

-- no type has the name
abbrev NoneNamed : List ℕ → Type 0
NoneNamed name = (s : Simple) → IsNamed name s → ⊥

-- the name of the type with zones is that of the type without them
not_text_type : (name : List ℕ) → NoneNamed name → (t : TextType) → name ≡ text_type_name t → ⊥
not_text_type name none Any e = none (Other Any) (inl e)
not_text_type name none Normalized e = none (Other Normalized) e
not_text_type name none Token e = none (Other Token) e
not_text_type name none Xml e = none (Other Xml) e
not_text_type name none Html e = none (Other Html) e
not_text_type name none Json e = none (Other Json) e
not_text_type name none Language e = none (Other Language) e
not_text_type name none Name e = none (Other Name) e
not_text_type name none NameToken e = none (Other NameToken) e
not_text_type name none QualifiedName e = none (Other QualifiedName) e
not_text_type name none Time e = none (Other Time) e
not_text_type name none Date e = none Day e
not_text_type name none (DateTime zones.Optional) e = none Moment (inl e)
not_text_type name none (DateTime zones.Required) e = none (Other (DateTime zones.Required)) e
not_text_type name none (Part p) e = none (Other (Part p)) e
not_text_type name none (Binary forms.Hex) e = none (Other (Binary forms.Hex)) e
not_text_type name none (Binary forms.Base64) e = none (Other (Binary forms.Base64)) (inl e)
not_text_type name none (Duration k) e = none (Other (Duration k)) e

not_simple : (name : List ℕ) → NoneNamed name → (s : Simple) → name ≡ name_of s → ⊥
not_simple name none Text e = none Text e
not_simple name none Truth e = none Truth e
not_simple name none Whole e = none Whole e
not_simple name none Decimal e = none Decimal e
not_simple name none Day e = none Day e
not_simple name none Uri e = none Uri e
not_simple name none (Derived w) e = none (Derived w) e
not_simple name none Moment e = none Moment (inl e)
not_simple name none (Other t) e = not_text_type name none t e
not_simple name none (Floating Double) e = none (Floating Double) (inl e)
not_simple name none (Floating Float) e = none (Floating Float) e

unequal : (b : Bool) → (b ≡ true → ⊥) → b ≡ false
unequal true h = absurd (h refl)
unequal false h = refl

differs : (a b : List ℕ) → (a ≡ b → ⊥) → bytes_eq a b ≡ false
differs a b h = unequal (bytes_eq a b) (λ e. h ((bytes_eq-Decides a b).0 e))

none_in : (name : List ℕ) → NoneNamed name → (ss : List Simple) → named_in ss name ≡ None
none_in name h [] = refl
none_in name h (s ∷ ss) = rw (differs name (name_of s) (λ e. not_simple name h s e)) (none_in name h ss)

pub none_named : (name : List ℕ) → NoneNamed name → type_named name ≡ None
none_named name h =
    rw (
      differs name (codes "datetime") (λ e. h Moment (inr e)),
      differs name (codes "any") (λ e. h (Other Any) (inr e)),
      differs name (codes "number") (λ e. h (Floating Double) (inr e)),
      differs name (codes "binary") (λ e. h (Other (Binary forms.Base64)) (inr e)),
    ) (none_in name h all_simples)

width_named : (name : List ℕ) (w : Width) → name ≡ width_name w → type_named name ≡ Some (Derived w)
width_named name Long e = rw e refl
width_named name Int e = rw e refl
width_named name Short e = rw e refl
width_named name Byte e = rw e refl
width_named name UnsignedLong e = rw e refl
width_named name UnsignedInt e = rw e refl
width_named name UnsignedShort e = rw e refl
width_named name UnsignedByte e = rw e refl
width_named name NonNegativeInteger e = rw e refl
width_named name PositiveInteger e = rw e refl
width_named name NonPositiveInteger e = rw e refl
width_named name NegativeInteger e = rw e refl

text_type_named : (name : List ℕ) (t : TextType) → IsTextTypeNamed name t → type_named name ≡ Some (Other t)
text_type_named name Any (inl e) = rw e refl
text_type_named name Any (inr e) = rw e refl
text_type_named name Normalized e = rw e refl
text_type_named name Token e = rw e refl
text_type_named name Xml e = rw e refl
text_type_named name Html e = rw e refl
text_type_named name Json e = rw e refl
text_type_named name Language e = rw e refl
text_type_named name Name e = rw e refl
text_type_named name NameToken e = rw e refl
text_type_named name QualifiedName e = rw e refl
text_type_named name Time e = rw e refl
text_type_named name Date e = absurd e
text_type_named name (DateTime zones.Optional) e = absurd e
text_type_named name (DateTime zones.Required) e = rw e refl
text_type_named name (Part parts.Year) e = rw e refl
text_type_named name (Part parts.YearMonth) e = rw e refl
text_type_named name (Part parts.Month) e = rw e refl
text_type_named name (Part parts.MonthDay) e = rw e refl
text_type_named name (Part parts.Day) e = rw e refl
text_type_named name (Binary forms.Hex) e = rw e refl
text_type_named name (Binary forms.Base64) (inl e) = rw e refl
text_type_named name (Binary forms.Base64) (inr e) = rw e refl
text_type_named name (Duration kinds.Any) e = rw e refl
text_type_named name (Duration kinds.YearMonth) e = rw e refl
text_type_named name (Duration kinds.DayTime) e = rw e refl

floating_named : (name : List ℕ) (t : FloatingType) → IsFloatingNamed name t → type_named name ≡ Some (Floating t)
floating_named name Double (inl e) = rw e refl
floating_named name Double (inr e) = rw e refl
floating_named name Float e = rw e refl

pub one_named : (name : List ℕ) (s : Simple) → IsNamed name s → type_named name ≡ Some s
one_named name Text e = rw e refl
one_named name Truth e = rw e refl
one_named name Whole e = rw e refl
one_named name Decimal e = rw e refl
one_named name Day e = rw e refl
one_named name Uri e = rw e refl
one_named name (Derived w) e = width_named name w e
one_named name Moment (inl e) = rw e refl
one_named name Moment (inr e) = rw e refl
one_named name (Other t) e = text_type_named name t e
one_named name (Floating t) e = floating_named name t e

-- what `Simple::of` answers
pub named_as : (name : List ℕ) (o : Option Simple) → MatchOption o ((s : Simple) → ¬ IsNamed name s) (IsNamed name) → o ≡ type_named name
named_as name None h = sym (none_named name h)
named_as name (Some s) h = sym (one_named name s h)
