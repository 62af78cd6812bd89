-- The facets that fit the type and each other, in the standards' words (Model for Tabular Data, sections 4.6.1 and 4.6.2;
-- Metadata Vocabulary for Tabular Data, section 5.11.2).
use Rattle.std.specs.Prelude.{◌≡◌, ◌⊎◌, ◌≤◌, Option, None, IfSome}
use Rattle.csvw_datatype.specs.declared.value.Value.{Value}
use Rattle.csvw_datatype.specs.declared.simple.Simple.{Simple}
use Rattle.csvw_datatype.specs.declared.simple.Simple.TheVariants as simples
use Rattle.csvw_datatype.specs.declared.simple.TextType.{TextType}
use Rattle.csvw_datatype.specs.declared.simple.TextType.TheVariants as types
use Rattle.csvw_datatype.specs.declared.datatype.Facets.{Facets}
use Rattle.csvw_datatype.specs.Sound.{first_of}
use Rattle.csvw_datatype.specs.Facets.{IsLess, IsAtMost}

-- if both are set, this holds of them
abbrev pub IfBoth : {A B : Type 0} → Option A → Option B → (A → B → Type 0) → Type 0
IfBoth a b P = IfSome a (λ x. IfSome b (λ y. P x y))

-- neither is less than the other
abbrev pub AreSame : Simple → Value → Value → Type 0
AreSame s a b = (IsLess s a b → ⊥) × (IsLess s b a → ⊥)

-- the types that are derived from string
abbrev pub IsDerivedString : TextType → Type 0
IsDerivedString types.Normalized = Unit {0}
IsDerivedString types.Token = Unit {0}
IsDerivedString types.Language = Unit {0}
IsDerivedString types.Name = Unit {0}
IsDerivedString types.NameToken = Unit {0}
IsDerivedString types.Xml = Unit {0}
IsDerivedString types.Html = Unit {0}
IsDerivedString types.Json = Unit {0}
IsDerivedString t = ⊥

-- a type of octets
abbrev pub IsBinary : TextType → Type 0
IsBinary (types.Binary form) = Unit {0}
IsBinary t = ⊥

-- length, minLength and maxLength are for string, the types derived from it and the types of octets
abbrev pub HasLengths : Simple → Type 0
HasLengths simples.Text = Unit {0}
HasLengths (simples.Other t) = IsDerivedString t ⊎ IsBinary t
HasLengths s = ⊥

abbrev pub LengthsApply : Simple → Facets → Type 0
LengthsApply s f = HasLengths s ⊎ ((f.length ≡ None) × (f.min_length ≡ None) × (f.max_length ≡ None))

-- minLength isn't greater than maxLength, and length is neither less than minLength nor greater than maxLength
pub record LengthsAgree (f : Facets) : Type 0 where
  pub range : IfBoth f.min_length f.max_length (λ a b. a ≤ b)
  pub low : IfBoth f.min_length f.length (λ a b. a ≤ b)
  pub high : IfBoth f.length f.max_length (λ a b. a ≤ b)

-- minimum and maximum are other names of minInclusive and maxInclusive
abbrev pub min_of : Facets → Option Value
min_of f = first_of f.minimum f.min_inclusive

abbrev pub max_of : Facets → Option Value
max_of f = first_of f.maximum f.max_inclusive

-- Two names of a bound say the same. An inclusive and an exclusive bound are not set together. minInclusive is neither greater than maxInclusive nor greater
-- than or equal to maxExclusive. minExclusive is neither greater than maxExclusive nor greater than or equal to maxInclusive.
pub record BoundsAgree (s : Simple) (f : Facets) : Type 0 where
  pub one_minimum : IfBoth f.minimum f.min_inclusive (AreSame s)
  pub one_maximum : IfBoth f.maximum f.max_inclusive (AreSame s)
  pub minimum_alone : IfBoth f.min_exclusive (min_of f) (λ a b. ⊥)
  pub maximum_alone : IfBoth f.max_exclusive (max_of f) (λ a b. ⊥)
  pub inclusive : IfBoth (min_of f) (max_of f) (λ a b. IsLess s b a → ⊥)
  pub exclusive : IfBoth f.min_exclusive f.max_exclusive (λ a b. IsLess s b a → ⊥)
  pub below_exclusive : IfBoth (min_of f) f.max_exclusive (λ a b. IsAtMost s b a → ⊥)
  pub above_exclusive : IfBoth f.min_exclusive (max_of f) (λ a b. IsAtMost s b a → ⊥)
