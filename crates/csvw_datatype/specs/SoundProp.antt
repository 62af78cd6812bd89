-- That a datatype is sound has one proof at most, so an invariant can contain it.
use Rattle.std.specs.Prelude.{◌≡◌, ℤ, true, Option, Some, None, IfSome}
use Rattle.std.proofs.Props.{props}
use mathlib.Core.HLevel.{×_prop, Unit-prop}
use Rattle.csvw_datatype_core.specs.declared.number.NumberRules.{NumberRules}
use Rattle.csvw_datatype_core.specs.Numbers.{IsLawful}
use Rattle.csvw_datatype_core.specs.declared.date_time.Zone.TheVariants as zones
use Rattle.csvw_datatype.specs.declared.value.Value.{Value}
use Rattle.csvw_datatype.specs.declared.value.Value.TheVariants as values
use Rattle.csvw_datatype.specs.declared.simple.Simple.{Simple}
use Rattle.csvw_datatype.specs.declared.simple.Simple.TheVariants as simples
use Rattle.csvw_datatype.specs.declared.simple.TextType.{TextType}
use Rattle.csvw_datatype.specs.declared.simple.TextType.TheVariants as types
use Rattle.csvw_datatype.specs.declared.simple.Width.{Width}
use Rattle.csvw_datatype.specs.declared.format.Format.{Format}
use Rattle.csvw_datatype.specs.declared.format.Format.TheVariants as formats
use Rattle.csvw_datatype.specs.declared.datatype.Facets.{Facets}
use Rattle.csvw_datatype.specs.declared.datatype.Datatype.{Datatype}
use Rattle.csvw_datatype.specs.Formats.{IsFormatOf}
use Rattle.csvw_datatype.specs.Widths.{IsFrom, IsTo, IsInWidth}
use Rattle.csvw_datatype.specs.Sound.{IsNumberSize, IsWholeNumber, IsTextBound, IsBoundOf, AreBoundsOf, IsSound, lengths_apply, lengths_agree, bounds_agree}

lawful-prop : (rules : NumberRules) → IsProp (IsLawful rules)
lawful-prop rules x y =
    let decimal_prop : IsProp _ = hlevel props in
    let group_prop : IsProp _ = hlevel props in
    let differ_prop : IsProp _ = hlevel props in
    λ i. record {
      decimal_char = decimal_prop x.decimal_char y.decimal_char i;
      group_char = group_prop x.group_char y.group_char i;
      differ = differ_prop x.differ y.differ i;
    }

format-prop : (s : Simple) (f : Option Format) → IsProp (IsFormatOf s f)
format-prop s None = Unit-prop
format-prop s (Some (formats.Expression e)) = hlevel props
format-prop simples.Truth (Some (formats.Truth f)) = hlevel props
format-prop simples.Whole (Some (formats.Number f)) = lawful-prop _
format-prop (simples.Derived w) (Some (formats.Number f)) = lawful-prop _
format-prop simples.Decimal (Some (formats.Number f)) = lawful-prop _
format-prop (simples.Floating t) (Some (formats.Number f)) = lawful-prop _
format-prop simples.Day (Some (formats.Day f)) = Unit-prop
format-prop simples.Moment (Some (formats.Moment f)) = Unit-prop
format-prop (simples.Other types.Time) (Some (formats.Time f)) = Unit-prop
format-prop (simples.Other types.Date) (Some (formats.ZonedDay f)) = Unit-prop
format-prop (simples.Other (types.DateTime zone)) (Some (formats.Stamp f)) = Unit-prop
format-prop s (Some f) = λ x y. absurd x

from-prop : (o : Option ℤ) (z : ℤ) → IsProp (IsFrom o z)
from-prop None z = Unit-prop
from-prop (Some low) z = hlevel props

to-prop : (o : Option ℤ) (z : ℤ) → IsProp (IsTo o z)
to-prop None z = Unit-prop
to-prop (Some high) z = hlevel props

width-prop : (w : Width) (z : ℤ) → IsProp (IsInWidth w z)
width-prop w z = ×_prop (from-prop _ z) (to-prop _ z)

text-bound-prop : (t : TextType) (v : Value) → IsProp (IsTextBound t v)
text-bound-prop types.Time (values.Text text) = hlevel props
text-bound-prop types.Date (values.Text text) = hlevel props
text-bound-prop types.Date (values.Day day) = ×_prop (hlevel props) (hlevel props)
text-bound-prop (types.DateTime zone) (values.Text text) = hlevel props
text-bound-prop (types.DateTime zones.Optional) (values.Moment moment) = ×_prop (hlevel props) (hlevel props)
text-bound-prop (types.Part part) (values.Text text) = hlevel props
text-bound-prop (types.Duration kind) (values.Text text) = hlevel props
text-bound-prop t v = λ x y. absurd x

bound-prop : (s : Simple) (v : Value) → IsProp (IsBoundOf s v)
bound-prop simples.Whole (values.Number z) = hlevel props
bound-prop (simples.Derived w) (values.Number z) =
    let size_prop : IsProp (IsNumberSize z) = hlevel props in
    let whole_prop : IsProp (IsWholeNumber z) = hlevel props in
    λ x y i. (size_prop x.0 y.0 i, whole_prop x.1 y.1 i, width-prop w z x.2 y.2 i)
bound-prop simples.Decimal (values.Number z) = hlevel props
bound-prop simples.Day (values.Day day) = ×_prop (hlevel props) (hlevel props)
bound-prop simples.Moment (values.Moment moment) = ×_prop (hlevel props) (hlevel props)
bound-prop (simples.Floating f) (values.Text text) = hlevel props
bound-prop (simples.Other t) v = text-bound-prop t v
bound-prop s v = λ x y. absurd x

some-bound-prop : (s : Simple) (o : Option Value) → IsProp (IfSome o (IsBoundOf s))
some-bound-prop s None = Unit-prop
some-bound-prop s (Some v) = bound-prop s v

bounds-prop : (s : Simple) (f : Facets) → IsProp (AreBoundsOf s f)
bounds-prop s f x y = λ i. record {
  minimum = some-bound-prop s f.minimum x.minimum y.minimum i;
  min_inclusive = some-bound-prop s f.min_inclusive x.min_inclusive y.min_inclusive i;
  min_exclusive = some-bound-prop s f.min_exclusive x.min_exclusive y.min_exclusive i;
  maximum = some-bound-prop s f.maximum x.maximum y.maximum i;
  max_inclusive = some-bound-prop s f.max_inclusive x.max_inclusive y.max_inclusive i;
  max_exclusive = some-bound-prop s f.max_exclusive x.max_exclusive y.max_exclusive i;
}

pub IsSound-prop : (d : Datatype) → IsProp (IsSound d)
IsSound-prop d x y =
    let apply_prop : IsProp (lengths_apply d.simple d.facets ≡ true) = hlevel props in
    let lengths_prop : IsProp (lengths_agree d.facets ≡ true) = hlevel props in
    let bounds_prop : IsProp (bounds_agree d.simple d.facets ≡ true) = hlevel props in
    λ i. record {
      format = format-prop d.simple d.format x.format y.format i;
      bounds = bounds-prop d.simple d.facets x.bounds y.bounds i;
      lengths_apply = apply_prop x.lengths_apply y.lengths_apply i;
      lengths_agree = lengths_prop x.lengths_agree y.lengths_agree i;
      bounds_agree = bounds_prop x.bounds_agree y.bounds_agree i;
    }
