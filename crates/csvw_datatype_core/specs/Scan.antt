-- The pass over a number's characters.
use Rattle.std.specs.Prelude.{ℕ, ◌<◌, ◌-◌, ◌==◌, ◌&&◌, Bool, true, false, Option, Some, None, if◌then◌else◌, List, [], ◌∷◌}
use Rattle.std.specs.Char.{is_ascii_digit}
use Rattle.csvw_datatype_core.specs.declared.number.NumberRules.{NumberRules}
use Rattle.csvw_datatype_core.specs.declared.number.Kind.{Kind}
use Rattle.csvw_datatype_core.specs.declared.number.Kind.TheVariants as kinds
use Rattle.csvw_datatype_core.specs.declared.number.Place.{Place}
use Rattle.csvw_datatype_core.specs.declared.number.Place.TheVariants as places

-- an option holds this character
abbrev pub holds : Option ℕ → ℕ → Bool
holds None c = false
holds (Some d) c = d == c

-- what a character can be in a number
unfoldable pub kind_of : NumberRules → ℕ → Kind
kind_of rules c =
    if is_ascii_digit c then kinds.Digit (c - 48)
    else (if c == 43 then kinds.Plus
    else (if c == 45 then kinds.Minus
    else (if holds rules.decimal_char c then kinds.Point
    else (if holds rules.group_char c then kinds.Group
    else (if rules.allows_marks && c == 37 then kinds.Percent
    else (if rules.allows_marks && c == 0x2030 then kinds.PerMille
    else kinds.Other))))))

-- what was read last, after one more character of this kind
abbrev pub next : Place → Kind → Place
next places.Start (kinds.Digit d) = places.Whole
next places.Start kinds.Plus = places.Sign
next places.Start kinds.Minus = places.Sign
next places.Start kinds.Point = places.BarePoint
next places.Start _ = places.Bad
next places.Sign (kinds.Digit d) = places.Whole
next places.Sign kinds.Point = places.BarePoint
next places.Sign _ = places.Bad
next places.Whole (kinds.Digit d) = places.Whole
next places.Whole kinds.Point = places.Fraction
next places.Whole kinds.Group = places.Group
next places.Whole kinds.Percent = places.Mark
next places.Whole kinds.PerMille = places.Mark
next places.Whole _ = places.Bad
next places.Group (kinds.Digit d) = places.Whole
next places.Group _ = places.Bad
next places.BarePoint (kinds.Digit d) = places.Fraction
next places.BarePoint _ = places.Bad
next places.Fraction (kinds.Digit d) = places.Fraction
next places.Fraction kinds.Percent = places.Mark
next places.Fraction kinds.PerMille = places.Mark
next places.Fraction _ = places.Bad
next places.Mark _ = places.Bad
next places.Bad _ = places.Bad

-- a digit is below ten
abbrev pub IsBelowTen : Kind → Type 0
IsBelowTen (kinds.Digit d) = d < 10
IsBelowTen _ = Unit {0}

-- a text may end here
abbrev pub ends : Place → Bool
ends places.Whole = true
ends places.Fraction = true
ends places.Mark = true
ends _ = false

-- what was read last, after these characters
abbrev pub goes : NumberRules → Place → List ℕ → Place
goes rules q [] = q
goes rules q (c ∷ cs) = goes rules (next q (kind_of rules c)) cs
