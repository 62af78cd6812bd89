-- The ranges of the derived integer types (XML Schema Part 2, sections 3.4.14 to 3.4.25).
use Rattle.std.specs.Prelude.{◌-◌, ◌^◌, Option, Some, None, ℤ, pos, neg_ℤ, ◌*ℤ◌, ◌≤ℤ◌}
use Rattle.csvw_datatype.specs.declared.simple.Width.{Width}
use Rattle.csvw_datatype.specs.declared.simple.Width.TheVariants.{Long, Int, Short, Byte, UnsignedLong, UnsignedInt, UnsignedShort, UnsignedByte}
use Rattle.csvw_datatype.specs.declared.simple.Width.TheVariants.{NonNegativeInteger, PositiveInteger, NonPositiveInteger, NegativeInteger}

-- the least number of a type, if it has one
abbrev pub least : Width → Option ℤ
least Long = Some (neg_ℤ (pos (2 ^ 63)))
least Int = Some (neg_ℤ (pos (2 ^ 31)))
least Short = Some (neg_ℤ (pos (2 ^ 15)))
least Byte = Some (neg_ℤ (pos (2 ^ 7)))
least UnsignedLong = Some (pos 0)
least UnsignedInt = Some (pos 0)
least UnsignedShort = Some (pos 0)
least UnsignedByte = Some (pos 0)
least NonNegativeInteger = Some (pos 0)
least PositiveInteger = Some (pos 1)
least NonPositiveInteger = None
least NegativeInteger = None

-- the greatest number of a type, if it has one
abbrev pub greatest : Width → Option ℤ
greatest Long = Some (pos (2 ^ 63 - 1))
greatest Int = Some (pos (2 ^ 31 - 1))
greatest Short = Some (pos (2 ^ 15 - 1))
greatest Byte = Some (pos (2 ^ 7 - 1))
greatest UnsignedLong = Some (pos (2 ^ 64 - 1))
greatest UnsignedInt = Some (pos (2 ^ 32 - 1))
greatest UnsignedShort = Some (pos (2 ^ 16 - 1))
greatest UnsignedByte = Some (pos (2 ^ 8 - 1))
greatest NonNegativeInteger = None
greatest PositiveInteger = None
greatest NonPositiveInteger = Some (pos 0)
greatest NegativeInteger = Some (neg_ℤ (pos 1))

-- a whole number as a count of units of 10^-18
abbrev pub in_units : Option ℤ → Option ℤ
in_units None = None
in_units (Some z) = Some (z *ℤ pos (10 ^ 18))

abbrev pub IsFrom : Option ℤ → ℤ → Type 0
IsFrom None z = Unit {0}
IsFrom (Some low) z = low ≤ℤ z

abbrev pub IsTo : Option ℤ → ℤ → Type 0
IsTo None z = Unit {0}
IsTo (Some high) z = z ≤ℤ high

-- a count of units of 10^-18 is in the range of a type
abbrev pub IsInWidth : Width → ℤ → Type 0
IsInWidth w z = IsFrom (in_units (least w)) z × IsTo (in_units (greatest w)) z
