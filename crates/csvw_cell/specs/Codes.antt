-- The codes of a cell, and their order (Model for Tabular Data, section 6.4).
use Rattle.std.specs.Prelude.{Bool, List, [], ◌∷◌, ◌++◌, filter, bytes_eq, if◌then◌else◌}
use Rattle.std.specs.List.{list_any}
use Rattle.csvw_fault.specs.declared.fault.Code.{Code}
use Rattle.csvw_fault.specs.declared.fault.Code.TheVariants.{Required, BadBoolean, BadInteger, BadDecimal, NumberTooLong, OutOfRange, BadDate}
use Rattle.csvw_fault.specs.declared.fault.Code.TheVariants.{BadDateTime, BadDouble, BadTime, BadText, BadDuration, WrongLength, TooShort, TooLong, BelowMinimum, AboveMaximum}
use Rattle.csvw_fault.specs.Code.{name_of}
use Rattle.csvw_datatype.specs.declared.facets.Broken.{Broken}

-- the codes that a cell may have, in their order
abbrev pub cell_codes : List Code
cell_codes = Required ∷ BadBoolean ∷ BadInteger ∷ BadDecimal ∷ NumberTooLong ∷ OutOfRange ∷ BadDate ∷ BadDateTime ∷ BadDouble ∷ BadTime ∷ BadText
    ∷ BadDuration ∷ WrongLength ∷ TooShort ∷ TooLong ∷ BelowMinimum ∷ AboveMaximum ∷ []

-- the code is one of the list; two codes are the same if their names are
abbrev pub is_among : List Code → Code → Bool
is_among causes code = list_any (λ cause. bytes_eq (name_of cause) (name_of code)) causes

-- each code of a list once, in their order
abbrev pub in_order : List Code → List Code
in_order causes = filter (is_among causes) cell_codes

abbrev pub told : Bool → Code → List Code
told b code = if b then code ∷ [] else []

-- the codes of the facets that a value breaks
abbrev pub broken_codes : Broken → List Code
broken_codes b =
    (((told b.wrong_length WrongLength ++ told b.too_short TooShort) ++ told b.too_long TooLong)
    ++ told b.below_minimum BelowMinimum) ++ told b.above_maximum AboveMaximum
