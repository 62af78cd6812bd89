-- The lexical form of a number: the canonical form of xsd:decimal, without a point if the number is whole (XML Schema Part 2, section 3.3.3).
use Rattle.std.specs.Prelude.{◌≡◌, ◌≢◌, ◌↔◌, ◌⊎◌, ℕ, ◌*◌, ◌^◌, Some, None, IfSome, false, List, [], ◌∷◌, ◌++◌, length, ℤ, pos, ◌<ℤ◌}
use Rattle.std.specs.List.{AllByRecursion}
use Rattle.std.specs.Char.{IsAsciiDigit}
use Rattle.std.specs.Str.Parse.{digits_value}
use Rattle.csvw_datatype_core.specs.declared.number.NumberRules.{NumberRules}
use Rattle.csvw_datatype_core.specs.declared.number.Mark.TheVariants.{Plain}
use Rattle.csvw_datatype_core.specs.Numbers.{Minus, Plus, ReadsNumber}

-- a decimal number if there is no format
abbrev pub plain_rules : NumberRules
plain_rules = record { decimal_char = Some 46; group_char = None; allows_marks = false }

-- one digit, or more of which the first is not 0
abbrev pub HasNoLeadingZero : List ℕ → Type 0
HasNoLeadingZero [] = ⊥
HasNoLeadingZero (c ∷ []) = Unit {0}
HasNoLeadingZero (c ∷ d ∷ cs) = c ≢ 48

-- one digit or more, of which the last is not 0
abbrev pub HasNoTrailingZero : List ℕ → Type 0
HasNoTrailingZero [] = ⊥
HasNoTrailingZero (c ∷ []) = c ≢ 48
HasNoTrailingZero (c ∷ d ∷ cs) = HasNoTrailingZero (d ∷ cs)

-- the text is read as z in the default format, and has nothing that could be left out
pub record IsLexicalNumber (cs : List ℕ) (z : ℤ) : Type 0 where
  pub reads : ReadsNumber plain_rules cs z
  pub minus : reads.parts.sign ≡ Minus ↔ (z <ℤ pos 0)
  pub no_plus : reads.parts.sign ≢ Plus
  pub whole : HasNoLeadingZero reads.parts.whole
  pub fraction : IfSome reads.parts.fraction HasNoTrailingZero
  pub no_mark : reads.parts.mark ≡ Plain

-- the digits of a fraction of n units of 10^-18 at the end
pub record AppendsFraction (old new : List ℕ) (n : ℕ) : Type 0 where
  pub digits : List ℕ
  pub appended : new ≡ old ++ digits
  pub are_digits : AllByRecursion IsAsciiDigit digits
  pub no_trailing_zero : HasNoTrailingZero digits
  pub value : digits_value 10 digits * 10 ^ 18 ≡ n * 10 ^ length digits

-- the same after a point, or nothing if the number is whole
abbrev pub AppendsPart : List ℕ → List ℕ → ℕ → Type 0
AppendsPart old new n = ((n ≡ 0) × (new ≡ old)) ⊎ AppendsFraction (old ++ 46 ∷ []) new n
