-- Numbers: the texts that spell a number, and which number (Model for Tabular Data, section 6.4.2).
use Rattle.std.specs.Prelude.{◌≡◌, ◌≢◌, IfSome, ℕ, ◌*◌, ◌^◌, ◌<◌, ◌⊎◌, true, Option, Some, None, IsSome, unwrap_or, List, [], ◌∷◌, ◌++◌, length}
use Rattle.std.specs.Prelude.{filter, ℤ, pos, neg_ℤ}
use Rattle.std.specs.List.{AllByRecursion}
use Rattle.std.specs.Char.{is_ascii_digit, IsAsciiDigit}
use Rattle.std.specs.Str.Parse.{digits_value}
use Rattle.csvw_datatype_core.specs.declared.number.NumberRules.{NumberRules}
use Rattle.csvw_datatype_core.specs.declared.number.Mark.{Mark}
use Rattle.csvw_datatype_core.specs.declared.number.Mark.TheVariants.{Plain, Percent, PerMille}

pub data Sign : Type 0 where
  NoSign : Sign
  Plus : Sign
  Minus : Sign

-- the parts of a number's text; the fraction, if there is one, is what follows the decimal character
pub record Parts : Type 0 where
  pub sign : Sign
  pub whole : List ℕ
  pub fraction : Option (List ℕ)
  pub mark : Mark

abbrev pub sign_text : Sign → List ℕ
sign_text NoSign = []
sign_text Plus = 43 ∷ []
sign_text Minus = 45 ∷ []

abbrev pub fraction_text : Option ℕ → Option (List ℕ) → List ℕ
fraction_text (Some point) (Some digits) = point ∷ digits
fraction_text None (Some digits) = digits
fraction_text point None = []

abbrev pub mark_text : Mark → List ℕ
mark_text Plain = []
mark_text Percent = 37 ∷ []
mark_text PerMille = 0x2030 ∷ []

-- what a mark divides by
abbrev pub divisor : Mark → ℕ
divisor Plain = 1
divisor Percent = 100
divisor PerMille = 1000

-- the text of the parts, as a list of characters
abbrev pub text_of : NumberRules → Parts → List ℕ
text_of rules p = sign_text p.sign ++ (p.whole ++ (fraction_text rules.decimal_char p.fraction ++ mark_text p.mark))

-- one digit or more, with single group characters between them
abbrev pub IsGrouped : Option ℕ → List ℕ → Type 0
IsGrouped group [] = ⊥
IsGrouped group (c ∷ []) = IsAsciiDigit c
IsGrouped group (c ∷ d ∷ cs) = IsAsciiDigit c × (IsGrouped group (d ∷ cs) ⊎ ((group ≡ Some d) × IsGrouped group cs))

-- a fraction, if there is one, is digits, and the column has a decimal character
abbrev pub IsFraction : NumberRules → Option (List ℕ) → Type 0
IsFraction rules None = Unit {0}
IsFraction rules (Some digits) = IsSome rules.decimal_char × AllByRecursion IsAsciiDigit digits

-- a mark only if the column has a format
abbrev pub IsMarked : NumberRules → Mark → Type 0
IsMarked rules Plain = Unit {0}
IsMarked rules Percent = rules.allows_marks ≡ true
IsMarked rules PerMille = rules.allows_marks ≡ true

abbrev pub fraction_digits : Parts → List ℕ
fraction_digits p = unwrap_or p.fraction []

-- the parts are those of a number; the whole part or the fraction's digits may be missing, but not both
pub record IsNumber (rules : NumberRules) (p : Parts) : Type 0 where
  pub whole : (p.whole ≡ []) ⊎ IsGrouped rules.group_char p.whole
  pub fraction : IsFraction rules p.fraction
  pub not_both_missing : ¬ ((p.whole ≡ []) × (fraction_digits p ≡ []))
  pub mark : IsMarked rules p.mark

-- all digits
abbrev pub digits_of : Parts → List ℕ
digits_of p = filter is_ascii_digit p.whole ++ fraction_digits p

-- the number without its sign is n units of 10^-18
abbrev pub IsCount : Parts → ℕ → Type 0
IsCount p n = n * (10 ^ length (fraction_digits p) * divisor p.mark) ≡ digits_value 10 (digits_of p) * 10 ^ 18

abbrev pub signed : Sign → ℕ → ℤ
signed Minus n = neg_ℤ (pos n)
signed _ n = pos n

-- the characters spell a number, which is z units of 10^-18
pub record ReadsNumber (rules : NumberRules) (cs : List ℕ) (z : ℤ) : Type 0 where
  pub parts : Parts
  pub is_number : IsNumber rules parts
  pub spelled : cs ≡ text_of rules parts
  pub count : ℕ
  pub small : count < 10 ^ 38
  pub is_count : IsCount parts count
  pub is_value : z ≡ signed parts.sign count

-- the characters spell a number
pub record SpellsNumber (rules : NumberRules) (cs : List ℕ) : Type 0 where
  pub parts : Parts
  pub is_number : IsNumber rules parts
  pub spelled : cs ≡ text_of rules parts

-- a character that can be a decimal or group character
pub record IsFree (c : ℕ) : Type 0 where
  pub no_digit : ¬ IsAsciiDigit c
  pub no_plus : c ≢ 43
  pub no_minus : c ≢ 45
  pub no_percent : c ≢ 37
  pub no_per_mille : c ≢ 0x2030
  pub no_tab : c ≢ 9
  pub no_line_feed : c ≢ 10
  pub no_carriage_return : c ≢ 13

-- the decimal and the group character differ from each other and from all others of a number
pub record IsLawful (rules : NumberRules) : Type 0 where
  pub decimal_char : IfSome rules.decimal_char IsFree
  pub group_char : IfSome rules.group_char IsFree
  pub differ : (c : ℕ) → rules.decimal_char ≡ Some c → rules.group_char ≡ Some c → ⊥
