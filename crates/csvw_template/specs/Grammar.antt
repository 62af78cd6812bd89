-- What a template is, and the first fault of a text that is not a template (RFC 6570, sections 2 to 2.4). The operators are none,
-- `+` and `#`. Nothing here says how a text is read.
use Rattle.std.specs.Prelude.{◌≡◌, ◌↔◌, ◌==◌, ◌||◌, ◌++◌, ◌∷◌, [], ℕ, List, Bool, true, false, Result, Ok, Err, length, ◌≤◌, ◌<◌, ◌⊎◌, count_by}
use Rattle.std.specs.List.{flat_map, All}
use Rattle.csvw_template.specs.declared.fault.TemplateFault.{TemplateFault}
use Rattle.csvw_template.specs.declared.fault.TemplateFault.TheVariants.{TooLong, BadTemplate, TemplateLevel}
use Rattle.csvw_template.specs.declared.part.Operator.{Operator}
use Rattle.csvw_template.specs.declared.part.Operator.TheVariants.{Simple, Reserved, Fragment}
use Rattle.csvw_template.specs.declared.part.Part.{Part}
use Rattle.csvw_template.specs.declared.part.Part.TheVariants.{Literal, Expression}
use Rattle.csvw_template.specs.Name.{AreNames, listed}
use Rattle.csvw_template.specs.declared.template.TheConstants.{MAX_LEN, MAX_OPEN}

-- `{`
abbrev pub is_open : ℕ → Bool
is_open b = b == 123

-- `}`
abbrev pub is_close : ℕ → Bool
is_close b = b == 125

-- it has neither `{` nor `}`
abbrev pub HasNoBrace : List ℕ → Type 0
HasNoBrace text = All (λ b. (is_open b || is_close b) ≡ false) text

-- the operator as it is spelled
abbrev pub mark : Operator → List ℕ
mark Simple = []
mark Reserved = 43 ∷ []
mark Fragment = 35 ∷ []

abbrev pub spelling_of : Part → List ℕ
spelling_of (Literal text) = text
spelling_of (Expression operator names) = 123 ∷ mark operator ++ listed names ++ 125 ∷ []

abbrev pub spelling : List Part → List ℕ
spelling parts = flat_map spelling_of parts

-- a literal is not empty and has no brace
abbrev pub IsLiteral : List ℕ → Type 0
IsLiteral text = (0 < length text) × HasNoBrace text

-- no literal follows another one
abbrev pub AreParts : List Part → Type 0
AreParts [] = Unit {0}
AreParts (Literal text ∷ []) = IsLiteral text
AreParts (Literal text ∷ Literal more ∷ parts) = ⊥
AreParts (Literal text ∷ Expression operator names ∷ parts) =
    IsLiteral text × AreParts (Expression operator names ∷ parts)
AreParts (Expression operator names ∷ parts) = AreNames names × AreParts parts

-- the parts spell the text
abbrev pub IsTemplate : List ℕ → List Part → Type 0
IsTemplate text parts = AreParts parts × (text ≡ spelling parts)

-- the text between the braces of an expression
pub record IsExpression (inner : List ℕ) : Type 0 where
  pub operator : Operator
  pub names : List (List ℕ)
  pub are_names : AreNames names
  pub spelled : inner ≡ mark operator ++ listed names

-- one of `./;?&=,!@|`, with which expressions of higher levels and those kept for later begin
-- (RFC 6570, section 2.2)
abbrev pub is_level_operator : ℕ → Bool
is_level_operator b =
    b == 46 || b == 47 || b == 59 || b == 63 || b == 38 || b == 61 || b == 44 || b == 33 || b == 64 || b == 124

-- `:` or `*`, with which the modifiers of level 4 begin (RFC 6570, section 2.4)
abbrev pub is_modifier : ℕ → Bool
is_modifier b = b == 58 || b == 42

-- An expression of a higher level: it begins with another operator, or has a modifier after a name.
pub data IsHigher (inner : List ℕ) : Type 0 where
  by_operator : (b : ℕ) (more : List ℕ) → is_level_operator b ≡ true → inner ≡ b ∷ more → IsHigher inner
  by_modifier : (operator : Operator) (names : List (List ℕ)) (b : ℕ) (more : List ℕ)
      → AreNames names → is_modifier b ≡ true → inner ≡ mark operator ++ listed names ++ b ∷ more → IsHigher inner

-- the end, or a `{`
abbrev pub IsEndOrOpen : List ℕ → Type 0
IsEndOrOpen [] = Unit {0}
IsEndOrOpen (b ∷ more) = b ≡ 123

-- A text that begins with `}`, with a `{` that isn't closed before the next or the end, or with braces around a text that is neither an expression nor one of
-- a higher level.
pub data BeginsBad (text : List ℕ) : Type 0 where
  closes_none : (more : List ℕ) → text ≡ 125 ∷ more → BeginsBad text
  not_closed : (inner more : List ℕ) → HasNoBrace inner → IsEndOrOpen more → text ≡ 123 ∷ inner ++ more → BeginsBad text
  no_expression : (inner more : List ℕ)
      → HasNoBrace inner → ¬ IsExpression inner → ¬ IsHigher inner → text ≡ 123 ∷ inner ++ 125 ∷ more → BeginsBad text

-- A text that begins with an expression of a higher level.
pub data BeginsHigher (text : List ℕ) : Type 0 where
  higher : (inner more : List ℕ)
      → HasNoBrace inner → IsHigher inner → text ≡ 123 ∷ inner ++ 125 ∷ more → BeginsHigher text

-- The fault is the first from the left: the text before it is a template.
pub record IsFirst (Begins : List ℕ → Type 0) (text : List ℕ) : Type 0 where
  pub front : List ℕ
  pub rest : List ℕ
  pub parts : List Part
  pub is_template : IsTemplate front parts
  pub begins : Begins rest
  pub split : text ≡ front ++ rest

-- at most 4,096 bytes, and at most 32 `{`
abbrev pub IsWithin : List ℕ → Type 0
IsWithin text = (length text ≤ MAX_LEN) × (count_by is_open text ≤ MAX_OPEN)

abbrev pub IsPast : List ℕ → Type 0
IsPast text = (MAX_LEN < length text) ⊎ (MAX_OPEN < count_by is_open text)

-- The answer is the text's parts, or why it has none. A text that is longer than its limits is reported first, then the first fault from the left.
pub record IsTheReading (text : List ℕ) (answer : Result (List Part) TemplateFault) : Type 0 where
  pub too_long : (answer ≡ Err TooLong) ↔ IsPast text
  pub is_template : (parts : List Part) → (answer ≡ Ok parts) ↔ (IsWithin text × IsTemplate text parts)
  pub bad : (answer ≡ Err BadTemplate) ↔ (IsWithin text × IsFirst BeginsBad text)
  pub higher : (answer ≡ Err TemplateLevel) ↔ (IsWithin text × IsFirst BeginsHigher text)
