-- The parts of a text, as a function. The text is cut at each `{`. What follows one is cut at its first `}`. A clause of `Template::read` says that this is
-- the reading of `Grammar`.
use Rattle.std.specs.Prelude.{ℕ, ◌==◌, ◌&&◌, ◌||◌, ◌++◌, List, [], ◌∷◌, Bool, true, false, nat_lt, length, if◌then◌else◌, Result, Ok, Err, Option}
use Rattle.std.specs.Prelude.{Some, None, count_by}
use Rattle.std.specs.List.{slice_split, list_any, before_first, after_first}
use Rattle.csvw_template.specs.declared.fault.TemplateFault.{TemplateFault}
use Rattle.csvw_template.specs.declared.fault.TemplateFault.TheVariants.{TooLong, BadTemplate, TemplateLevel}
use Rattle.csvw_template.specs.declared.part.Operator.{Operator}
use Rattle.csvw_template.specs.declared.part.Operator.TheVariants.{Simple, Reserved, Fragment}
use Rattle.csvw_template.specs.declared.part.Part.{Part}
use Rattle.csvw_template.specs.declared.part.Part.TheVariants.{Literal, Expression}
use Rattle.csvw_template.specs.declared.names.Place.{Place}
use Rattle.csvw_template.specs.declared.names.Place.TheVariants.{Front, Char, Dot, Percent, Digit}
use Rattle.csvw_template.specs.declared.names.Kind.{Kind}
use Rattle.csvw_template.specs.declared.names.Kind.TheVariants.{Names, Higher, Bad}
use Rattle.csvw_template.specs.Fault.{◌>>=◌}
use Rattle.csvw_template.specs.Grammar.{is_open, is_close, is_level_operator, is_modifier}
use Rattle.csvw_template.specs.Name.{is_hex, is_name_byte}
use Rattle.csvw_template.specs.declared.template.TheConstants.{MAX_LEN, MAX_OPEN}

-- the place after the first character of a varchar
abbrev pub varchar_step : ℕ → Option Place
varchar_step b = if b == 37 then Some Percent else (if is_name_byte b then Some Char else None)

abbrev pub step : Place → ℕ → Option Place
step Front b = varchar_step b
step Char b = if b == 46 then Some Dot else (if b == 44 then Some Front else varchar_step b)
step Dot b = varchar_step b
step Percent b = if is_hex b then Some Digit else None
step Digit b = if is_hex b then Some Char else None

-- whether a name may end there
abbrev pub is_end : Place → Bool
is_end Front = false
is_end Char = true
is_end Dot = false
is_end Percent = false
is_end Digit = false

-- names, names with a modifier after them, or neither
abbrev pub kind : Option Place → List ℕ → Kind
kind None bs = Bad
kind (Some place) [] = if is_end place then Names else Bad
kind (Some place) (b ∷ bs) = if is_end place && is_modifier b then Higher else kind (step place b) bs

unfoldable pub kind_of : List ℕ → Kind
kind_of text = kind (Some Front) text

abbrev pub is_comma : ℕ → Bool
is_comma b = b == 44

abbrev pub by_kind : Kind → Operator → List ℕ → Result Part TemplateFault
by_kind Names operator text = Ok (Expression operator (slice_split is_comma text))
by_kind Higher operator text = Err TemplateLevel
by_kind Bad operator text = Err BadTemplate

-- the expression of the text after the operator
abbrev pub of_operator : Operator → List ℕ → Result Part TemplateFault
of_operator operator text = by_kind (kind_of text) operator text

-- the expression of the text between `{` and `}`
abbrev pub expression : List ℕ → Result Part TemplateFault
expression [] = Err BadTemplate
expression (b ∷ rest) =
    if b == 43 then of_operator Reserved rest
    else (if b == 35 then of_operator Fragment rest
    else (if is_level_operator b then Err TemplateLevel else of_operator Simple (b ∷ rest)))

abbrev pub Parts : Type 0
Parts = Result (List Part) TemplateFault

abbrev pub literal : List ℕ → List Part
literal [] = []
literal (b ∷ bs) = Literal (b ∷ bs) ∷ []

-- the parts of the text before the next `{`
abbrev pub outside : List ℕ → Parts
outside text = if list_any is_close text then Err BadTemplate else Ok (literal text)

-- the parts of what follows one `{`, up to the next
abbrev pub opened : List ℕ → Parts
opened piece =
    if list_any is_close piece
    then (expression (before_first is_close piece) >>= λ e. outside (after_first is_close piece) >>= λ es. Ok (e ∷ es))
    else Err BadTemplate

abbrev pub all_opened : List (List ℕ) → Parts
all_opened [] = Ok []
all_opened (piece ∷ pieces) = opened piece >>= λ e. all_opened pieces >>= λ es. Ok (e ++ es)

abbrev pub of_pieces : List (List ℕ) → Parts
of_pieces [] = Ok []
of_pieces (piece ∷ pieces) = outside piece >>= λ e. all_opened pieces >>= λ es. Ok (e ++ es)

abbrev pub is_past : List ℕ → Bool
is_past text = nat_lt MAX_LEN (length text) || nat_lt MAX_OPEN (count_by is_open text)

unfoldable pub template : List ℕ → Parts
template text = if is_past text then Err TooLong else of_pieces (slice_split is_open text)
