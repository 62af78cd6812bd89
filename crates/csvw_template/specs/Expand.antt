-- The expansion of a template (RFC 6570, section 3).
use Rattle.std.specs.Prelude.{◌≡◌, ℕ, ◌==◌, ◌&&◌, ◌||◌, ◌++◌, List, [], ◌∷◌, Bool, true, false, Option, Some, None, map, if◌then◌else◌}
use Rattle.std.specs.List.{flat_map, filter_map}
use Rattle.percent_encoding.specs.Percent.{percent_encode_byte}
use Rattle.csvw_text.specs.Class.{is_unreserved_char, is_reserved_char}
use Rattle.csvw_iri.specs.Encoded.{percent_encoded}
use Rattle.csvw_template.specs.declared.part.Operator.{Operator}
use Rattle.csvw_template.specs.declared.part.Operator.TheVariants.{Simple, Reserved, Fragment}
use Rattle.csvw_template.specs.declared.part.Part.{Part}
use Rattle.csvw_template.specs.declared.part.Part.TheVariants.{Literal, Expression}
use Rattle.csvw_template.specs.declared.vars.Var.{Var}
use Rattle.csvw_template.specs.declared.vars.Var.TheVariants.{Undefined, One, Many}
use Rattle.csvw_template.specs.Name.{is_hex, listed}
use Rattle.csvw_template.specs.Variables.{Variables, lookup}

-- an unreserved or a reserved character
abbrev pub is_plain : ℕ → Bool
is_plain b = is_unreserved_char b || is_reserved_char b

-- reserved characters stay too
abbrev pub kept_byte : ℕ → List ℕ
kept_byte b = if is_plain b then b ∷ [] else percent_encode_byte b

abbrev pub begins_triplet : List ℕ → Bool
begins_triplet [] = false
begins_triplet (b ∷ []) = false
begins_triplet (b ∷ c ∷ []) = false
begins_triplet (b ∷ c ∷ d ∷ rest) = b == 37 && is_hex c && is_hex d

-- reserved characters and triplets stay, as in a literal (section 3.1) and under `+` and `#`
unfoldable pub kept : List ℕ → List ℕ
kept [] = []
kept (b ∷ []) = kept_byte b ++ []
kept (b ∷ c ∷ []) = kept_byte b ++ kept (c ∷ [])
kept (b ∷ c ∷ d ∷ rest) =
    if begins_triplet (b ∷ c ∷ d ∷ rest) then b ∷ c ∷ d ∷ kept rest else kept_byte b ++ kept (c ∷ d ∷ rest)

-- a text under an operator (section 3.2.1)
abbrev pub encoded : Operator → List ℕ → List ℕ
encoded Simple text = percent_encoded text
encoded Reserved text = kept text
encoded Fragment text = kept text

-- The value of a variable: its text, or its items with commas between them. A list without items is undefined.
abbrev pub value : Operator → Var → Option (List ℕ)
value operator Undefined = None
value operator (One text) = Some (encoded operator text)
value operator (Many []) = None
value operator (Many (item ∷ items)) = Some (listed (map (encoded operator) (item ∷ items)))

-- the values of the names that are defined
abbrev pub values : Operator → Variables → List (List ℕ) → List (List ℕ)
values operator vars names = filter_map (λ name. value operator (lookup vars name)) names

-- the text before the first value (section 3.2.4)
abbrev pub sign : Operator → List ℕ
sign Simple = []
sign Reserved = []
sign Fragment = 35 ∷ []

-- values with commas between them, after the sign if there is a value
abbrev pub signed : Operator → List (List ℕ) → List ℕ
signed operator [] = []
signed operator (text ∷ texts) = sign operator ++ listed (text ∷ texts)

abbrev pub expand_part : Variables → Part → List ℕ
expand_part vars (Literal text) = kept text
expand_part vars (Expression operator names) = signed operator (values operator vars names)

unfoldable pub expand : Variables → List Part → List ℕ
expand vars parts = flat_map (expand_part vars) parts

-- the text before a value
abbrev pub lead : Operator → Bool → List ℕ
lead operator true = sign operator
lead operator false = 44 ∷ []

-- one more value was written, if there is one
abbrev pub Adds : Operator → Bool → Option (List ℕ) → Bool → List ℕ → List ℕ → Type 0
Adds operator is_first None is_defined old new = (is_defined ≡ false) × (new ≡ old)
Adds operator is_first (Some text) is_defined old new =
    (is_defined ≡ true) × (new ≡ old ++ (lead operator is_first ++ text))
