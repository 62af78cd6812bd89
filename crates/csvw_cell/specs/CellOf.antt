-- The cell that a text is (Model for Tabular Data, section 6.4, "Parsing Cells"), in nine steps.
use Rattle.std.specs.Prelude.{◌≡◌, ℕ, ◌==◌, Bool, MatchBool, if◌then◌else◌, List, [], ◌∷◌, ◌++◌, length, map, take, drop, filter, bytes_eq, not}
use Rattle.std.specs.Prelude.{Option, Some, None, chars, encode_utf8_all}
use Rattle.std.specs.List.{list_any}
use Rattle.std.specs.Str.Pattern.{FindsText}
use Rattle.csvw_text.specs.Collapse.{collapse, spaced}
use Rattle.csvw_text.specs.Strip.{strip_start, strip_end}
use Rattle.csvw_fault.specs.declared.fault.Code.{Code}
use Rattle.csvw_fault.specs.declared.fault.Code.TheVariants.{Required}
use Rattle.csvw_datatype.specs.declared.datatype.Datatype.{Datatype}
use Rattle.csvw_datatype.specs.declared.value.Value.TheVariants.{Text}
use Rattle.csvw_datatype.specs.Reads.{Reads, Misread}
use Rattle.csvw_datatype.specs.Breaks.{breaks}
use Rattle.csvw_datatype.specs.Strings.{keeps_ends, white_space}
use Rattle.csvw_datatype.specs.declared.white_space.WhiteSpace.{WhiteSpace}
use Rattle.csvw_datatype.specs.declared.white_space.WhiteSpace.TheVariants as ways
use Rattle.csvw_columns_core.specs.declared.properties.Properties.{Properties}
use Rattle.csvw_columns_core.specs.declared.column.Column.{Column}
use Rattle.csvw_cell.specs.declared.cell.Item.{Item}
use Rattle.csvw_cell.specs.declared.cell.Cell.{Cell}
use Rattle.csvw_cell.specs.declared.cell.CellValue.{CellValue}
use Rattle.csvw_cell.specs.declared.cell.CellValue.TheVariants.{Null, One, Many}
use Rattle.csvw_cell.specs.Codes.{in_order, broken_codes}

-- steps 1 and 2: white space stays; or CR, LF and tab become spaces; or then the ends are stripped too and each run of spaces becomes one
abbrev pub normalized_by : WhiteSpace → List ℕ → List ℕ
normalized_by ways.Preserve text = text
normalized_by ways.Replace text = encode_utf8_all (spaced (chars text))
normalized_by ways.Collapse text = encode_utf8_all (collapse (chars text))

abbrev pub normalized : Datatype → List ℕ → List ℕ
normalized d text = normalized_by (white_space d) text

-- steps 3 and 6: an empty text is replaced by `default`
abbrev pub or_default : List ℕ → List ℕ → List ℕ
or_default default text = if length text == 0 then default else text

-- the text is one of `null`
abbrev pub is_null : List (List ℕ) → List ℕ → Bool
is_null nulls text = list_any (λ n. bytes_eq n text) nulls

-- step 5: the parts between the separators, found from the left; an empty separator separates nothing
abbrev pub ArePartsBy : List ℕ → List ℕ → List (List ℕ) → Type 0
ArePartsBy separator text [] = ⊥
ArePartsBy separator text (part ∷ []) = FindsText separator text None × (part ≡ text)
ArePartsBy separator text (part ∷ next ∷ parts) =
    (i : ℕ) × (j : ℕ) × FindsText separator text (Some (i, j)) × (part ≡ take i text) × ArePartsBy separator (drop j text) (next ∷ parts)

abbrev pub AreParts : List ℕ → List ℕ → List (List ℕ) → Type 0
AreParts separator text parts = MatchBool (length separator == 0) (parts ≡ text ∷ []) (ArePartsBy separator text parts)

-- an item is stripped of white space, unless its ends stay
abbrev pub stripped : Datatype → List ℕ → List ℕ
stripped d text = if keeps_ends d then text else encode_utf8_all (strip_end (strip_start (chars text)))

-- steps 5 and 6 of one item
abbrev pub item_text : Properties → List ℕ → List ℕ
item_text p part = or_default p.default (stripped p.datatype part)

-- step 7 of the items: those that are null are left out
abbrev pub texts_of : Properties → List (List ℕ) → List (List ℕ)
texts_of p parts = filter (λ text. not (is_null p.null text)) (map (item_text p) parts)

-- step 8: the text is a value of the datatype, or else a text with the code; step 9: the facets of a value that was read
abbrev pub IsItem : Datatype → List ℕ → Item → List Code → Type 0
IsItem d text item codes =
    MatchBool item.was_read
    (Reads d text item.value × (codes ≡ broken_codes (breaks d.simple item.value d.facets)))
    ((code : Code) × Misread d text code × (item.value ≡ Text text) × (codes ≡ code ∷ []))

-- the same of each text of a list
abbrev pub AreItems : Datatype → List (List ℕ) → List Item → List Code → Type 0
AreItems d [] items codes = (items ≡ []) × (codes ≡ [])
AreItems d (text ∷ texts) items codes =
    (item : Item) × (others : List Item) × (its : List Code) × (theirs : List Code)
    × (items ≡ item ∷ others) × (codes ≡ its ++ theirs) × IsItem d text item its × AreItems d texts others theirs

-- a required cell has a value
abbrev pub missing : Properties → List Code
missing p = if p.required then Required ∷ [] else []

-- steps 8 and 9 without a separator
abbrev pub IsJudged : Datatype → List ℕ → CellValue → List Code → Type 0
IsJudged d text value faults = (item : Item) × (codes : List Code) × IsItem d text item codes × (value ≡ One item) × (faults ≡ in_order codes)

-- steps 7 to 9 without a separator
abbrev pub IsSingle : Properties → List ℕ → Cell → Type 0
IsSingle p text cell =
    MatchBool (is_null p.null text)
    ((cell.value ≡ Null) × (cell.faults ≡ missing p))
    (IsJudged p.datatype text cell.value cell.faults)

-- steps 5 to 9 of a text that isn't null
abbrev pub IsListOf : Properties → List ℕ → List ℕ → Cell → Type 0
IsListOf p separator text cell =
    (parts : List (List ℕ)) × (items : List Item) × (codes : List Code) × AreParts separator text parts
    × AreItems p.datatype (texts_of p parts) items codes × (cell.value ≡ Many items) × (cell.faults ≡ in_order codes)

-- steps 4 to 9 with a separator
abbrev pub IsList : Properties → List ℕ → List ℕ → Cell → Type 0
IsList p separator text cell =
    MatchBool (length text == 0)
    ((cell.value ≡ Many []) × (cell.faults ≡ missing p))
    (MatchBool (is_null p.null text) ((cell.value ≡ Null) × (cell.faults ≡ [])) (IsListOf p separator text cell))

abbrev pub IsCellBy : Properties → Option (List ℕ) → List ℕ → Cell → Type 0
IsCellBy p None text cell = IsSingle p text cell
IsCellBy p (Some separator) text cell = IsList p separator text cell

-- all nine steps
abbrev pub CellOf : Column → List ℕ → Cell → Type 0
CellOf column text cell =
    IsCellBy column.properties column.properties.separator (or_default column.properties.default (normalized column.properties.datatype text)) cell
