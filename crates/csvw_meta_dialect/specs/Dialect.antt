-- The dialect that an object of a document describes, and its faults: `dialect` (Metadata Vocabulary for Tabular Data, section
-- 5.9).
use Rattle.std.specs.Prelude.{ℕ, ◌==◌, ◌||◌, ◌&&◌, not, List, [], ◌∷◌, ◌++◌, Bool, true, false, Option}
use Rattle.std.specs.Prelude.{Some, None, is_none, nat_lt, length, bytes_eq, codes, chars, if◌then◌else◌, map, ⊤}
use Rattle.std.specs.Char.{to_ascii_lowercase}
use Rattle.std.specs.List.{list_any}
use Rattle.serde_json.specs.Data.{Data, null, boolean, number, string, array, object}
use Rattle.serde_json.specs.Find.{as_str}
use Rattle.csvw_records.specs.declared.dialect.Dialect.{Dialect}
use Rattle.csvw_records.specs.declared.dialect.LineTerminators.{LineTerminators}
use Rattle.csvw_records.specs.declared.dialect.Trim.{Trim}
use Rattle.csvw_records.specs.declared.dialect.Trim.TheVariants.{No, Start, End, Both}
use Rattle.csvw_records.specs.Lawful.{has_break}
use Rattle.csvw_meta_core.specs.declared.fault.MetaCode.{MetaCode}
use Rattle.csvw_meta_core.specs.declared.fault.MetaCode.TheVariants.{BadDialect, BadProperty, NotSupported}
use Rattle.csvw_meta_core.specs.declared.fault.MetaFault.{MetaFault}
use Rattle.csvw_meta_core.specs.Pointer.{below}
use Rattle.csvw_meta_core.specs.Read.{Read, fine, faulty, ◌>>=◌, over, wrong, on_kind, on_linked_object, property, optional, or_null, each}
use Rattle.csvw_meta_core.specs.Rules.{also, could_read}
use Rattle.csvw_meta_core.specs.Kinds.{truth, whole, any_whole, character, fixed}
use Rattle.csvw_meta_core.specs.Links.{id}
use Rattle.csvw_meta_notes.specs.Unlisted.{unlisted}
use Rattle.csvw_meta_core.specs.declared.context.Context.{Context}
use Rattle.csvw_meta_dialect.specs.declared.dialect.CellSymbols.{CellSymbols}
use Rattle.csvw_meta_dialect.specs.declared.dialect.DialectFound.{DialectFound}
use Rattle.csvw_meta_dialect.specs.declared.dialect.HeaderAndSkips.{HeaderAndSkips}
use Rattle.csvw_meta_notes.specs.Places.{place_of}
use Rattle.csvw_meta_dialect.specs.declared.dialect.TheConstants.{MAX_HEADER_ROWS, MAX_PREFIX, MAX_SKIPPED_COLUMNS}

-- the properties of a dialect
abbrev pub dialect_names : List (List ℕ)
dialect_names =
    codes "@id" ∷ codes "@type" ∷ codes "commentPrefix" ∷ codes "delimiter" ∷ codes "doubleQuote" ∷ codes "encoding" ∷ codes "header"
    ∷ codes "headerRowCount" ∷ codes "lineTerminators" ∷ codes "quoteChar" ∷ codes "skipBlankRows" ∷ codes "skipColumns"
    ∷ codes "skipInitialSpace" ∷ codes "skipRows" ∷ codes "trim" ∷ []

abbrev pub is_break_char : ℕ → Bool
is_break_char c = (c == 13) || (c == 10)

-- one character, neither CR nor LF
abbrev pub mark : MetaCode → List ℕ → Data → Read ℕ
mark several at d = over 0 (character several at d) (λ c. if is_break_char c then faulty BadDialect at 0 else fine c)

-- 1 to 16 bytes, without CR and LF
abbrev pub comment_prefix : List ℕ → Data → Read (List ℕ)
comment_prefix at d =
    on_kind at d [] (as_str d) (λ s.
    if (length s == 0) || nat_lt MAX_PREFIX (length s) then faulty BadProperty at []
    else (if has_break (chars s) then faulty BadDialect at [] else fine s))

abbrev pub trim_named : List ℕ → Option Trim
trim_named s =
    if bytes_eq s (codes "true") then Some Both
    else (if bytes_eq s (codes "false") then Some No
    else (if bytes_eq s (codes "start") then Some Start
    else (if bytes_eq s (codes "end") then Some End else None)))

abbrev pub trim_found : List ℕ → Option Trim → Read Trim
trim_found at None = faulty BadProperty at No
trim_found at (Some t) = fine t

-- a boolean, or a name
abbrev pub trim : List ℕ → Data → Read Trim
trim at (boolean b) = fine (if b then Both else No)
trim at (string s) = trim_found at (trim_named s)
trim at null = wrong at null No
trim at (number n) = wrong at (number n) No
trim at (array ds) = wrong at (array ds) No
trim at (object ms) = wrong at (object ms) No

abbrev pub is_utf8_name : List ℕ → Bool
is_utf8_name s = bytes_eq (map to_ascii_lowercase s) (codes "utf-8")

-- the one supported encoding
abbrev pub encoding : List ℕ → Data → Read ⊤
encoding at d = on_kind at d tt (as_str d) (λ s. if is_utf8_name s then fine tt else faulty NotSupported at tt)

abbrev pub neither : LineTerminators
neither = record { crlf = false; lf = false }

-- CR LF or LF
abbrev pub terminator : List ℕ → Data → Read LineTerminators
terminator at d =
    on_kind at d neither (as_str d) (λ s.
    if bytes_eq s (13 ∷ 10 ∷ []) then fine (record { crlf = true; lf = false })
    else (if bytes_eq s (10 ∷ []) then fine (record { crlf = false; lf = true }) else faulty NotSupported at neither))

-- all terminators of a list in one
abbrev pub joined : List LineTerminators → LineTerminators
joined ts = record { crlf = list_any (λ t. t.crlf) ts; lf = list_any (λ t. t.lf) ts }

abbrev pub terminators : List ℕ → Data → Read LineTerminators
terminators at (string s) = terminator at (string s)
terminators at (array ds) =
    over neither (each terminator at 0 ds) (λ ts. if length ts == 0 then faulty BadDialect at neither else fine (joined ts))
terminators at null = wrong at null neither
terminators at (boolean b) = wrong at (boolean b) neither
terminators at (number n) = wrong at (number n) neither
terminators at (object ms) = wrong at (object ms) neither

-- If headerRowCount is given, it decides alone.
abbrev pub header_rows : Bool → Option ℕ → ℕ
header_rows header (Some n) = n
header_rows header None = if header then 1 else 0

-- If trim is missing, skipInitialSpace strips the start.
abbrev pub trim_of : Option Trim → Bool → Trim
trim_of (Some t) skip = t
trim_of None skip = if skip then Start else No

-- If trim is given, this is false.
abbrev pub skips_spaces : Option Trim → Bool → Bool
skips_spaces t skip = is_none t && skip

abbrev pub is_quote : Option ℕ → ℕ → Bool
is_quote None c = false
is_quote (Some quote) c = quote == c

-- which symbols of a dialect could be read
pub record Symbols : Type 0 where
  pub delimiter : Bool
  pub quote : Bool
  pub double : Bool

abbrev pub all_symbols : Symbols
all_symbols = record { delimiter = true; quote = true; double = true }

-- The delimiter equals the quote, or one of them is a backslash that escapes. Each clash is reported if its symbols could be read.
abbrev pub clashes : Symbols → ℕ → Option ℕ → Bool → Bool
clashes known delimiter quote double =
    (known.delimiter && (known.quote && is_quote quote delimiter))
    || ((known.double && not double) && ((known.quote && is_quote quote 92) || (known.delimiter && (delimiter == 92))))

abbrev pub symbols : List MetaFault → List ℕ → Symbols
symbols faults at = record {
  delimiter = could_read faults (below at (codes "delimiter"));
  quote = could_read faults (below at (codes "quoteChar"));
  double = could_read faults (below at (codes "doubleQuote"));
}

-- what separates cells, what encloses quoted cells, and whether a quote in them is doubled
unfoldable pub cell_symbols : List ℕ → Data → Read CellSymbols
cell_symbols at d = do
  delimiter ← property (mark NotSupported) 44 at d (codes "delimiter")
  quote_char ← property (or_null (mark BadProperty)) (Some 34) at d (codes "quoteChar")
  double_quote ← property truth true at d (codes "doubleQuote")
  fine (record { delimiter = delimiter; quote_char = quote_char; double_quote = double_quote })

-- the number of header rows, and the rows and columns that are skipped
unfoldable pub header_and_skips : List ℕ → Data → Read HeaderAndSkips
header_and_skips at d = do
  header ← property truth true at d (codes "header")
  count ← optional (whole MAX_HEADER_ROWS) at d (codes "headerRowCount")
  skip_rows ← property any_whole 0 at d (codes "skipRows")
  skip_columns ← property (whole MAX_SKIPPED_COLUMNS) 0 at d (codes "skipColumns")
  skip_blank_rows ← property truth false at d (codes "skipBlankRows")
  fine (record {
    header_row_count = header_rows header count;
    skip_rows = skip_rows;
    skip_columns = skip_columns;
    skip_blank_rows = skip_blank_rows;
  })

-- the properties of a dialect, each read by itself
unfoldable pub dialect_parts : List ℕ → Data → Read Dialect
dialect_parts at d = do
  symbols ← cell_symbols at d
  comment_prefix ← property (or_null comment_prefix) (Some (codes "#")) at d (codes "commentPrefix")
  skips ← header_and_skips at d
  skip_initial_space ← property truth false at d (codes "skipInitialSpace")
  trim ← optional trim at d (codes "trim")
  line_terminators ← property terminators (record { crlf = true; lf = true }) at d (codes "lineTerminators")
  encoding ← property encoding tt at d (codes "encoding")
  fine (record {
    delimiter = symbols.delimiter;
    quote_char = symbols.quote_char;
    double_quote = symbols.double_quote;
    comment_prefix = comment_prefix;
    header_row_count = skips.header_row_count;
    skip_rows = skips.skip_rows;
    skip_columns = skips.skip_columns;
    skip_blank_rows = skips.skip_blank_rows;
    skip_initial_space = skips_spaces trim skip_initial_space;
    trim = trim_of trim skip_initial_space;
    line_terminators = line_terminators;
  })

abbrev pub dialect_faults : List ℕ → List MetaFault → Dialect → List MetaFault
dialect_faults at faults d =
    if clashes (symbols faults at) d.delimiter d.quote_char d.double_quote then record { code = BadDialect; pointer = at } ∷ [] else []

abbrev pub lawful_dialect : List ℕ → Data → Read Dialect
lawful_dialect at d = also (dialect_parts at d) (dialect_faults at)

unfoldable pub dialect_of : Context → ℕ → List ℕ → Data → Read DialectFound
dialect_of context table at d = do
  name ← optional (id context.base) at d (codes "@id")
  type ← optional (fixed (codes "Dialect")) at d (codes "@type")
  dialect ← lawful_dialect at d
  warnings ← unlisted context.base context.language (dialect_names ++ []) (place_of table 0) at d
  fine (record { dialect = dialect; warnings = warnings })

abbrev pub no_dialect : DialectFound
no_dialect = record {
  dialect = record {
    delimiter = 44;
    quote_char = None;
    double_quote = true;
    comment_prefix = None;
    header_row_count = 0;
    skip_rows = 0;
    skip_columns = 0;
    skip_blank_rows = false;
    skip_initial_space = false;
    trim = No;
    line_terminators = neither;
  };
  warnings = [];
}

-- the dialect of a table, or of the group if the number is 0
abbrev pub dialect : Context → ℕ → List ℕ → Data → Read DialectFound
dialect context table at d = on_linked_object at d no_dialect (dialect_of context table at d)
