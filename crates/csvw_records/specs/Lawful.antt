-- The dialects by which texts can be read, and the defaults: `IsLawful`, `default_dialect` (Metadata Vocabulary for Tabular Data,
-- section 5.9).
use Rattle.std.specs.Prelude.{◌≡◌, ◌≢◌, ℕ, ◌==◌, ◌||◌, ◌&&◌, not, Bool, true, false, List, [], ◌∷◌, Option, Some, None, option_map, chars}
use Rattle.std.specs.List.{list_any}
use Rattle.csvw_records.specs.declared.dialect.Dialect.{Dialect}
use Rattle.csvw_records.specs.declared.dialect.Trim.TheVariants.{No}

-- the characters of the comment prefix
abbrev pub prefix_of : Dialect → Option (List ℕ)
prefix_of d = option_map chars d.comment_prefix

-- the text contains CR or LF
abbrev pub has_break : List ℕ → Bool
has_break text = list_any (λ c. (c == 13) || (c == 10)) text

abbrev pub prefix_breaks : Option (List ℕ) → Bool
prefix_breaks None = false
prefix_breaks (Some prefix) = has_break prefix

-- Texts can be read by the dialect. The delimiter, the quote and the comment prefix contain no CR or LF. The delimiter isn't the quote. Neither is a
-- backslash if quotes aren't doubled. There is some line terminator.
pub record IsLawful (d : Dialect) : Type 0 where
  pub delimiter_cr : d.delimiter ≢ 13
  pub delimiter_lf : d.delimiter ≢ 10
  pub quote_cr : d.quote_char ≢ Some 13
  pub quote_lf : d.quote_char ≢ Some 10
  pub prefix : prefix_breaks (prefix_of d) ≡ false
  pub apart : d.quote_char ≢ Some d.delimiter
  pub delimiter_escape : d.double_quote ≡ false → d.delimiter ≢ 92
  pub quote_escape : d.double_quote ≡ false → d.quote_char ≢ Some 92
  pub terminators : (d.line_terminators.crlf || d.line_terminators.lf) ≡ true

-- the same as tests
abbrev pub delimiter_breaks : Dialect → Bool
delimiter_breaks d = ((d.delimiter == 13) || (d.delimiter == 10)) || (not d.double_quote && (d.delimiter == 92))

abbrev pub quote_breaks : ℕ → Bool → Option ℕ → Bool
quote_breaks delimiter double None = false
quote_breaks delimiter double (Some q) = ((q == 13) || (q == 10)) || (q == delimiter) || (not double && (q == 92))

-- the defaults
abbrev pub default_dialect : Dialect
default_dialect = record {
  delimiter = 44;
  quote_char = Some 34;
  double_quote = true;
  comment_prefix = Some (35 ∷ []);
  header_row_count = 1;
  skip_rows = 0;
  skip_columns = 0;
  skip_blank_rows = false;
  skip_initial_space = false;
  trim = No;
  line_terminators = record { crlf = true; lf = true };
}
