-- The row at the start of the characters that are in no row yet.
use Rattle.std.specs.Prelude.{◌≡◌, ◌≢◌, ◌⊎◌, ℕ, ◌+◌, ◌<◌, ◌≤◌, Bool, true, false, List, length, take, drop, Option, Some, None, slice_index, chars}
use Rattle.csvw_records.specs.declared.dialect.Dialect.{Dialect}
use Rattle.csvw_records.specs.declared.stop.RowStop.{RowStop}
use Rattle.csvw_records.specs.Lawful.{prefix_of}
use Rattle.csvw_records.specs.Lengths.{byte_len}
use Rattle.csvw_records.specs.NextRow.{next_row}
use Rattle.csvw_records.specs.PartOfRow.{Breaks}
use Rattle.csvw_records.specs.Stops.{IsBroken}

-- both texts begin with the same so many characters
pub record IsCommon (prefix text : List ℕ) (len : ℕ) : Type 0 where
  pub in_prefix : len ≤ length prefix
  pub in_text : len ≤ length text
  pub same : take len prefix ≡ take len text
  pub most : len < length prefix → len < length text → slice_index prefix len ≢ slice_index text len

abbrev pub IsPrefixLen : Option (List ℕ) → List ℕ → ℕ → Type 0
IsPrefixLen None text len = len ≡ 0
IsPrefixLen (Some prefix) text len = IsCommon prefix text len

-- a CR that may begin a terminator is there
abbrev pub IsCr : Dialect → List ℕ → ℕ → Type 0
IsCr d text at = (d.line_terminators.crlf ≡ true) × (slice_index text at ≡ 13)

-- the last character that must be known to judge a place: the next one if the character is a CR
abbrev pub IsShownAt : Dialect → List ℕ → ℕ → ℕ → Type 0
IsShownAt d text at here = ((here ≡ at + 1) × IsCr d text at) ⊎ ((here ≡ at) × (IsCr d text at → ⊥))

-- The number of characters that show that a rule is broken at a place: those up to that character, or to the next if it is a CR, and those that show that the
-- row is not a comment.
pub record IsShown (d : Dialect) (text : List ℕ) (at len : ℕ) : Type 0 where
  pub here : ℕ
  pub common : ℕ
  pub is_here : IsShownAt d text at here
  pub is_common : IsPrefixLen (prefix_of d) text common
  pub within : len ≤ length text
  pub past_here : (here < len) ⊎ (len ≡ length text)
  pub past_common : (common < len) ⊎ (len ≡ length text)
  pub least : (len ≤ here + 1) ⊎ (len ≤ common + 1)

-- so many bytes of the text show that a rule is broken at a byte of it
pub record IsShownLen (d : Dialect) (rest : List ℕ) (at len : ℕ) : Type 0 where
  pub count : ℕ
  pub shown : IsShown d (chars rest) (length (chars (take at rest))) count
  pub bytes : byte_len (take count (chars rest)) ≡ len

-- a row of so many characters is found
pub record IsFound (whole : Bool) (d : Dialect) (i : ℕ) (text : List ℕ) (len : ℕ) (fields : Option (List (List ℕ))) : Type 0 where
  pub within : len ≤ length text
  pub found : next_row whole d i text ≡ Some (fields, drop len text)

-- a rule is broken, and so many characters show it, and no fewer
pub record IsWrong (whole : Bool) (d : Dialect) (i : ℕ) (text : List ℕ) (len : ℕ) (stop : RowStop) : Type 0 where
  pub within : len ≤ length text
  pub stands : Breaks d i (take len text) stop ⊎ ((whole ≡ true) × (len ≡ length text))
  pub first : (k : ℕ) (other : RowStop) → k ≤ length text → Breaks d i (take k text) other → (len ≤ k) × (other ≡ stop)
  pub no_row : (next_row whole d i text ≡ None) × (next_row false d i text ≡ None)
  pub is_broken : whole ≡ true → IsBroken d i text true stop
