-- The rows that come first in bytes, perhaps not all of them: `AreFirst` (RFC 4180, section 2).
use Rattle.std.specs.Prelude.{◌≡◌, ◌⊎◌, ℕ, Bool, IsTrue, List}
use Rattle.csvw_records.specs.declared.dialect.Dialect.{Dialect}
use Rattle.csvw_records.specs.Files.{Row, File, BeginsWithRows, Body, content}
use Rattle.csvw_records.specs.RowValue.{Given}

-- these rows come first: the bytes begin with them, each with its terminator, or are a file of them
abbrev pub ComeFirst : Dialect → ℕ → List ℕ → Bool → List Row → Type 0
ComeFirst d max bytes ended rows = BeginsWithRows d max (content bytes) rows ⊎ (IsTrue ended × File d max bytes rows)

-- these are the header rows and data rows of some rows that come first
pub record AreFirst (d : Dialect) (max : ℕ) (bytes : List ℕ) (ended : Bool) (given : List Given) : Type 0 where
  pub rows : List Row
  pub come : ComeFirst d max bytes ended rows
  pub all : given ≡ Body d rows
