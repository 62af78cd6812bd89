-- A header row or a data row, as a value: `Given`.
use Rattle.std.specs.Prelude.{ℕ, List}

-- A header row or a data row: the texts of its fields as UTF-8 bytes, its source number, and its row number, which is 0 for a header row.
pub record Given : Type 0 where
  pub fields : List (List ℕ)
  pub source : ℕ
  pub number : ℕ
