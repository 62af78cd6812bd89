-- Laws of the rows at the start of bytes, and of all bytes that begin with the same start.
use Rattle.std.specs.Prelude.{◌≡◌, ◌⊎◌, ℕ, Bool, List, ◌++◌}
use Rattle.csvw_records.specs.declared.dialect.Dialect.{Dialect}
use Rattle.csvw_records.specs.Lawful.{IsLawful}
use Rattle.csvw_records.specs.Files.{Row, AreRows, AreAllRows, EndsOpen, Front, KeepsLimits, content}

-- these rows begin those
abbrev pub Begun : List Row → List Row → Type 0
Begun rows front = (more : List Row) × (front ≡ rows ++ more)

pub record FrontLaws : Type 0 where
  -- rows that are in a text, or are all of it, begin the rows that it is
  pub by_file : (d : Dialect) (text : List ℕ) (rows front : List Row) (rest : List ℕ) → IsLawful d → AreRows d 0 text rows rest ⊎ EndsOpen d text rows
      → AreAllRows d text front → Begun rows front
  -- they begin the front
  pub begins_front_of : (d : Dialect) (max : ℕ) (bytes : List ℕ) (ended : Bool) (rows front : List Row) (rest : List ℕ) → IsLawful d → KeepsLimits max rows
      → AreRows d 0 (content bytes) rows rest → Front d max bytes ended front → Begun rows front
  -- they are in all bytes that begin with these bytes, and begin the front of them
  pub rows_later : (d : Dialect) (bytes more : List ℕ) (rows : List Row) (rest : List ℕ) → AreRows d 0 (content bytes) rows rest
      → (after : List ℕ) × AreRows d 0 (content (bytes ++ more)) rows after
  pub begins_later_front : (d : Dialect) (max : ℕ) (bytes more : List ℕ) (ended : Bool) (rows later : List Row) (rest : List ℕ) → IsLawful d
      → KeepsLimits max rows → AreRows d 0 (content bytes) rows rest
      → Front d max (bytes ++ more) ended later → Begun rows later
