-- The places of a file where pieces begin: `IsCut`, `Cuts`, `IsCutUp`.
use Rattle.std.specs.Prelude.{◌≡◌, ◌≤◌, ◌-◌, ℕ, List, length, take, Option, Some, None, IfSome}
use Rattle.std.specs.List.{All}
use Rattle.csvw_records.specs.declared.dialect.Dialect.{Dialect}
use Rattle.csvw_columns.specs.declared.plan.TablePlan.{TablePlan}
use Rattle.csvw_split.specs.declared.cuts.Cut.{Cut}
use Rattle.csvw_split.specs.declared.cuts.FileCuts.{FileCuts}
use Rattle.csvw_split.specs.declared.cuts.WholeCuts.{WholeCuts}
use Rattle.csvw_split.specs.FileState.{Follows, HasRows}
use Rattle.csvw_split.specs.Front.{HasFront, IsFront, front_rows}

-- the start of a file
abbrev pub start : Cut
start = record { first_byte = 0; rows_before = 0; data_rows_before = 0 }

-- a row ends here, and the counts are those of the rows before it
pub record IsCut (d : Dialect) (text : List ℕ) (c : Cut) : Type 0 where
  pub within : c.first_byte ≤ length text
  pub rows : HasRows d (take c.first_byte text) c.rows_before c.data_rows_before

-- the bytes that the file is to have after those that were read
abbrev pub left_of : FileCuts → ℕ
left_of s = s.length - s.bytes

-- the front was read before this cut
abbrev pub IsAfterFront : Option ℕ → Cut → Type 0
IsAfterFront None c = ⊥
IsAfterFront (Some front) c = front ≤ c.first_byte

-- these bytes of the file were read, and cut at ends of rows after the front that makes the columns known
pub record Cuts (s : FileCuts) (t : TablePlan) (text : List ℕ) : Type 0 where
  pub follows : Follows s.file t.dialect text
  pub bytes : s.bytes ≡ length text
  pub skipped : s.wanted.skip_rows ≡ t.dialect.skip_rows
  pub needed : s.wanted.front_rows ≡ front_rows t
  pub front : IfSome s.header_bytes (IsFront t text)
  pub cuts : All (IsCut t.dialect text) s.cuts
  pub after_front : All (IsAfterFront s.header_bytes) s.cuts

-- the whole file was cut at ends of rows after the front that makes the columns known
pub record IsCutUp (t : TablePlan) (text : List ℕ) (whole : WholeCuts) : Type 0 where
  pub length_is : whole.length ≡ length text
  pub cuts : All (IsCut t.dialect text) whole.cuts
  pub fronts : All (λ (c : Cut). HasFront t text whole.header_bytes c.first_byte) whole.cuts
