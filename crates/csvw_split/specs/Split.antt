-- The pieces of the files of tables: `IsPiece`, `AreCuts`, `HaveFronts`, `AreWholeFiles`. A piece begins at the start of a file, or where
-- a row ends.
use Rattle.std.specs.Prelude.{◌≡◌, ◌⊎◌, ◌<◌, ◌+◌, ℕ, List, length, Option, Some, IfSome, slice_get}
use Rattle.std.specs.List.{All}
use Rattle.csvw_streams.specs.Counted.{inner_of}
use Rattle.csvw_records.specs.declared.dialect.Dialect.{Dialect}
use Rattle.csvw_columns.specs.declared.plan.TablePlan.{TablePlan}
use Rattle.csvw_part_plan.specs.declared.piece.Piece.{Piece}
use Rattle.csvw_part_plan.specs.Plans.{TileFront, Tiles, last_of}
use Rattle.csvw_split.specs.declared.cuts.Cut.{Cut}
use Rattle.csvw_split.specs.declared.splitting.TableFile.{TableFile}
use Rattle.csvw_split.specs.Cuts.{IsCut, start}
use Rattle.csvw_split.specs.Front.{HasFront}

-- the place where a piece begins, with its counts
abbrev pub cut_of : Piece → Cut
cut_of p = record { first_byte = p.first_byte; rows_before = p.rows_before; data_rows_before = p.data_rows_before }

-- the start of the file, or a place where a row ends, with the counts of the rows before it
abbrev pub IsPlace : Dialect → List ℕ → Cut → Type 0
IsPlace d text c = (c ≡ start) ⊎ IsCut d text c

abbrev pub IsPiece : Dialect → List ℕ → Piece → Type 0
IsPiece d text p = IsPlace d text (cut_of p)

-- a piece of this table, if the bytes of its file are known
abbrev pub IsPieceOf : ℕ → Dialect → Option (List ℕ) → Piece → Type 0
IsPieceOf table d known p = (p.table ≡ table) × IfSome known (λ text. IsPiece d text p)

-- the front that makes the columns known is before this piece, if it isn't the first one of its table and the bytes of the file are known
abbrev pub HasFrontOf : TablePlan → Option (List ℕ) → Piece → Type 0
HasFrontOf t known p = IfSome known (λ text. 0 < p.first_byte → HasFront t text p.header_bytes p.first_byte)

-- the last piece of a table ends where its file ends, if the bytes of the file are known
pub record EndsFile (table : ℕ) (known : Option (List ℕ)) (pieces : List Piece) : Type 0 where
  pub last : Piece
  pub is_last : last_of table pieces ≡ Some last
  pub ends : IfSome known (λ text. last.first_byte + last.bytes ≡ length text)

-- a piece of one of the tables, whose file its reader has
pub record IsPieceOfSome {R : Type 0} (remaining : R → Option (List ℕ)) (tables : List TablePlan) (files : List (TableFile R)) (p : Piece) : Type 0 where
  pub i : ℕ
  pub plan : TablePlan
  pub file : TableFile R
  pub plan_is : slice_get tables i ≡ Some plan
  pub file_is : slice_get files i ≡ Some file
  pub piece : IsPieceOf plan.number plan.dialect (remaining (inner_of file.reader)) p

abbrev pub AreCuts : {R : Type 0} → (R → Option (List ℕ)) → List TablePlan → List (TableFile R) → List Piece → Type 0
AreCuts remaining tables files pieces = All (IsPieceOfSome remaining tables files) pieces

-- a piece with the front of its file
pub record HasFrontOfSome {R : Type 0} (remaining : R → Option (List ℕ)) (tables : List TablePlan) (files : List (TableFile R)) (p : Piece) : Type 0 where
  pub i : ℕ
  pub plan : TablePlan
  pub file : TableFile R
  pub plan_is : slice_get tables i ≡ Some plan
  pub file_is : slice_get files i ≡ Some file
  pub table : p.table ≡ plan.number
  pub front : HasFrontOf plan (remaining (inner_of file.reader)) p

abbrev pub HaveFronts : {R : Type 0} → (R → Option (List ℕ)) → List TablePlan → List (TableFile R) → List Piece → Type 0
HaveFronts remaining tables files pieces = All (HasFrontOfSome remaining tables files) pieces

-- there is one file for each table, the tables are numbered from 1, in order, and each file is in pieces to its end
pub record AreWholeFiles {R : Type 0} (remaining : R → Option (List ℕ)) (tables : List TablePlan) (files : List (TableFile R)) (pieces : List Piece)
    : Type 0 where
  pub one_each : length tables ≡ length files
  pub numbers : (i : ℕ) (plan : TablePlan) → slice_get tables i ≡ Some plan → plan.number ≡ i + 1
  pub ends : (i : ℕ) (file : TableFile R) → slice_get files i ≡ Some file → EndsFile (i + 1) (remaining (inner_of file.reader)) pieces

-- the pieces tile the files, if there is a table
abbrev pub TilesAll : List TablePlan → List Piece → Type 0
TilesAll tables pieces = TileFront pieces × (0 < length tables → Tiles pieces)
