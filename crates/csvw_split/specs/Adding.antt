-- The pieces of one file, added to those of the files before it: `Pushes`, `Adds`, `AddsFile`.
use Rattle.std.specs.Prelude.{◌≡◌, ◌-◌, ℕ, List, [], ◌∷◌, ◌++◌, Option, IfSome}
use Rattle.std.specs.List.{All}
use Rattle.csvw_columns.specs.declared.plan.TablePlan.{TablePlan}
use Rattle.csvw_part_plan.specs.declared.piece.Piece.{Piece}
use Rattle.csvw_split.specs.declared.cuts.Cut.{Cut}
use Rattle.csvw_split.specs.declared.cuts.WholeCuts.{WholeCuts}
use Rattle.csvw_split.specs.Cuts.{IsCutUp}
use Rattle.csvw_split.specs.Split.{EndsFile, HasFrontOf, IsPieceOf, cut_of}

-- one piece more, of this table, from one place to another
pub record Pushes (table : ℕ) (c : Cut) (end header_bytes : ℕ) (before after : List Piece) : Type 0 where
  pub piece : Piece
  pub all : after ≡ before ++ piece ∷ []
  pub table_is : piece.table ≡ table
  pub place : cut_of piece ≡ c
  pub bytes : piece.bytes ≡ end - c.first_byte
  pub header : piece.header_bytes ≡ header_bytes

-- some pieces more, all of this table
pub record Adds (t : TablePlan) (known : Option (List ℕ)) (before after : List Piece) : Type 0 where
  pub more : List Piece
  pub all : after ≡ before ++ more
  pub pieces : All (IsPieceOf t.number t.dialect known) more
  pub fronts : All (HasFrontOf t known) more

-- all pieces of this table
pub record AddsFile (t : TablePlan) (known : Option (List ℕ)) (before after : List Piece) : Type 0 where
  pub adds : Adds t known before after
  pub ends : EndsFile t.number known after

-- the cuts of a whole file, if its bytes are known
abbrev pub AreCutsOf : TablePlan → Option (List ℕ) → WholeCuts → Type 0
AreCutsOf t known whole = IfSome known (λ text. IsCutUp t text whole)
