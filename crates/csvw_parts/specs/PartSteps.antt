-- The pieces of a part, one after the other: `AddsPieces`.
use Rattle.std.specs.Prelude.{◌≡◌, ◌<◌, ◌-◌, ℕ, zero, suc, List, [], ◌∷◌, ◌++◌, find, map, slice_get, Option, Some}
use Rattle.csvw_streams.specs.declared.counted.Counted.{Counted}
use Rattle.csvw_part_plan.specs.Plans.{is_later}
use Rattle.csvw_part_plan.specs.declared.piece.Piece.{Piece}
use Rattle.csvw_fault.specs.declared.fault.Fault.{Fault}
use Rattle.csvw_columns.specs.declared.plan.TablePlan.{TablePlan}
use Rattle.csvw_keys.specs.KeyRules.{rules_of}
use Rattle.csvw_keys.specs.declared.key_book.KeyBook.{KeyBook}
use Rattle.csvw_parts.specs.Fronts.{Opens}
use Rattle.csvw_parts.specs.Outlets.{Kept, Outs, kept}
use Rattle.csvw_parts.specs.PartRows.{Found, ReadsPiece}
use Rattle.csvw_parts.specs.declared.run.PartRequest.{PartRequest}

-- how far a part has come
pub record Reached (O S W : Type 0) : Type 0 where
  pub opener : O
  pub has : Kept S W
  pub faults : List Fault

abbrev pub reached : {O S W : Type 0} → O → S → KeyBook → Option (Counted W) → List Fault → Reached O S W
reached opener sink book records faults = record { opener = opener; has = kept sink book records; faults = faults }

-- the plan of a piece's table, and its file
pub record IsTableOf (request : PartRequest) (piece : Piece) (plan : TablePlan) (file : List ℕ) : Type 0 where
  pub from_one : 0 < piece.table
  pub plan_is : slice_get request.plan.now.tables (piece.table - 1) ≡ Some plan
  pub file_is : slice_get (map (λ f. f.now) request.files.now) (piece.table - 1) ≡ Some file

-- the faults of the header, if a table begins with a piece that begins at a byte
abbrev pub begun_faults : ℕ → List Fault → List Fault
begun_faults zero header = header
begun_faults (suc byte) header = []

-- A piece was read, and its faults were added.
pub record AddsPiece {O R S W : Type 0} (opener : Opens O R) (out : Outs S W) (request : PartRequest) (piece : Piece) (before after : Reached O S W)
    : Type 0 where
  pub plan : TablePlan
  pub file : List ℕ
  pub is_table : IsTableOf request piece plan file
  pub found : Found
  pub reads : ReadsPiece opener out (rules_of request.plan.now) plan request.mode file piece (find (is_later piece) request.pieces.now) found
      before.opener after.opener before.has after.has
  pub faults : after.faults ≡ (before.faults ++ begun_faults piece.first_byte found.header) ++ found.cells

-- the first of some pieces was read, and the rest follows
pub record AddsFirst {O R S W : Type 0} (opener : Opens O R) (out : Outs S W) (request : PartRequest) (piece : Piece) (before : Reached O S W)
    (Rest : Reached O S W → Type 0) : Type 0 where
  pub between : Reached O S W
  pub first : AddsPiece opener out request piece before between
  pub rest : Rest between

-- these pieces were read, one after the other
abbrev pub AddsPieces : {O R S W : Type 0} → Opens O R → Outs S W → PartRequest → List Piece → Reached O S W → Reached O S W → Type 0
AddsPieces opener out request [] before after = after ≡ before
AddsPieces opener out request (piece ∷ pieces) before after =
    AddsFirst opener out request piece before (λ between. AddsPieces opener out request pieces between after)
