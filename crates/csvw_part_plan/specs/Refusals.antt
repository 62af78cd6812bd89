-- The first line of a text that is wrong in a plan: `IsRefused`.
use Rattle.std.specs.Prelude.{◌≡◌, ◌≢◌, ◌⊎◌, ℕ, ◌+◌, List, [], ◌++◌, length, flat_map, Some}
use Rattle.std.specs.List.{All}
use Rattle.csvw_part_plan.specs.declared.piece.Piece.{Piece}
use Rattle.csvw_part_plan.specs.declared.fault.LineFault.{LineFault}
use Rattle.csvw_part_plan.specs.declared.fault.LineFault.TheVariants.{Heading, NoPiece, Numbers}
use Rattle.csvw_part_plan.specs.declared.fault.PlanFault.{PlanFault}
use Rattle.csvw_part_plan.specs.declared.fault.PlanFault.TheVariants.{Memory, Line}
use Rattle.csvw_part_plan.specs.Order.{fault_after}
use Rattle.csvw_part_plan.specs.Plans.{Fits, IsPlan, TileFront, heading, line}

-- the text doesn't begin with the heading
abbrev pub HasNoHeading : List ℕ → Type 0
HasNoHeading text = (rest : List ℕ) → text ≡ heading ++ rest → ⊥

-- the lines of these pieces are right, and this text follows them
pub record Reaches (text : List ℕ) (line_number : ℕ) (before : List Piece) (rest : List ℕ) : Type 0 where
  pub is_text : text ≡ heading ++ flat_map line before ++ rest
  pub fit : All Fits before
  pub tile : TileFront before
  pub at : line_number ≡ length before + 2

-- no piece has its line at the front of the text, which isn't empty
pub record HasNoPiece (text : List ℕ) : Type 0 where
  pub some : text ≢ []
  pub none : (p : Piece) (rest : List ℕ) → Fits p → text ≡ line p ++ rest → ⊥

-- a piece is next, and breaks this rule
pub record HasWrongPiece (before : List Piece) (text : List ℕ) (fault : LineFault) : Type 0 where
  pub piece : Piece
  pub rest : List ℕ
  pub fits : Fits piece
  pub is_next : text ≡ line piece ++ rest
  pub breaks : fault_after before piece ≡ Some fault

-- what follows the lines of these pieces is wrong: there is no piece at all, no line of a piece, or a piece that breaks a rule
abbrev pub IsWrongThere : List Piece → List ℕ → LineFault → Type 0
IsWrongThere before text fault = ((fault ≡ NoPiece) × (before ≡ []) × (text ≡ [])) ⊎ ((fault ≡ Numbers) × HasNoPiece text) ⊎ HasWrongPiece before text fault

-- the first line that is wrong, from 1, and the rule that it breaks
abbrev pub IsFaultAt : List ℕ → ℕ → LineFault → Type 0
IsFaultAt text at fault =
    ((fault ≡ Heading) × (at ≡ 1) × HasNoHeading text)
    ⊎ ((before : List Piece) × (rest : List ℕ) × Reaches text at before rest × IsWrongThere before rest fault)

-- of `Memory` nothing is said
abbrev pub IsRefused : List ℕ → PlanFault → Type 0
IsRefused text Memory = Unit {0}
IsRefused text (Line at fault) = IsFaultAt text at fault

-- a text that is refused is the plan of no pieces
abbrev pub NoPlan : Type 0
NoPlan = (text : List ℕ) (at : ℕ) (fault : LineFault) (pieces : List Piece) → IsFaultAt text at fault → All Fits pieces → IsPlan text pieces → ⊥

-- the fault of the line after those of some pieces
abbrev pub at_line : List Piece → LineFault → PlanFault
at_line before fault = Line (length before + 2) fault
