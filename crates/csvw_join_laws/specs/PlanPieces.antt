-- The pieces of a plan as pieces of annotated tables: `parts_of`, `ArePiecesOfTables` (Model for Tabular Data, sections 4.1 to 4.5 and 8).
use Rattle.std.specs.Prelude.{◌≡◌, ◌⊎◌, ℕ, zero, suc, ◌+◌, ◌-◌, ◌<◌, ◌≤◌, ◌==◌, List, [], ◌∷◌, find, filter, flat_map, length, map, drop, take, slice_get, Option, Some, None}
use Rattle.std.specs.List.{All, zip}
use Rattle.std.specs.Option.{option_to_list}
use Rattle.csvw_streams.specs.Counted.{inner_of}
use Rattle.csvw_records.specs.Files.{Body, remaining}
use Rattle.csvw_records.specs.Files.{Row as FileRow}
use Rattle.csvw_records.specs.Lawful.{IsLawful}
use Rattle.csvw_records.specs.declared.dialect.Dialect.{Dialect}
use Rattle.csvw_part_laws.specs.Parts.{AreWholeRows}
use Rattle.csvw_annotate.specs.declared.row.Row.{Row}
use Rattle.csvw_columns.specs.declared.plan.Plan.{Plan}
use Rattle.csvw_columns.specs.declared.plan.TablePlan.{TablePlan}
use Rattle.csvw_engine_core.specs.Annotated.{IsHead, IsTable, data_rows, header_count}
use Rattle.csvw_engine_core.specs.Annotated.{AreAnnotated as RowsAreAnnotated}
use Rattle.csvw_group_laws.specs.Annotated.{AreAnnotated, Table}
use Rattle.csvw_part_plan.specs.Plans.{TileFront, is_later, part_count}
use Rattle.csvw_part_plan.specs.declared.piece.Piece.{Piece}
use Rattle.csvw_split.specs.Split.{AreCuts, AreWholeFiles, HaveFronts}
use Rattle.csvw_split.specs.declared.splitting.TableFile.{TableFile}
use Rattle.csvw_join_laws.specs.Joining.{AreCutInto, Planned, TablePiece, pieces_of}

-- the rows of a table from the piece's count of data rows on, up to that of its next piece, or to the end
abbrev pub rows_up_to : Piece → Option Piece → List Row → List Row
rows_up_to p None rows = drop p.data_rows_before rows
rows_up_to p (Some next) rows = take (next.data_rows_before - p.data_rows_before) (drop p.data_rows_before rows)

-- the rows of a piece among the rows of its table
abbrev pub rows_of_piece : List Piece → Piece → List Row → List Row
rows_of_piece pieces p rows = rows_up_to p (find (is_later p) pieces) rows

-- a piece with its rows of a table
abbrev pub piece_in : List Piece → Piece → Planned → TablePiece
piece_in pieces p t = record { plan = t.0; columns = t.1.columns; rows = rows_of_piece pieces p t.1.rows }

-- a piece with its rows of its table, if there is this table
abbrev pub table_pieces : List Planned → List Piece → Piece → List TablePiece
table_pieces planned pieces p = map (piece_in pieces p) (option_to_list (slice_get planned (p.table - 1)))

-- the pieces of the part of a number
abbrev pub part_pieces : List Planned → List Piece → ℕ → List TablePiece
part_pieces planned pieces k = flat_map (table_pieces planned pieces) (filter (λ p. p.part == k) pieces)

-- so many parts with numbers from k on
abbrev pub parts_from : List Planned → List Piece → ℕ → ℕ → List (List TablePiece)
parts_from planned pieces k zero = []
parts_from planned pieces k (suc n) = part_pieces planned pieces k ∷ parts_from planned pieces (suc k) n

-- all parts of a plan
abbrev pub parts_of : List Planned → List Piece → List (List TablePiece)
parts_of planned pieces = parts_from planned pieces 1 (part_count pieces)

-- no bytes, or whole rows
abbrev pub AreRowsOf : Dialect → List ℕ → List FileRow → Type 0
AreRowsOf d bytes rows = ((bytes ≡ []) × (rows ≡ [])) ⊎ AreWholeRows d bytes rows

-- The bytes before a later piece are the text of a table: the columns of the whole and the faults of its header, and the first of its rows.
-- The header bytes make these columns and faults known.
pub record IsTableBefore (plan : TablePlan) (table : Table) (text : List ℕ) (p : Piece) : Type 0 where
  pub front : List FileRow
  pub whole : AreWholeRows plan.dialect (take p.first_byte text) front
  pub rows : p.rows_before ≡ length front
  pub data_rows_are : header_count plan + p.data_rows_before ≡ length (remaining plan.dialect 1 front)
  pub annotated : IsTable plan (Body plan.dialect front) (Some table.columns) table.header_faults (take p.data_rows_before table.rows)
  pub header_front : List FileRow
  pub header_whole : AreWholeRows plan.dialect (take p.header_bytes text) header_front
  pub header_before : p.header_bytes ≤ p.first_byte
  pub head : IsHead plan (Body plan.dialect header_front) (Some table.columns) table.header_faults

-- The bytes before a piece are whole rows, or none, in the numbers of the piece. Their data rows are the first rows of its table.
pub record HasRowsBefore (plans : List TablePlan) (texts : ℕ → List ℕ) (tables : List Table) (p : Piece) : Type 0 where
  pub plan : TablePlan
  pub table : Table
  pub plan_is : slice_get plans (p.table - 1) ≡ Some plan
  pub table_is : slice_get tables (p.table - 1) ≡ Some table
  pub front : List FileRow
  pub are_rows : AreRowsOf plan.dialect (take p.first_byte (texts (p.table - 1))) front
  pub rows : p.rows_before ≡ length front
  pub annotated : RowsAreAnnotated table.columns (data_rows plan (Body plan.dialect front)) (take p.data_rows_before table.rows)
  pub later : 0 < p.first_byte → IsTableBefore plan table (texts (p.table - 1)) p

-- The pieces of all parts are those of the tables, in order. Each begins after its numbers of rows.
pub record ArePiecesOfTables (plan : Plan) (texts : ℕ → List ℕ) (tables : List Table) (pieces : List Piece) : Type 0 where
  pub cut_into : AreCutInto (zip plan.tables tables) (pieces_of (parts_of (zip plan.tables tables) pieces))
  pub places : All (HasRowsBefore plan.tables texts tables) pieces

-- the pieces are as `split` returns them for these files
pub record AreOfSplit {R : Type 0} (known : R → Option (List ℕ)) (plans : List TablePlan) (files : List (TableFile R)) (pieces : List Piece)
    : Type 0 where
  pub cuts : AreCuts known plans files pieces
  pub fronts : HaveFronts known plans files pieces
  pub whole : AreWholeFiles known plans files pieces
  pub tile : TileFront pieces

-- the readers of the files give these texts
abbrev pub GiveTexts : {R : Type 0} → (R → Option (List ℕ)) → List (TableFile R) → (ℕ → List ℕ) → Type 0
GiveTexts {R} known files texts = (i : ℕ) (file : TableFile R) → slice_get files i ≡ Some file → known (inner_of file.reader) ≡ Some (texts i)

abbrev pub AreLawful : List TablePlan → Type 0
AreLawful plans = (i : ℕ) (plan : TablePlan) → slice_get plans i ≡ Some plan → IsLawful plan.dialect

-- the pieces of a plan that `split` returns are those of the annotated tables
abbrev pub CutsArePieces : {R : Type 0} → (R → Option (List ℕ)) → Type 0
CutsArePieces {R} known =
    (plan : Plan) (files : List (TableFile R)) (texts : ℕ → List ℕ) (tables : List Table) (pieces : List Piece)
    → AreOfSplit known plan.tables files pieces → GiveTexts known files texts → AreLawful plan.tables
    → AreAnnotated plan.tables texts tables → ArePiecesOfTables plan texts tables pieces
