-- The parts of a group of annotated tables, joined: `AreCutInto`, `PartsJoin` (csv2rdf, section 4.2; Model for Tabular Data, section 6.6).
use Rattle.std.specs.Prelude.{◌≡◌, List, [], ◌∷◌, ◌++◌, Some, flat_map}
use Rattle.std.specs.List.{All, zip}
use Rattle.std.specs.List.Sorted.{IsPermutation}
use Rattle.csvw_annotate.specs.declared.row.Row.{Row}
use Rattle.csvw_columns.specs.declared.plan.Plan.{Plan}
use Rattle.csvw_columns.specs.declared.plan.TablePlan.{TablePlan}
use Rattle.csvw_columns_core.specs.declared.columns.Columns.{Columns}
use Rattle.csvw_engine_core.specs.Faults.{table_faults}
use Rattle.csvw_engine_core.specs.Tables.{table_triples}
use Rattle.csvw_fault.specs.declared.fault.Fault.{Fault}
use Rattle.csvw_group_laws.specs.Annotated.{Table}
use Rattle.csvw_group_laws.specs.Violations.{rows_of, violations}
use Rattle.csvw_keys.specs.KeyRules.{key_faults, rules_of}
use Rattle.csvw_triples_core.specs.declared.mode.Mode.{Mode}
use Rattle.csvw_triples_core.specs.declared.term.Triple.{Triple}

-- a piece of an annotated table: some of its rows
pub record TablePiece : Type 0 where
  pub plan : TablePlan
  pub columns : Columns
  pub rows : List Row

abbrev pub piece_triples : Mode → TablePiece → List Triple
piece_triples m p = table_triples m p.plan.number (Some p.columns) p.rows

abbrev pub piece_faults : TablePiece → List Fault
piece_faults p = table_faults p.plan.number (Some p.columns) p.rows

-- a table with its plan
abbrev pub Planned : Type 0
Planned = TablePlan × Table

-- a whole table
abbrev pub whole : Planned → TablePiece
whole t = record { plan = t.0; columns = t.1.columns; rows = t.1.rows }

-- the pieces are of a table, and have its rows in order
pub record AreOf (t : Planned) (pieces : List TablePiece) : Type 0 where
  pub plans : All (λ p. p.plan ≡ t.0) pieces
  pub columns : All (λ p. p.columns ≡ t.1.columns) pieces
  pub rows : flat_map (λ p. p.rows) pieces ≡ t.1.rows

-- the first pieces are those of a table
pub record CutsFirst (t : Planned) (pieces : List TablePiece) (Rest : List TablePiece → Type 0) : Type 0 where
  pub own : List TablePiece
  pub others : List TablePiece
  pub parts : pieces ≡ own ++ others
  pub of_table : AreOf t own
  pub rest : Rest others

-- the tables are cut into these pieces, one table after the other
abbrev pub AreCutInto : List Planned → List TablePiece → Type 0
AreCutInto [] pieces = pieces ≡ []
AreCutInto (t ∷ tables) pieces = CutsFirst t pieces (λ others. AreCutInto tables others)

-- the pieces of all parts, part by part
abbrev pub pieces_of : List (List TablePiece) → List TablePiece
pieces_of parts = flat_map (λ part. part) parts

-- the triples of the rows of all parts are those of the tables, and the faults of their cells are those of the tables among all violations
pub record JoinedParts (plan : Plan) (tables : List Table) (parts : List (List TablePiece)) : Type 0 where
  pub triples : (m : Mode) → flat_map (flat_map (piece_triples m)) parts ≡ flat_map (λ t. piece_triples m (whole t)) (zip plan.tables tables)
  pub faults : IsPermutation (violations plan tables)
      (((plan.warnings ++ flat_map (λ t. t.1.header_faults) (zip plan.tables tables)) ++ flat_map (flat_map piece_faults) parts)
      ++ key_faults (rules_of plan) (rows_of tables))

abbrev pub PartsJoin : Type 0
PartsJoin =
    (plan : Plan) (tables : List Table) (parts : List (List TablePiece)) → AreCutInto (zip plan.tables tables) (pieces_of parts)
    → JoinedParts plan tables parts
