-- A table before the bytes of a piece: what comes before them was read, or is as if it had been read.
use Rattle.std.proofs.Common.{◌≡◌, ◌∙◌, ℕ, zero, suc, false, List, [], ◌++◌, refl, sym, ap, subst, Option, Some, None}
use Rattle.csvw_rows.specs.GivenLaws.{GivenFirst}
use Rattle.csvw_records.specs.Files.{Body}
use Rattle.csvw_records.specs.RowValue.{Given}
use Rattle.csvw_part_laws.specs.Parts.{AreWholeRows}
use Rattle.csvw_part_plan.specs.declared.piece.Piece.{Piece}
use Rattle.csvw_columns_core.specs.declared.columns.Columns.{Columns}
use Rattle.csvw_columns.specs.declared.plan.TablePlan.{TablePlan}
use Rattle.csvw_annotate.specs.declared.row.Row.{Row}
use Rattle.csvw_keys.specs.KeyRules.{KeyRule}
use Rattle.csvw_triples_core.specs.declared.mode.Mode.{Mode}
use Rattle.csvw_engine_core.specs.Annotated.{HasRows, IsHead}
use Rattle.csvw_engine_core.specs.Faults.{table_faults}
use Rattle.csvw_engine_core.specs.Tables.{IsNewTable, TableHolds, max_rows}
use Rattle.csvw_engine_core.specs.declared.table.Table.{Table}
use Rattle.csvw_parts.specs.Fronts.{Opens, GoesToPiece, StartsPiece}
use Rattle.csvw_parts.specs.Outlets.{Kept, Outs}
use Rattle.csvw_parts.specs.PartRows.{GivesRows, ReadsBefore, found_of}
use Rattle.csvw_parts.specs.PieceRows.{ComesBefore, StandBefore}
use Rattle.csvw_parts.specs.Reading.{TakesPiece}

-- the table before a piece that begins at a byte
pub record Starting {O R : Type 0} (opener : Opens O R) (byte : ℕ) (file : List ℕ) (plan : TablePlan) (mode : Mode) (piece : Piece) (t : Table)
    (before between : O) : Type 0 where
  pub front : List ℕ
  pub known : Option Columns
  pub reads : ReadsBefore byte opener file plan piece before between front known
  pub faults : t.faults ≡ []
  pub same_columns : (columns : Columns) → known ≡ Some columns → t.head.columns ≡ Some columns
  pub holds : (bytes : List ℕ) (rows : List Row) → ComesBefore byte plan piece front known bytes rows
      → (given : List Given) × TableHolds plan mode t bytes false given rows

module _ {O R : Type 0} (opener : Opens O R) (file : List ℕ) (plan : TablePlan) (mode : Mode) (piece : Piece) (old : Table)
    (is_new : IsNewTable plan mode old) where
  starts_first : (t : Table) (before between : O) → t ≡ old → between ≡ before → Starting opener zero file plan mode piece t before between
  starts_first t before between same idle = record {
    front = [];
    known = None;
    reads = (idle, refl, refl);
    faults = ap (λ (x : Table). x.faults) same ∙ is_new.no_faults;
    same_columns = λ columns e. cc;
    holds = λ bytes rows c. (
      [],
      subst (λ (x : Table). TableHolds plan mode x bytes false [] rows) (sym same)
          (subst (λ (b : List ℕ). TableHolds plan mode old b false [] rows) (sym c.0)
          (subst (λ (r : List Row). TableHolds plan mode old [] false [] r) (sym c.1) is_new.holds)),
    );
  }

  module _ (law : GivenFirst) (byte : ℕ) (t : Table) (before between : O) (g : GoesToPiece opener file plan piece old t before between) where
    stands : (bytes : List ℕ) (rows : List Row) → StandBefore plan piece g.text (Some g.columns) bytes rows
        → (given : List Given) × TableHolds plan mode t bytes false given rows
    stands bytes rows c =
        let f = g.reads mode is_new.holds in
        let whole : AreWholeRows plan.dialect (g.text ++ c.between) c.whole = subst (λ (b : List ℕ). AreWholeRows plan.dialect b c.whole) c.begins c.are_rows in
        let has : HasRows plan g.middle.head.columns (Body plan.dialect c.whole) rows =
        subst (λ (z : Option Columns). HasRows plan z (Body plan.dialect c.whole) rows) (sym g.columns_are) c.annotated in (
          Body plan.dialect c.whole,
          subst (λ (b : List ℕ). TableHolds plan mode t b false (Body plan.dialect c.whole) rows) (sym c.begins)
              (g.skips.goes_on mode g.text c.between f.given f.rows rows c.whole f.holds whole c.count c.data_count has),
        )

    starts_later : Starting opener (suc byte) file plan mode piece t before between
    starts_later =
        let f = g.reads mode is_new.holds in
        record {
          front = g.text;
          known = Some g.columns;
          reads = record {
            opens = g.opens;
            columns = g.columns;
            columns_are = refl;
            faults = g.middle.head.faults;
            is_front = record {
              given = f.given;
              first = law g.middle.rows plan.dialect max_rows g.text false f.given f.holds.reader;
              head = subst (λ (z : Option Columns). IsHead plan f.given z g.middle.head.faults) g.columns_are f.holds.head.known;
            };
          };
          faults = g.skips.faults;
          same_columns = λ columns e. ap (λ h. h.columns) g.skips.head ∙ (g.columns_are ∙ e);
          holds = stands;
        }

  pub starts : GivenFirst → (byte : ℕ) (t : Table) (before between : O) → StartsPiece byte opener file plan piece old t before between
      → Starting opener byte file plan mode piece t before between
  starts law zero t before between s = starts_first t before between s.0 s.1
  starts law (suc byte) t before between s = starts_later law byte t before between s

-- the rows of a piece
pub gives_rows : {S W : Type 0} (out : Outs S W) (rules : List KeyRule) (plan : TablePlan) (mode : Mode) (next : Option Piece) (known : Option Columns)
    (bytes : List ℕ) (so_far : List Row) (old new : Table) (before after : Kept S W) → old.faults ≡ []
    → ((columns : Columns) → known ≡ Some columns → old.head.columns ≡ Some columns)
    → TakesPiece out rules plan mode next bytes so_far old new before after
    → GivesRows out rules plan mode next known (found_of new) bytes so_far before after
gives_rows out rules plan mode next known bytes so_far old new before after none same t = record {
  rows = t.more;
  are = t.are;
  same_columns = λ columns e. t.takes.keeps columns (same columns e);
  takes = t.takes.takes;
  cells = t.takes.told ∙ ap (λ l. l ++ table_faults plan.number new.head.columns t.more) none;
}
