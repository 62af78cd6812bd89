-- The front of a file that was read, and the piece that was opened.
use Rattle.std.proofs.Common.{◌≡◌, ◌+◌, ℕ, Bool, true, false, List, [], refl, subst, Option, Some, None}
use Rattle.std.specs.Prelude.{◌&&◌, is_some}
use Rattle.std.specs.Io.KnownBytes.{Consumes}
use Rattle.csvw_rows.specs.GivenLaws.{GivenFirst}
use Rattle.csvw_rows.specs.Skips.{can_skip}
use Rattle.csvw_part_plan.specs.declared.piece.Piece.{Piece}
use Rattle.csvw_columns_core.specs.declared.columns.Columns.{Columns}
use Rattle.csvw_columns.specs.declared.plan.TablePlan.{TablePlan}
use Rattle.csvw_keys.specs.KeyRules.{KeyRule}
use Rattle.csvw_streams.specs.declared.counted.Counted.{Counted}
use Rattle.csvw_streams.specs.Counted.{inner_of}
use Rattle.csvw_triples_core.specs.declared.mode.Mode.{Mode}
use Rattle.csvw_triples_core.specs.declared.term.Triple.{Triple}
use Rattle.csvw_engine_core.specs.Annotated.{header_count}
use Rattle.csvw_engine_core.specs.Skipping.{SkipsTable, can_skip_table}
use Rattle.csvw_engine_core.specs.Tables.{IsNewTable, Outlets, TableHolds}
use Rattle.csvw_engine_core.specs.declared.table.Table.{Table}
use Rattle.csvw_parts.specs.Fronts.{GoesToPiece, HoldsFront, Opens, ReadsFront, StartsPiece}
use Rattle.csvw_parts.specs.Outlets.{Kept, Outs}
use Rattle.csvw_parts.specs.PartRows.{ReadsPiece, found_of}
use Rattle.csvw_parts.specs.Parts.{ReadsBytes}
use Rattle.csvw_parts.specs.Reading.{TakesBody}
use Rattle.csvw_parts.proofs.Starting.{gives_rows, starts}

pub front_read : {R S : Type 0} {gains : S → List Triple → S → Type 0} {is_open : S → Bool} {failed : S → ℕ} {before now : Outlets S}
    (remaining : R → Option (List ℕ)) (plan : TablePlan) (old new : Table) (reader next : Counted R) (text : List ℕ)
    → ReadsBytes gains is_open failed remaining plan old new reader next before now text → (mode : Mode) → TableHolds plan mode old [] false [] []
    → HoldsFront plan mode new text
front_read remaining plan old new reader next text r mode h =
    let g = r.goes_on mode [] [] [] h in
    record { given = g.0.raws; rows = g.0.more; holds = g.0.holds }

module _ {O R S W : Type 0} (opener : Opens O R) (out : Outs S W) (rules : List KeyRule) (plan : TablePlan) (file : List ℕ) (piece : Piece)
    (next : Option Piece) (old mid new : Table) (first between opened last : O) (before after : Kept S W) (reader : R) (counted left : Counted R) where
  -- a piece that was opened and read
  pub reads_piece : GivenFirst → StartsPiece piece.first_byte opener file plan piece old mid first between
      → opener.opens_at between file piece.first_byte reader opened → inner_of counted ≡ reader → opener.closes opened left last
      → TakesBody opener.remaining out rules plan next mid new counted left piece.bytes before after
      → (mode : Mode) → IsNewTable plan mode old
      → ReadsPiece opener out rules plan mode file piece next (found_of new) first last before after
  reads_piece law start opens inner closes body mode is_new =
      let s = starts opener file plan mode piece old is_new law piece.first_byte mid first between start in
      record {
        between = between;
        front = s.front;
        known = s.known;
        starts = s.reads;
        text = body.text;
        reads = record {
          reader = reader;
          between = opened;
          opened = opens;
          left = left;
          many = body.many;
          consumed = subst (λ (r : R). Consumes (opener.remaining r) (opener.remaining (inner_of left)) body.text) inner body.consumed;
          ends = body.ends;
          closed = closes;
        };
        gives = λ bytes so_far comes.
            let h = s.holds bytes so_far comes in
            gives_rows out rules plan mode next s.known _ so_far mid new before after s.faults s.same_columns (body.takes mode bytes h.0 so_far h.1);
      }

-- a table that can skip rows has its columns
skips_columns : (plan : TablePlan) (t : Table) (rows data_rows : ℕ) → can_skip_table plan t rows data_rows ≡ true → (columns : Columns)
    × (t.head.columns ≡ Some columns)
skips_columns plan t rows data_rows e =
    known t.head.columns (can_skip t.rows rows (header_count plan + data_rows)) e
  where
    known : (columns : Option Columns) (rest : Bool) → is_some columns && rest ≡ true → (c : Columns) × (columns ≡ Some c)
    known None rest e = cc
    known (Some c) rest e = (c, refl)

module _ {O R : Type 0} (opener : Opens O R) (file : List ℕ) (plan : TablePlan) (piece : Piece) (old mid new : Table) (first opened last : O) (result : Option R)
    (reader : R) (counted left : Counted R) where
  -- the front of a file that was opened and read
  pub goes_to_piece : opener.opens first file result opened → result ≡ Some reader → inner_of counted ≡ reader → opener.closes opened left last
      → ReadsFront opener.remaining plan old mid counted left piece.header_bytes
      → can_skip_table plan mid piece.rows_before piece.data_rows_before ≡ true
      → SkipsTable plan mid new piece.rows_before piece.data_rows_before → GoesToPiece opener file plan piece old new first last
  goes_to_piece opens is inner closes front can skips =
      let known = skips_columns plan mid piece.rows_before piece.data_rows_before can in
      record {
        text = front.text;
        opens = record {
          reader = reader;
          between = opened;
          opened = subst (λ (r : Option R). opener.opens first file r opened) is opens;
          left = left;
          many = front.many;
          consumed = subst (λ (r : R). Consumes (opener.remaining r) (opener.remaining (inner_of left)) front.text) inner front.consumed;
          closed = closes;
        };
        middle = mid;
        reads = front.reads;
        columns = known.0;
        columns_are = known.1;
        skips = skips;
      }
