-- The bytes of a piece, and the row or the file that ends there.
use Rattle.std.proofs.Common.{◌≡◌, ◌<◌, ◌+◌, ℕ, false, List, [], ◌++◌, append_assoc, length, subst, Option, Some, None, Result, Ok, Err}
use Rattle.std.specs.Borrow.{Bor}
use Rattle.std.specs.Prelude.{OnOk}
use Rattle.csvw_rows.specs.GivenLaws.{GivenFirst}
use Rattle.csvw_records.specs.Files.{Body, remaining}
use Rattle.csvw_records.specs.Files.{Row as Record}
use Rattle.csvw_records.specs.RowValue.{Given}
use Rattle.csvw_part_laws.specs.Parts.{AreWholeRows}
use Rattle.csvw_part_plan.specs.declared.piece.Piece.{Piece}
use Rattle.csvw_streams.specs.declared.counted.Counted.{Counted}
use Rattle.csvw_streams.specs.Counted.{inner_of}
use Rattle.csvw_columns.specs.declared.plan.TablePlan.{TablePlan}
use Rattle.csvw_annotate.specs.declared.row.Row.{Row}
use Rattle.csvw_keys.specs.KeyRules.{KeyRule}
use Rattle.csvw_row_keys.specs.RecordLaws.{JoinsRecords}
use Rattle.csvw_triples_core.specs.declared.mode.Mode.{Mode}
use Rattle.csvw_triples_core.specs.declared.term.Triple.{Triple}
use Rattle.csvw_engine_core.specs.Annotated.{IsWholeTable, header_count}
use Rattle.csvw_engine_core.specs.Tables.{TableHolds, max_rows}
use Rattle.csvw_engine_core.specs.declared.table.Table.{Table}
use Rattle.csvw_engine_core.proofs.Going.{none_more}
use Rattle.csvw_parts.specs.Outlets.{Kept, Outs}
use Rattle.csvw_parts.specs.Parts.{EndsAtRow, HasNoRow}
use Rattle.csvw_parts.specs.declared.part.TablePart.{TablePart}
use Rattle.csvw_parts.specs.Reading.{EndsReader, TakesBody, TakesBytes, TakesEnd}
use Rattle.csvw_parts.proofs.Pieces.{and_nothing}
use Rattle.csvw_parts.proofs.Taking.{takes_more}

-- two facts of an Ok
pub both_ok : {X E P Q C : Type 0} (r : Result X E) → OnOk r P → OnOk r Q → (P → Q → C) → OnOk r C
both_ok (Ok x) p q f = f p q
both_ok (Err e) p q f = tt

abbrev pub EndsRow : TablePlan → Table → ℕ → ℕ → Type 0
EndsRow plan t count data_count = (mode : Mode) (bytes : List ℕ) (given : List Given) (rows : List Row)
    → TableHolds plan mode t bytes false given rows → 0 < count
    → (whole : List Record) × AreWholeRows plan.dialect bytes whole × (Body plan.dialect whole ≡ given) × (length whole ≡ count)
    × (header_count plan + data_count ≡ length (remaining plan.dialect 1 whole))

abbrev pub HasNone : TablePlan → Table → ℕ → ℕ → Type 0
HasNone plan t count data_count = (mode : Mode) (bytes : List ℕ) (given : List Given) (rows : List Row)
    → TableHolds plan mode t bytes false given rows → count ≡ 0 → (given ≡ []) × (header_count plan + data_count ≡ 0)

-- no row was given, by the plan of the part
pub none_here : (part : TablePart) (count data_count : ℕ) (plan : Bor TablePlan) → part.plan ≡ plan → HasNoRow part count data_count
    → HasNone plan.now part.table count data_count
none_here part count data_count plan same none = subst (λ (p : Bor TablePlan). HasNone p.now part.table count data_count) same none

-- a row ends there, by the plan of the part
pub ends_here : (part : TablePart) (count data_count : ℕ) (plan : Bor TablePlan) → part.plan ≡ plan → EndsAtRow part count data_count
    → EndsRow plan.now part.table count data_count
ends_here part count data_count plan same ends = subst (λ (p : Bor TablePlan). EndsRow p.now part.table count data_count) same ends

module _ {R S W : Type 0} (remaining : R → Option (List ℕ)) (out : Outs S W) (rules : List KeyRule) (law : JoinsRecords) (stays : (s : S) → out.gains s [] s)
    (goes_on : (a b c : S) (xs ys : List Triple) → out.gains a xs b → out.gains b ys c → out.gains a (xs ++ ys) c) (plan : TablePlan) (old mid : Table)
    (reader left : Counted R) (count : ℕ) (before between : Kept S W) (t : TakesBytes remaining out rules plan old mid reader left count before between)
  where
    -- a row ends there, and another piece follows
    pub body_row : GivenFirst → (next : Piece) → EndsRow plan mid next.rows_before next.data_rows_before
        → HasNone plan mid next.rows_before next.data_rows_before
        → TakesBody remaining out rules plan (Some next) old mid reader left count before between
    body_row first next ends none = record {
      text = t.text;
      many = t.many;
      consumed = t.consumed;
      ends = tt;
      takes = λ mode bytes given rows h.
          let g = t.goes_on mode bytes given rows h in
          record {
            more = g.more;
            are = record {
              given = given ++ g.raws;
              first = first mid.rows plan.dialect max_rows (bytes ++ t.text) false (given ++ g.raws) g.holds.reader;
              table = record { head = g.holds.head.known; has = g.holds.has };
              ends = λ some.
                  let e = ends mode (bytes ++ t.text) (given ++ g.raws) (rows ++ g.more) g.holds some in
                  record { whole = e.0; are_rows = e.1; body = e.2; count = e.3; data_count = e.4 };
              none = none mode (bytes ++ t.text) (given ++ g.raws) (rows ++ g.more) g.holds;
            };
            takes = g.takes;
          };
    }

    -- the file ends there
    pub body_end : (new : Table) (last : Counted R) (after : Kept S W) → EndsReader (remaining (inner_of left)) (remaining (inner_of last))
        → TakesEnd out rules plan mid new between after → TakesBody remaining out rules plan None old new reader last count before after
    body_end new last after ends takes = record {
      text = t.text;
      many = t.many;
      consumed = and_nothing (remaining (inner_of reader)) (remaining (inner_of left)) (remaining (inner_of last)) t.text t.consumed ends.0;
      ends = ends.1;
      takes = λ mode bytes given rows h.
          let g = t.goes_on mode bytes given rows h in
          let w = takes mode (bytes ++ t.text) (given ++ g.raws) (rows ++ g.more) g.holds in
          record {
            more = g.more ++ w.more;
            are = record {
              given = w.holds.given;
              at_rest = w.holds.at_rest;
              known = w.holds.columns;
              columns_are = w.holds.columns_are;
              table = subst (λ (l : List Row). IsWholeTable plan w.holds.given w.holds.columns new.head.faults l) (append_assoc rows g.more w.more)
                  w.holds.table;
            };
            takes = takes_more out rules law stays goes_on plan mode g.more w.more old mid new before between after
                (λ e. none_more plan mid.head.columns (given ++ g.raws) rows g.more g.holds.has e) g.takes w.takes;
          };
    }
