-- How a table takes more of its text, or its end.
use Rattle.std.proofs.Common.{◌≡◌, ◌⊎◌, ℕ, Bool, false, List, [], ◌++◌, refl, sym, ◌∙◌, subst, append-nil, Some, None, Result, Ok, Err, inl, inr}
use Rattle.csvw_records.specs.FirstRows.{AreFirst}
use Rattle.csvw_rows.specs.GivenLaws.{GivenFirstLater}
use Rattle.csvw_records.specs.RowValue.{Given}
use Rattle.csvw_rows.specs.RowsState.{Holds, stop_of}
use Rattle.csvw_rows.specs.declared.rows.Rows.{Rows}
use Rattle.csvw_records.specs.declared.stop.RowStop.{RowStop}
use Rattle.csvw_records.specs.declared.stop.RowStop.TheVariants as row_stop
use Rattle.csvw_columns.specs.declared.plan.TablePlan.{TablePlan}
use Rattle.csvw_annotate.specs.declared.row.Row.{Row}
use Rattle.csvw_triples_core.specs.declared.mode.Mode.{Mode}
use Rattle.csvw_triples_core.specs.declared.term.Triple.{Triple}
use Rattle.csvw_engine_core.specs.Annotated.{IsHead, HasRows}
use Rattle.csvw_engine_core.specs.Stops.{of_row_stop}
use Rattle.csvw_engine_core.specs.Tables.{max_rows, Outlets, TableHolds, TableOutcome, EndOutcome}
use Rattle.csvw_engine_core.specs.declared.stop.Stop.{Stop}
use Rattle.csvw_engine_core.specs.declared.stop.Stop.TheVariants as stop
use Rattle.csvw_engine_core.specs.declared.table.Table.{Table}
use Rattle.csvw_engine_core.proofs.Going.{no_triples}

-- the same table over more of the text, or its end
pub holds_moved : (plan : TablePlan) (mode : Mode) (t : Table) (rows : Rows) (bytes more : List ℕ) (ended closed : Bool) (given : List Given)
    (annotated : List Row)
    → (Holds t.rows plan.dialect max_rows bytes ended given → Holds rows plan.dialect max_rows more closed given)
    → TableHolds plan mode t bytes ended given annotated → TableHolds plan mode (record t { rows = rows }) more closed given annotated
holds_moved plan mode t rows bytes more ended closed given annotated move h = record {
  number_is = h.number_is;
  mode_is = h.mode_is;
  reader = move h.reader;
  head = h.head;
  has = h.has;
}

-- the reader had no memory for more of the text
pub unfed : {S : Type 0} (gains : S → List Triple → S → Type 0) (cuts : S → Triple → S → Type 0) (is_open : S → Bool) (failed : S → ℕ)
    (stays : (s : S) → gains s [] s) (law : GivenFirstLater)
    (plan : TablePlan) (mode : Mode) (t new : Table) (bytes piece : List ℕ) (given : List Given) (rows : List Row) (s : Outlets S) (stop : RowStop) (row : ℕ)
    → (stop_of t.rows ≡ Some stop) ⊎ (stop ≡ row_stop.Memory) → TableHolds plan mode t bytes false given rows
    → TableOutcome gains cuts is_open failed plan mode (bytes ++ piece) false given rows t new s s (Err (of_row_stop plan.number row stop))
unfed gains cuts is_open failed stays law plan mode t new bytes piece given rows s stop row (inl e) h =
    let wrong : None ≡ Some stop = sym h.reader.no_stop ∙ e in cc
unfed gains cuts is_open failed stays law plan mode t new bytes piece given rows s stop row (inr e) h =
    subst (λ z. TableOutcome gains cuts is_open failed plan mode (bytes ++ piece) false given rows t new s s (Err (of_row_stop plan.number row z))) (sym e) (
      record {
        raws = [];
        more = [];
        first = subst (λ g. AreFirst plan.dialect max_rows (bytes ++ piece) false g) (sym (append-nil given))
            (law t.rows plan.dialect max_rows bytes piece false given h.reader);
        columns = t.head.columns;
        faults = t.head.faults;
        table = record {
          head = subst (λ g. IsHead plan g t.head.columns t.head.faults) (sym (append-nil given)) h.head.known;
          has = subst (λ g. HasRows plan t.head.columns g (rows ++ [])) (sym (append-nil given))
              (subst (λ r. HasRows plan t.head.columns given r) (sym (append-nil rows)) h.has);
        };
        took = record {
          front = [];
          rest = [];
          parts = no_triples mode plan.number t.head.columns;
          gained = stays s.sink;
          cut = λ fails. absurd fails;
        };
      },
      (refl, refl),
    )

-- what a call leaves of the table that took more of its text
pub outcome_moved : {S : Type 0} (gains : S → List Triple → S → Type 0) (cuts : S → Triple → S → Type 0) (is_open : S → Bool) (failed : S → ℕ)
    (plan : TablePlan) (mode : Mode) (bytes : List ℕ) (ended : Bool) (given : List Given) (annotated : List Row)
    (t new : Table) (rows : Rows) (before now : Outlets S) (r : Result Unit Stop)
    → TableOutcome gains cuts is_open failed plan mode bytes ended given annotated (record t { rows = rows }) new before now r
    → TableOutcome gains cuts is_open failed plan mode bytes ended given annotated t new before now r
outcome_moved gains cuts is_open failed plan mode bytes ended given annotated t new rows before now (Ok u) h = (
  record {
    gone = record {
      raws = h.0.gone.raws;
      more = h.0.gone.more;
      holds = h.0.gone.holds;
      took = h.0.gone.took;
      kept = h.0.gone.kept;
      told = h.0.gone.told;
      keeps = h.0.gone.keeps;
    };
    at_rest = h.0.at_rest;
  },
  h.1,
)
outcome_moved gains cuts is_open failed plan mode bytes ended given annotated t new rows before now (Err stop.Memory) h = h
outcome_moved gains cuts is_open failed plan mode bytes ended given annotated t new rows before now (Err stop.Write) h = h
outcome_moved gains cuts is_open failed plan mode bytes ended given annotated t new rows before now (Err (stop.Rows table row reason)) h = h
outcome_moved gains cuts is_open failed plan mode bytes ended given annotated t new rows before now (Err (stop.Table table row reason)) h = h
outcome_moved gains cuts is_open failed plan mode bytes ended given annotated t new rows before now (Err other) h = absurd h

pub end_moved : {S : Type 0} (gains : S → List Triple → S → Type 0) (cuts : S → Triple → S → Type 0) (is_open : S → Bool) (failed : S → ℕ)
    (plan : TablePlan) (mode : Mode) (bytes : List ℕ) (given : List Given) (annotated : List Row)
    (t new : Table) (rows : Rows) (before now : Outlets S) (r : Result Unit Stop)
    → EndOutcome gains cuts is_open failed plan mode bytes given annotated (record t { rows = rows }) new before now r
    → EndOutcome gains cuts is_open failed plan mode bytes given annotated t new before now r
end_moved gains cuts is_open failed plan mode bytes given annotated t new rows before now (Ok u) h =
    (record { more = h.0.more; holds = h.0.holds; took = h.0.took; kept = h.0.kept; told = h.0.told; keeps = h.0.keeps }, h.1)
end_moved gains cuts is_open failed plan mode bytes given annotated t new rows before now (Err stop.Memory) h = h
end_moved gains cuts is_open failed plan mode bytes given annotated t new rows before now (Err stop.Write) h = h
end_moved gains cuts is_open failed plan mode bytes given annotated t new rows before now (Err (stop.Rows table row reason)) h = h
end_moved gains cuts is_open failed plan mode bytes given annotated t new rows before now (Err (stop.Table table row reason)) h = h
end_moved gains cuts is_open failed plan mode bytes given annotated t new rows before now (Err other) h = absurd h
