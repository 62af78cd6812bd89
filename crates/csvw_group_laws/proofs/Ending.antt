-- A table of a session that was ended is an annotated table.
use Rattle.std.proofs.Common.{◌≡◌, ℕ, Bool, true, false, List, refl, sym, ap, ◌∙◌, subst, inl, inr, Some}
use Rattle.csvw_records.specs.declared.dialect.Dialect.{Dialect}
use Rattle.csvw_records.specs.Files.{Row as FileRow, File, Front, IsWhole}
use Rattle.csvw_columns.specs.declared.plan.TablePlan.{TablePlan}
use Rattle.csvw_annotate.specs.declared.row.Row.{Row}
use Rattle.csvw_triples_core.specs.declared.mode.Mode.{Mode}
use Rattle.csvw_engine_core.specs.Annotated.{IsWholeTable}
use Rattle.csvw_engine_core.specs.Faults.{table_faults}
use Rattle.csvw_engine_core.specs.Tables.{max_rows, HoldsWhole, columns_of, faults_of, header_faults_of, is_ended}
use Rattle.csvw_engine_core.specs.declared.table.Table.{Table as State}
use Rattle.csvw_session.specs.Sessions.{Told}
use Rattle.csvw_group_laws.specs.Annotated.{Table, IsAnnotated}

-- the state of a table whose text ended, and the annotated table that the text is
pub record EndsAs (plan : TablePlan) (t : State) (text : List ℕ) (rows : List Row) (table : Table) : Type 0 where
  pub annotated : IsAnnotated plan text table
  pub columns : columns_of t ≡ Some table.columns
  pub header_faults : header_faults_of t ≡ table.header_faults
  pub rows_are : table.rows ≡ rows
  pub faults : faults_of t ≡ table_faults plan.number (Some table.columns) table.rows

-- all rows of an ended text without a stop are those of its file
pub file_of : (d : Dialect) (max : ℕ) (bytes : List ℕ) (rows : List FileRow) → Front d max bytes true rows → IsWhole d max bytes → File d max bytes rows
file_of d max bytes rows (inl f) whole = f.1
file_of d max bytes rows (inr f) whole = absurd (f.0 refl whole.0 whole.1)

never : false ≡ true → ⊥
never e = cc

-- the annotated table of a state that was ended
whole_of : (plan : TablePlan) (mode : Mode) (t : State) (bytes : List ℕ) (ended : Bool) (rows : List Row)
    → Told plan mode t bytes ended rows → is_ended t ≡ true → HoldsWhole plan mode t bytes rows
whole_of plan mode t bytes true rows h e = h.stands
whole_of plan mode t bytes false rows h e = absurd (never (sym h.stands.holds.reader.ended_is ∙ e))

pub ends_as : (plan : TablePlan) (mode : Mode) (t : State) (bytes : List ℕ) (ended : Bool) (rows : List Row)
    → Told plan mode t bytes ended rows → is_ended t ≡ true → (table : Table) × EndsAs plan t bytes rows table
ends_as plan mode t bytes ended rows h e =
    let w = whole_of plan mode t bytes ended rows h e in (
      record { columns = w.columns; header_faults = t.head.faults; rows = rows },
      record {
        annotated = record {
          file = w.at_rest.all.front;
          is_file = file_of plan.dialect max_rows bytes w.at_rest.all.front w.at_rest.all.is_front (w.at_rest.whole refl);
          whole = subst (λ g. IsWholeTable plan g w.columns t.head.faults rows) w.at_rest.all.all w.table;
        };
        columns = w.columns_are;
        header_faults = refl;
        rows_are = refl;
        faults = h.faults ∙ ap (λ c. table_faults plan.number c rows) w.columns_are;
      },
    )
