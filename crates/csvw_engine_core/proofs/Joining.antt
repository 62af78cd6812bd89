-- A text that goes on twice: the rows of both pieces were given.
use Rattle.std.proofs.Common.{◌≡◌, ◌∙◌, ℕ, Bool, true, false, List, ◌++◌, refl, sym, ap, subst, append_assoc}
use Rattle.std.specs.Prelude.{nat_eq, if◌then◌else◌}
use Rattle.csvw_records.specs.RowValue.{Given}
use Rattle.csvw_columns.specs.declared.plan.TablePlan.{TablePlan}
use Rattle.csvw_annotate.specs.declared.row.Row.{Row}
use Rattle.csvw_keys.specs.Books.{KeepsKeys}
use Rattle.csvw_keys.specs.Tables.{with_rows}
use Rattle.csvw_keys.specs.declared.key_book.KeyBook.{KeyBook}
use Rattle.csvw_triples_core.specs.declared.mode.Mode.{Mode}
use Rattle.csvw_triples_core.specs.declared.term.Triple.{Triple}
use Rattle.csvw_engine_core.specs.Faults.{table_faults}
use Rattle.csvw_engine_core.specs.Tables.{AddsRows, Gone, Outlets, TableHolds, table_triples}
use Rattle.csvw_engine_core.specs.declared.table.Table.{Table}
use Rattle.csvw_engine_core.proofs.Going.{faults_more, none_more, same_faults, same_triples, triples_more}

rows_behind : (b : Bool) (rows more later : List Row)
    → (if b then (if b then rows ++ more else rows) ++ later else (if b then rows ++ more else rows)) ≡ (if b then rows ++ (more ++ later) else rows)
rows_behind true rows more later = append_assoc rows more later
rows_behind false rows more later = refl

-- rows after others
adds_rows : (t : ℕ) (more later : List Row) (first old new : KeyBook) → AddsRows t more first old → AddsRows t later old new
    → AddsRows t (more ++ later) first new
adds_rows t more later first old new before behind rules tables k =
    subst (KeepsKeys new rules) (λ i n. rows_behind (nat_eq t n) (tables n) more later i)
    (behind rules (with_rows tables t more) (before rules tables k))

pub gone_join : {S : Type 0} (gains : S → List Triple → S → Type 0)
    (goes_on : (a b c : S) (xs ys : List Triple) → gains a xs b → gains b ys c → gains a (xs ++ ys) c)
    (plan : TablePlan) (mode : Mode) (bytes text piece : List ℕ) (given : List Given) (rows : List Row) (first old new : Table)
    (start now after : Outlets S) (g : Gone gains plan mode (bytes ++ text) false given rows first old start now)
    → Gone gains plan mode ((bytes ++ text) ++ piece) false (given ++ g.raws) (rows ++ g.more) old new now after
    → Gone gains plan mode (bytes ++ (text ++ piece)) false given rows first new start after
gone_join gains goes_on plan mode bytes text piece given rows first old new start now after g a =
    let t = plan.number in
    let columns = new.head.columns in
    let none = none_more plan old.head.columns (given ++ g.raws) rows g.more g.holds.has in
    record {
      raws = g.raws ++ a.raws;
      more = g.more ++ a.more;
      holds = subst (λ (b : List ℕ). TableHolds plan mode new b false (given ++ (g.raws ++ a.raws)) (rows ++ (g.more ++ a.more)))
          (append_assoc bytes text piece)
          (subst (λ (l : List Given). TableHolds plan mode new ((bytes ++ text) ++ piece) false l (rows ++ (g.more ++ a.more)))
          (append_assoc given g.raws a.raws)
          (subst (λ (l : List Row). TableHolds plan mode new ((bytes ++ text) ++ piece) false ((given ++ g.raws) ++ a.raws) l)
          (append_assoc rows g.more a.more) a.holds));
      took = subst (λ ts. gains start.sink ts after.sink) (sym (triples_more mode t columns g.more a.more))
          (goes_on start.sink now.sink after.sink (table_triples mode t columns g.more) (table_triples mode t columns a.more)
          (subst (λ ts. gains start.sink ts now.sink) (sym (same_triples mode t old.head.columns columns g.more a.keeps none)) g.took) a.took);
      kept = adds_rows t g.more a.more start.keys now.keys after.keys g.kept a.kept;
      told = a.told
          ∙ ap (λ l. l ++ table_faults t columns a.more)
          (g.told ∙ ap (λ l. first.faults ++ l) (sym (same_faults t old.head.columns columns g.more a.keeps none)))
          ∙ append_assoc first.faults (table_faults t columns g.more) (table_faults t columns a.more)
          ∙ ap (λ l. first.faults ++ l) (sym (faults_more t columns g.more a.more));
      keeps = λ c e. a.keeps c (g.keeps c e);
    }
