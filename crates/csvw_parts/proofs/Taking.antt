-- Rows that were taken in several steps.
use Rattle.std.proofs.Common.{◌≡◌, ◌∙◌, ℕ, false, List, [], ◌++◌, append-nil, append_assoc, refl, sym, ap, subst, Option, Some, None}
use Rattle.csvw_records.specs.RowValue.{Given}
use Rattle.csvw_columns_core.specs.declared.columns.Columns.{Columns}
use Rattle.csvw_columns.specs.declared.plan.TablePlan.{TablePlan}
use Rattle.csvw_annotate.specs.declared.row.Row.{Row}
use Rattle.csvw_keys.specs.KeyRules.{KeyRule}
use Rattle.csvw_row_keys.specs.RecordLaws.{JoinsRecords}
use Rattle.csvw_triples_core.specs.declared.mode.Mode.{Mode}
use Rattle.csvw_triples_core.specs.declared.term.Triple.{Triple}
use Rattle.csvw_engine_core.specs.Faults.{table_faults}
use Rattle.csvw_engine_core.specs.Tables.{GivesWhole, TableHolds, outlets, table_triples}
use Rattle.csvw_engine_core.specs.declared.table.Table.{Table}
use Rattle.csvw_engine_core.proofs.Going.{faults_more, no_triples, none_more, same_faults, same_triples, triples_more}
use Rattle.csvw_triples_core.specs.Taking.{IsAsReady}
use Rattle.csvw_parts.specs.Outlets.{Kept, Outs}
use Rattle.csvw_parts.specs.Parts.{GoesOn}
use Rattle.csvw_parts.specs.Reading.{GoesOnWith, TakesEnd, TakesMore}
use Rattle.csvw_parts.specs.Recording.{BothSome, ForgetsRows, WritesBook}
use Rattle.csvw_parts.proofs.Recording.{recorded_more, recorded_none, recorded_step}

no_cell_faults : (table : ℕ) (columns : Option Columns) → table_faults table columns [] ≡ []
no_cell_faults table None = refl
no_cell_faults table (Some columns) = refl

module _ {S W : Type 0} (out : Outs S W) (rules : List KeyRule) (law : JoinsRecords) (stays : (s : S) → out.gains s [] s)
    (goes_on : (a b c : S) (xs ys : List Triple) → out.gains a xs b → out.gains b ys c → out.gains a (xs ++ ys) c) (plan : TablePlan) where
  takes_none : (mode : Mode) (t : Table) (k : Kept S W) → TakesMore out rules plan mode [] t t k k
  takes_none mode t k = record {
    takes = record {
      took = subst (λ ts. out.gains k.sink ts k.sink) (sym (no_triples mode plan.number t.head.columns)) (stays k.sink);
      ready = (refl, refl);
      recorded = recorded_none out.contents rules law plan.number k.book k.records;
    };
    told = sym (ap (λ z. t.faults ++ z) (no_cell_faults plan.number t.head.columns) ∙ append-nil t.faults);
    keeps = λ columns e. e;
  }

  -- rows after others; there were none before the columns were known
  pub takes_more : (mode : Mode) (rows more : List Row) (first old new : Table) (start now after : Kept S W) → (old.head.columns ≡ None → rows ≡ [])
      → TakesMore out rules plan mode rows first old start now → TakesMore out rules plan mode more old new now after
      → TakesMore out rules plan mode (rows ++ more) first new start after
  takes_more mode rows more first old new start now after none p q =
      let t = plan.number in
      let columns = new.head.columns in
      record {
        takes = record {
          took = subst (λ ts. out.gains start.sink ts after.sink) (sym (triples_more mode t columns rows more))
              (goes_on start.sink now.sink after.sink (table_triples mode t columns rows) (table_triples mode t columns more)
              (subst (λ ts. out.gains start.sink ts now.sink) (sym (same_triples mode t old.head.columns columns rows q.keeps none)) p.takes.took)
              q.takes.took);
          ready = (q.takes.ready.0 ∙ p.takes.ready.0, q.takes.ready.1 ∙ p.takes.ready.1);
          recorded = recorded_more out.contents rules law t rows more start.book now.book after.book start.records now.records after.records
              p.takes.recorded q.takes.recorded;
        };
        told = q.told
            ∙ ap (λ l. l ++ table_faults t columns more)
            (p.told ∙ ap (λ l. first.faults ++ l) (sym (same_faults t old.head.columns columns rows q.keeps none)))
            ∙ append_assoc first.faults (table_faults t columns rows) (table_faults t columns more)
            ∙ ap (λ l. first.faults ++ l) (sym (faults_more t columns rows more));
        keeps = λ c e. q.keeps c (p.keeps c e);
      }

  -- no bytes yet
  pub text_none : (t : Table) (k : Kept S W) → GoesOnWith out rules plan t t k k []
  text_none t k mode bytes given rows h = record {
    raws = [];
    more = [];
    holds = subst (λ b. TableHolds plan mode t b false (given ++ []) (rows ++ [])) (sym (append-nil bytes))
        (subst (λ g. TableHolds plan mode t bytes false g (rows ++ [])) (sym (append-nil given))
        (subst (λ r. TableHolds plan mode t bytes false given r) (sym (append-nil rows)) h));
    takes = takes_none mode t k;
  }

  -- bytes after others
  pub text_more : (first old new : Table) (start now after : Kept S W) (text piece : List ℕ) → GoesOnWith out rules plan first old start now text
      → GoesOnWith out rules plan old new now after piece → GoesOnWith out rules plan first new start after (text ++ piece)
  text_more first old new start now after text piece before behind mode bytes given rows h =
      let g = before mode bytes given rows h in
      let a = behind mode (bytes ++ text) (given ++ g.raws) (rows ++ g.more) g.holds in
      record {
        raws = g.raws ++ a.raws;
        more = g.more ++ a.more;
        holds = subst (λ (b : List ℕ). TableHolds plan mode new b false (given ++ (g.raws ++ a.raws)) (rows ++ (g.more ++ a.more)))
            (append_assoc bytes text piece)
            (subst (λ (l : List Given). TableHolds plan mode new ((bytes ++ text) ++ piece) false l (rows ++ (g.more ++ a.more)))
            (append_assoc given g.raws a.raws)
            (subst (λ (l : List Row). TableHolds plan mode new ((bytes ++ text) ++ piece) false ((given ++ g.raws) ++ a.raws) l)
            (append_assoc rows g.more a.more) a.holds));
        takes = takes_more mode g.more a.more first old new start now after
            (λ e. none_more plan old.head.columns (given ++ g.raws) rows g.more g.holds.has e) g.takes a.takes;
      }

  module _ (old new : Table) (before between after : Kept S W) (writes : BothSome (WritesBook out.contents rules between.book) before.records after.records)
      (forgets : ForgetsRows between.book after.book) (same : after.sink ≡ between.sink) where
    -- bytes, after which the records were written
    pub text_step : (text : List ℕ) → GoesOn out.gains out.is_open out.failed plan old new (outlets before.sink before.book)
        (outlets between.sink between.book) text → GoesOnWith out rules plan old new before after text
    text_step text goes mode bytes given rows h =
        let g = goes mode bytes given rows h in
        record {
          raws = g.0.raws;
          more = g.0.more;
          holds = g.0.holds;
          takes = record {
            takes = record {
              took = subst (out.gains before.sink (table_triples mode plan.number new.head.columns g.0.more)) (sym same) g.0.took;
              ready = subst (IsAsReady out.is_open out.failed before.sink) (sym same) g.1;
              recorded = recorded_step out.contents rules law plan.number g.0.more before.book between.book after.book before.records after.records
                  g.0.kept writes forgets;
            };
            told = g.0.told;
            keeps = g.0.keeps;
          };
        }

    -- the end, after which the records were written
    pub end_step : ((mode : Mode) (bytes : List ℕ) (given : List Given) (rows : List Row) → TableHolds plan mode old bytes false given rows
        → GivesWhole out.gains plan mode bytes rows old new (outlets before.sink before.book) (outlets between.sink between.book)
        × IsAsReady out.is_open out.failed before.sink between.sink) → TakesEnd out rules plan old new before after
    end_step ends mode bytes given rows h =
        let g = ends mode bytes given rows h in
        record {
          more = g.0.more;
          holds = g.0.holds;
          takes = record {
            takes = record {
              took = subst (out.gains before.sink (table_triples mode plan.number new.head.columns g.0.more)) (sym same) g.0.took;
              ready = subst (IsAsReady out.is_open out.failed before.sink) (sym same) g.1;
              recorded = recorded_step out.contents rules law plan.number g.0.more before.book between.book after.book before.records after.records
                  g.0.kept writes forgets;
            };
            told = g.0.told;
            keeps = g.0.keeps;
          };
        }
