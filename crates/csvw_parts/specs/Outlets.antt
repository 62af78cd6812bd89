-- Where the triples and the records of a part go: `Outs`, `Kept`, `TakesRows`.
use Rattle.std.specs.Prelude.{ℕ, Bool, List, Option}
use Rattle.csvw_annotate.specs.declared.row.Row.{Row}
use Rattle.csvw_columns_core.specs.declared.columns.Columns.{Columns}
use Rattle.csvw_engine_core.specs.Tables.{table_triples}
use Rattle.csvw_keys.specs.Books.{no_rows}
use Rattle.csvw_keys.specs.KeyRules.{KeyRule}
use Rattle.csvw_keys.specs.Tables.{with_rows}
use Rattle.csvw_keys.specs.declared.key_book.KeyBook.{KeyBook}
use Rattle.csvw_streams.specs.declared.counted.Counted.{Counted}
use Rattle.csvw_triples_core.specs.Taking.{IsAsReady}
use Rattle.csvw_triples_core.specs.declared.mode.Mode.{Mode}
use Rattle.csvw_triples_core.specs.declared.term.Triple.{Triple}
use Rattle.csvw_parts.specs.Recording.{Recorded}

-- what is said of a sink and a writer
pub record Outs (S W : Type 0) : Type 1 where
  pub gains : S → List Triple → S → Type 0
  pub is_open : S → Bool
  pub failed : S → ℕ
  pub contents : W → Option (List ℕ)

abbrev pub outs : {S W : Type 0} → (S → List Triple → S → Type 0) → (S → Bool) → (S → ℕ) → (W → Option (List ℕ)) → Outs S W
outs gains is_open failed contents = record { gains = gains; is_open = is_open; failed = failed; contents = contents }

-- the sink for triples, the book of keys, and the writer of records, if there is one
pub record Kept (S W : Type 0) : Type 0 where
  pub sink : S
  pub book : KeyBook
  pub records : Option (Counted W)

abbrev pub kept : {S W : Type 0} → S → KeyBook → Option (Counted W) → Kept S W
kept sink book records = record { sink = sink; book = book; records = records }

-- rows of one table
abbrev pub only : ℕ → List Row → ℕ → List Row
only table rows = with_rows no_rows table rows

-- The sink took the triples of rows of a table, and is open or closed as before. The records of their keys were written, if they are asked for.
pub record TakesRows {S W : Type 0} (out : Outs S W) (rules : List KeyRule) (mode : Mode) (table : ℕ) (columns : Option Columns) (rows : List Row)
    (before after : Kept S W) : Type 0 where
  pub took : out.gains before.sink (table_triples mode table columns rows) after.sink
  pub ready : IsAsReady out.is_open out.failed before.sink after.sink
  pub recorded : Recorded out.contents rules (only table rows) before.book after.book before.records after.records
