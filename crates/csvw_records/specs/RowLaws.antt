-- Laws that connect the row that a pass finds with the rows of a text (RFC 4180, section 2).
use Rattle.std.specs.Prelude.{◌≡◌, ◌⊎◌, ℕ, ◌<◌, Bool, false, List, [], ◌∷◌, ◌++◌, take, Option, Some, None}
use Rattle.csvw_records.specs.declared.dialect.Dialect.{Dialect}
use Rattle.csvw_records.specs.Lawful.{IsLawful}
use Rattle.csvw_records.specs.declared.scan.State.{State}
use Rattle.csvw_records.specs.declared.scan.State.TheVariants.{Start, Plain, Inside, Escaped, Closed}
use Rattle.csvw_records.specs.declared.stop.RowStop.{RowStop}
use Rattle.csvw_records.specs.declared.stop.RowStop.TheVariants.{BadQuote, TextAfterQuote}
use Rattle.csvw_records.specs.Files.{Row, IsRow, AreRows, EndsRow, HasNoTerminator}
use Rattle.csvw_records.specs.Grammar.{terminator_len, IsPlain, AreSkipped, IsOpened, IsQuoted}
use Rattle.csvw_records.specs.NextRow.{line_of, next_row}
use Rattle.csvw_records.specs.PartOfRow.{HasRow, Continues, Breaks}
use Rattle.csvw_records.specs.Scan.{Outcome, Found, Broken, Unfinished, run}
use Rattle.csvw_records.specs.Stops.{AfterFields, HasBadQuote, HasTextAfter}

-- the row that is found is a row of the text
pub record ReadsRow (f : Bool) (d : Dialect) (i : ℕ) (text : List ℕ) (fields : Option (List (List ℕ))) (after : List ℕ) : Type 0 where
  pub row : List ℕ
  pub spelled : text ≡ row ++ after
  pub is_row : IsRow d i (record { text = row; fields = fields }) after
  pub ends : EndsRow f d after

-- a text begins with one row
pub record SameRow (a b : Row) (after later : List ℕ) : Type 0 where
  pub row : a ≡ b
  pub rest : after ≡ later

-- the rows also come before other text
pub record Again (d : Dialect) (i : ℕ) (text : List ℕ) (rows : List Row) (rest : List ℕ) : Type 0 where
  pub front : List ℕ
  pub spelled : text ≡ front ++ rest
  pub again : (more : List ℕ) → AreRows d i (front ++ more) rows more

-- what was read of a field
abbrev pub IsReading : Dialect → State → List ℕ → List ℕ → List ℕ → Type 0
IsReading d Start src cur text = ((q : ℕ) → d.quote_char ≡ Some q → AreSkipped d q src) × IsPlain d src text × (cur ≡ src)
IsReading d Plain src cur text = ((q : ℕ) → d.quote_char ≡ Some q → AreSkipped d q src → ⊥) × IsPlain d src text × (cur ≡ src)
IsReading d Inside src cur text = IsOpened d src cur
IsReading d Escaped src cur text = (opened : List ℕ) × IsOpened d opened cur × (src ≡ opened ++ 92 ∷ []) × (d.double_quote ≡ false)
IsReading d Closed src cur text = IsQuoted d src cur

-- the rule on quotes by its name
abbrev pub IsRule : Dialect → List ℕ → RowStop → Type 0
IsRule d text BadQuote = HasBadQuote d text
IsRule d text TextAfterQuote = HasTextAfter d text
IsRule d text other = ⊥

-- the text, if a pass found no row in it
abbrev pub Tells : Dialect → List ℕ → Outcome → Type 0
Tells d text (Found vs after) = Unit {0}
Tells d text (Broken stop rest) = IsRule d text stop
Tells d text (Unfinished st vs cur) = (values : List (List ℕ)) × (src : List ℕ) × AfterFields d text values src × IsReading d st src cur []

-- what a part is
abbrev pub Sees : Dialect → ℕ → List ℕ → Type 0
Sees d i part = HasRow d i part ⊎ (((len : ℕ) × Continues d i part len) ⊎ ((stop : RowStop) × Breaks d i part stop))

pub record RowLaws : Type 0 where
  -- a line at the front is found, and so is a row
  pub line_complete : (f : Bool) (d : Dialect) (text after : List ℕ) → HasNoTerminator d text after → EndsRow f d after
      → line_of f d (text ++ after) ≡ Some after
  pub row_complete : (f : Bool) (d : Dialect) (i : ℕ) (row : Row) (after : List ℕ) → IsLawful d → IsRow d i row after → EndsRow f d after
      → next_row f d i (row.text ++ after) ≡ Some (row.fields, after)
  -- a row that is found is at the front
  pub row_sound : (f : Bool) (d : Dialect) (i : ℕ) (text : List ℕ) (fields : Option (List (List ℕ))) (after : List ℕ) → IsLawful d
      → next_row f d i text ≡ Some (fields, after) → ReadsRow f d i text fields after
  -- there is one
  pub row_unique : (f : Bool) (d : Dialect) (i : ℕ) (a b : Row) (after later : List ℕ) → IsLawful d → a.text ++ after ≡ b.text ++ later
      → IsRow d i a after → EndsRow f d after → IsRow d i b later → EndsRow f d later → SameRow a b after later
  -- it stays whatever follows its terminator
  pub row_stays : (d : Dialect) (i : ℕ) (row : Row) (after more : List ℕ) → IsRow d i row after → 0 < terminator_len d after → IsRow d i row (after ++ more)
  pub rows_again : (d : Dialect) (i : ℕ) (text : List ℕ) (rows : List Row) (rest : List ℕ) → AreRows d i text rows rest → Again d i text rows rest
  -- the empty text has no row with its terminator
  pub no_more : (d : Dialect) (i : ℕ) (b : Row) (bs : List Row) (rest : List ℕ) → AreRows d i [] (b ∷ bs) rest → ⊥
  -- a rule that is broken in a part leaves no row, whatever follows
  pub breaks_none : (d : Dialect) (i : ℕ) (part : List ℕ) (stop : RowStop) → IsLawful d → Breaks d i part stop
      → (row : Row) (more after : List ℕ) → part ++ more ≡ row.text ++ after → IsRow d i row after → 0 < terminator_len d after → ⊥
  pub breaks_next : (f : Bool) (d : Dialect) (i : ℕ) (text : List ℕ) (k : ℕ) (stop : RowStop) → Breaks d i (take k text) stop → next_row f d i text ≡ None
  -- the result of a pass over a text, and what each part is
  pub run_tells : (d : Dialect) (text : List ℕ) → Tells d text (run d Start [] [] text)
  pub sees : (d : Dialect) (i : ℕ) (part : List ℕ) → IsLawful d → Sees d i part
