-- The start of a row that was read, and the result of reading on.
use Rattle.std.specs.Prelude.{◌≡◌, ◌⊎◌, ℕ, ◌+◌, ◌-◌, ◌<◌, ◌≤◌, Bool, true, false, List, [], ◌∷◌, ◌++◌, length, take, drop, map, nat_lt, chars}
use Rattle.std.specs.Str.{is_utf8}
use Rattle.csvw_records.specs.declared.dialect.Dialect.{Dialect}
use Rattle.csvw_fields.specs.declared.draft.Draft.{Draft}
use Rattle.csvw_fields.specs.declared.draft.Reading.{Reading}
use Rattle.csvw_fields.specs.declared.draft.Reading.TheVariants as reading
use Rattle.csvw_records.specs.declared.scan.State.{State}
use Rattle.csvw_records.specs.declared.stop.RowStop.{RowStop}
use Rattle.csvw_records.specs.declared.stop.RowStop.TheVariants.{UnclosedQuote}
use Rattle.csvw_records.specs.declared.scan.State.TheVariants.{Start}
use Rattle.csvw_fields.specs.Bounds.{texts_apart}
use Rattle.csvw_records.specs.Grammar.{terminator_len}
use Rattle.csvw_records.specs.NextRow.{settled}
use Rattle.csvw_records.specs.Scan.{Outcome, Found, Broken, Unfinished, run, pass, is_quoted}

-- the number of bytes of the row that were read
abbrev pub read_of : Draft → ℕ
read_of s = s.read

-- the place in a field at which reading stopped
abbrev pub state_of : Draft → State
state_of s = s.state

-- the values of the fields that are whole
abbrev pub values_of : Draft → List (List ℕ)
values_of s = map chars (texts_apart s.texts.items s.bounds.items)

-- the part of the next field that was read
abbrev pub current_of : Draft → List ℕ
current_of s = chars (drop s.from s.texts.items)

-- nothing was read
pub record IsFresh (s : Draft) : Type 0 where
  pub read : read_of s ≡ 0
  pub state : state_of s ≡ Start
  pub values : values_of s ≡ []
  pub current : current_of s ≡ []

-- the pass continues from there
abbrev pub runs_on : Dialect → Draft → List ℕ → Outcome
runs_on d s text = run d (state_of s) (values_of s) (current_of s) text

-- no terminator arises at the place where a text is joined to another
abbrev pub NoneArises : Dialect → List ℕ → List ℕ → Type 0
NoneArises d text after = (k : ℕ) → k < length text → terminator_len d (drop k text ++ after) ≡ terminator_len d (drop k text)

-- it read the front of these bytes; the pass stops with this state and these values, whatever follows
pub record IsDraft (d : Dialect) (s : Draft) (rest : List ℕ) : Type 0 where
  pub within : read_of s ≤ length rest
  pub back : is_utf8 (drop (read_of s) rest) ≡ true
  pub clear : (more : List ℕ) → NoneArises d (chars (take (read_of s) rest)) (chars (drop (read_of s) rest) ++ more)
  pub runs : run d Start [] [] (chars (take (read_of s) rest)) ≡ Unfinished (state_of s) (values_of s) (current_of s)

-- after a character; a terminator may begin with it
abbrev pub Steps : Dialect → Draft → Draft → ℕ → Bool → Reading → Type 0
Steps d old new c ends reading.Unfinished = (cs : List ℕ) → nat_lt 0 (terminator_len d (c ∷ cs)) ≡ ends → runs_on d old (c ∷ cs) ≡ runs_on d new cs
Steps d old new c ends reading.Ended = (cs : List ℕ) → nat_lt 0 (terminator_len d (c ∷ cs)) ≡ ends → runs_on d old (c ∷ cs) ≡ Found (values_of new) (c ∷ cs)
Steps d old new c ends (reading.Broken stop) = (cs : List ℕ) → nat_lt 0 (terminator_len d (c ∷ cs)) ≡ ends → runs_on d old (c ∷ cs) ≡ Broken stop (c ∷ cs)

-- after a front of the text with which the field continues
pub record Keeps (d : Dialect) (old new : Draft) (text left : List ℕ) : Type 0 where
  pub within : length left ≤ length text
  pub is_text : is_utf8 left ≡ true
  pub back : drop (length text - length left) text ≡ left
  pub runs : runs_on d old (chars text) ≡ runs_on d new (chars left)

-- so many bytes of the text were read, up to a terminator
pub record IsEnded (d : Dialect) (old new : Draft) (text : List ℕ) (len : ℕ) : Type 0 where
  pub read : read_of new ≡ read_of old + len
  pub within : len ≤ length text
  pub back : is_utf8 (drop len text) ≡ true
  pub found : runs_on d old (chars text) ≡ Found (values_of new) (chars (drop len text))

-- so many bytes of the text were read, and the character after them breaks a rule
pub record IsBrokenOff (d : Dialect) (old new : Draft) (text : List ℕ) (stop : RowStop) (len : ℕ) : Type 0 where
  pub read : read_of new ≡ read_of old + len
  pub within : len ≤ length text
  pub back : is_utf8 (drop len text) ≡ true
  pub broken : runs_on d old (chars text) ≡ Broken stop (chars (drop len text))

-- after a text
abbrev pub Reads : Dialect → Draft → Draft → List ℕ → Reading → Type 0
Reads d old new text reading.Unfinished = (read_of new ≡ read_of old + length text)
    × (runs_on d old (chars text) ≡ Unfinished (state_of new) (values_of new) (current_of new))
Reads d old new text reading.Ended = (len : ℕ) × IsEnded d old new text len
Reads d old new text (reading.Broken stop) = (len : ℕ) × IsBrokenOff d old new text stop len

-- all that is settled of these bytes was read, and no row is complete in it
pub record IsOpen (d : Dialect) (s : Draft) (rest : List ℕ) : Type 0 where
  pub draft : IsDraft d s rest
  pub all : chars (take (read_of s) rest) ≡ settled d (chars rest)

-- a row of these bytes was read, up to its terminator or the end of the last text
pub record IsRowRead (d : Dialect) (is_last : Bool) (s : Draft) (rest : List ℕ) : Type 0 where
  pub within : read_of s ≤ length rest
  pub back : is_utf8 (drop (read_of s) rest) ≡ true
  pub found : pass is_last d Start [] [] (chars rest) ≡ Found (values_of s) (chars (drop (read_of s) rest))

-- the character after what was read breaks a rule, whatever comes after the text
pub record IsBrokenThere (d : Dialect) (is_last : Bool) (s : Draft) (rest : List ℕ) (stop : RowStop) : Type 0 where
  pub within : read_of s < length rest
  pub back : is_utf8 (drop (read_of s) rest) ≡ true
  pub broken : run d Start [] [] (chars rest) ≡ Broken stop (chars (drop (read_of s) rest))
  pub settled : is_last ≡ false → length (chars (take (read_of s) rest)) < length (settled d (chars rest))

-- all of the last text was read, and a quote is open
pub record IsLeftInQuotes (d : Dialect) (is_last : Bool) (s : Draft) (rest : List ℕ) (stop : RowStop) : Type 0 where
  pub ended : is_last ≡ true
  pub all : read_of s ≡ length rest
  pub name : stop ≡ UnclosedQuote
  pub runs : run d Start [] [] (chars rest) ≡ Unfinished (state_of s) (values_of s) (current_of s)
  pub quoted : is_quoted (state_of s) ≡ true

-- after these bytes, whose front was read before
abbrev pub GoesOn : Dialect → Bool → Draft → List ℕ → Reading → Type 0
GoesOn d is_last s rest reading.Unfinished = (is_last ≡ false) × IsOpen d s rest
GoesOn d is_last s rest reading.Ended = IsRowRead d is_last s rest
GoesOn d is_last s rest (reading.Broken stop) = IsBrokenThere d is_last s rest stop ⊎ IsLeftInQuotes d is_last s rest stop
