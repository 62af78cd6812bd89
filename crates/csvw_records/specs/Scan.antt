-- The fields of a row, by one pass over the text. This is what the code computes. The laws in proofs/ connect it to RowText.
use Rattle.std.specs.Prelude.{ℕ, Bool, true, false, ◌&&◌, ◌==◌, not, if◌then◌else◌, List, [], ◌∷◌, ◌++◌, nat_lt, Option, Some, None}
use Rattle.csvw_records.specs.declared.dialect.Dialect.{Dialect}
use Rattle.csvw_records.specs.declared.stop.RowStop.{RowStop}
use Rattle.csvw_records.specs.declared.stop.RowStop.TheVariants.{BadQuote, TextAfterQuote, UnclosedQuote}
use Rattle.csvw_records.specs.declared.scan.State.{State}
use Rattle.csvw_records.specs.declared.scan.State.TheVariants.{Start, Plain, Inside, Escaped, Closed}
use Rattle.csvw_records.specs.declared.scan.Step.{Step}
use Rattle.csvw_records.specs.declared.scan.Step.TheVariants.{Keep, Skip, Open, Next, End, Stop}
use Rattle.csvw_records.specs.Grammar.{terminator_len}

abbrev pub quote_is : Option ℕ → ℕ → Bool
quote_is None c = false
quote_is (Some q) c = c == q

abbrev pub step_of : Dialect → State → ℕ → Bool → Step
step_of d Start c ends = if ends then End else (if c == d.delimiter then Next else (if quote_is d.quote_char
    c then Open else (if d.skip_initial_space && (c == 32) then Keep Start else Keep Plain)))
step_of d Plain c ends = if ends then End else (if c == d.delimiter then Next else (if quote_is d.quote_char c then Stop BadQuote else Keep Plain))
step_of d Inside c ends = if quote_is d.quote_char c then Skip Closed else (if not d.double_quote && (c == 92) then Skip Escaped else Keep Inside)
step_of d Escaped c ends = Keep Inside
step_of d Closed c ends = if ends then End else (if
    c == d.delimiter then Next else (if d.double_quote && quote_is d.quote_char c then Keep Inside else Stop TextAfterQuote))

-- The result of a pass: the values of the fields and the text after the row; or a broken rule and the text from the character on that breaks it; or the place
-- in a field at which the text ended.
pub data Outcome : Type 0 where
  Found : List (List ℕ) → List ℕ → Outcome
  Broken : RowStop → List ℕ → Outcome
  Unfinished : State → List (List ℕ) → List ℕ → Outcome

abbrev pub run : Dialect → State → List (List ℕ) → List ℕ → List ℕ → Outcome
run d st vs cur [] = Unfinished st vs cur
run d st vs cur (c ∷ cs) = elim (step_of d st c (nat_lt 0 (terminator_len d (c ∷ cs)))) [
  | Keep next ↦ run d next vs (cur ++ c ∷ []) cs
  | Skip next ↦ run d next vs cur cs
  | Open ↦ run d Inside vs [] cs
  | Next ↦ run d Start (vs ++ cur ∷ []) [] cs
  | End ↦ Found (vs ++ cur ∷ []) (c ∷ cs)
  | Stop stop ↦ Broken stop (c ∷ cs)
]

-- whether a state is inside quotes
abbrev pub is_quoted : State → Bool
is_quoted Start = false
is_quoted Plain = false
is_quoted Inside = true
is_quoted Escaped = true
is_quoted Closed = false

-- if the text has ended for good, the rest is the last row, unless a quote is open
abbrev pub finish : Outcome → Bool → Outcome
finish (Found values after) ended = Found values after
finish (Broken stop rest) ended = Broken stop rest
finish (Unfinished Start vs cur) ended = if ended then Found (vs ++ cur ∷ []) [] else Unfinished Start vs cur
finish (Unfinished Plain vs cur) ended = if ended then Found (vs ++ cur ∷ []) [] else Unfinished Plain vs cur
finish (Unfinished Closed vs cur) ended = if ended then Found (vs ++ cur ∷ []) [] else Unfinished Closed vs cur
finish (Unfinished Inside vs cur) ended = if ended then Broken UnclosedQuote [] else Unfinished Inside vs cur
finish (Unfinished Escaped vs cur) ended = if ended then Broken UnclosedQuote [] else Unfinished Escaped vs cur

abbrev pub pass : Bool → Dialect → State → List (List ℕ) → List ℕ → List ℕ → Outcome
pass ended d st vs cur text = finish (run d st vs cur text) ended
