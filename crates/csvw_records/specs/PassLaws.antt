-- Laws of a pass over a text, and its continuation over more text.
use Rattle.std.specs.Prelude.{◌≡◌, ◌⊎◌, ℕ, ◌-◌, ◌<◌, ◌≤◌, Bool, true, false, nat_lt, List, [], ◌∷◌, ◌++◌, length, take, get_or, Some}
use Rattle.csvw_records.specs.declared.dialect.Dialect.{Dialect}
use Rattle.csvw_records.specs.declared.scan.State.{State}
use Rattle.csvw_records.specs.declared.scan.State.TheVariants.{Start, Plain, Inside}
use Rattle.csvw_records.specs.declared.scan.Step.{Step}
use Rattle.csvw_records.specs.declared.scan.Step.TheVariants.{Keep, Skip, Open, Next, End, Stop}
use Rattle.csvw_records.specs.declared.stop.RowStop.{RowStop}
use Rattle.csvw_records.specs.Files.{is_ignored}
use Rattle.csvw_records.specs.Grammar.{terminator_len, IsPlain}
use Rattle.csvw_records.specs.NextRow.{settled, unsettled, line_of, found_row, next_row}
use Rattle.csvw_records.specs.Scan.{Outcome, Found, Broken, Unfinished, run, pass}

-- whether the text begins with a terminator
abbrev pub ends_at : Dialect → List ℕ → Bool
ends_at d text = nat_lt 0 (terminator_len d text)

-- the pass after a step
abbrev pub act_run : Dialect → List (List ℕ) → List ℕ → ℕ → List ℕ → Step → Outcome
act_run d vs cur c cs (Keep next) = run d next vs (cur ++ c ∷ []) cs
act_run d vs cur c cs (Skip next) = run d next vs cur cs
act_run d vs cur c cs Open = run d Inside vs [] cs
act_run d vs cur c cs Next = run d Start (vs ++ cur ∷ []) [] cs
act_run d vs cur c cs End = Found (vs ++ cur ∷ []) (c ∷ cs)
act_run d vs cur c cs (Stop stop) = Broken stop (c ∷ cs)

-- no terminator arises at the place where the texts are joined
abbrev pub Clear : Dialect → List ℕ → List ℕ → Type 0
Clear d [] q = Unit {0}
Clear d (c ∷ cs) q = (terminator_len d (c ∷ cs ++ q) ≡ terminator_len d (c ∷ cs)) × Clear d cs q

-- how a pass continues over more text
abbrev pub goes_on : Dialect → Outcome → List ℕ → Outcome
goes_on d (Found vs after) q = Found vs (after ++ q)
goes_on d (Broken stop rest) q = Broken stop (rest ++ q)
goes_on d (Unfinished st vs cur) q = run d st vs cur q

pub record PassLaws : Type 0 where
  -- a text is its settled part and the rest, which is nothing or a CR
  pub settled_all : (d : Dialect) (text : List ℕ) → settled d text ++ unsettled d text ≡ text
  pub unsettled_is : (d : Dialect) (text : List ℕ) → (unsettled d text ≡ []) ⊎ ((unsettled d text ≡ 13 ∷ []) × (d.line_terminators.crlf ≡ true))
  -- a CR at the end isn't settled if it may begin a terminator; all else is settled
  pub settled_last : (d : Dialect) (text : List ℕ) → d.line_terminators.crlf ≡ true → 0 < length text → get_or text (length text - 1) 0 ≡ 13
      → take (length text - 1) text ≡ settled d text
  pub settled_same : (d : Dialect) (text : List ℕ) → (d.line_terminators.crlf ≡ true → 0 < length text → get_or text (length text - 1) 0 ≡ 13 → ⊥)
      → text ≡ settled d text
  -- no terminator arises after the settled part, whatever follows
  pub settled_clear : (d : Dialect) (text more : List ℕ) → Clear d (settled d text) (unsettled d text ++ more)
  pub clear_all : (d : Dialect) (part : List ℕ) → Clear d (settled d part) (unsettled d part)
  -- a pass over two texts is a pass over the first that continues over the second
  pub run_join : (d : Dialect) (st : State) (vs : List (List ℕ)) (cur p q : List ℕ) → Clear d p q
      → run d st vs cur (p ++ q) ≡ goes_on d (run d st vs cur p) q
  -- text without symbols is kept as it is
  pub run_plain : (f : Bool) (d : Dialect) (vs : List (List ℕ)) (cur source after : List ℕ) → IsPlain d source after
      → pass f d Plain vs cur (source ++ after) ≡ pass f d Plain vs (cur ++ source) after
  -- a rule is broken by a character of the text
  pub broken_within : (d : Dialect) (st : State) (vs : List (List ℕ)) (cur text : List ℕ) (stop : RowStop) (rest : List ℕ)
      → run d st vs cur text ≡ Broken stop rest → (length rest ≤ length text) × (0 < length rest)
  -- a line that ends in the first of two texts ends there in both
  pub line_joins : (d : Dialect) (f : Bool) (p q after : List ℕ) → Clear d p q → line_of false d p ≡ Some after → line_of f d (p ++ q) ≡ Some (after ++ q)
  -- a row that is not a comment is what a pass finds
  pub fields_next : (f : Bool) (d : Dialect) (i : ℕ) (text : List ℕ) → is_ignored d i text ≡ false
      → next_row f d i text ≡ found_row d (pass f d Start [] [] text)
