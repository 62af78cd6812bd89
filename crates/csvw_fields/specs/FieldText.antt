-- Text in which a pass over a field stays in its state, and doubled quotes.
use Rattle.std.specs.Prelude.{◌≡◌, ◌≢◌, ◌⊎◌, ℕ, ◌+◌, ◌<◌, ◌≤◌, true, false, List, [], ◌∷◌, length, take, Some, encode_utf8, slice_index}
use Rattle.csvw_records.specs.declared.dialect.Dialect.{Dialect}
use Rattle.csvw_fields.specs.declared.leads.Leads.{Leads}
use Rattle.csvw_records.specs.declared.scan.State.{State}
use Rattle.csvw_records.specs.declared.scan.State.TheVariants.{Start, Plain, Inside, Escaped, Closed}
use Rattle.csvw_records.specs.NextRow.{unsettled}
use Rattle.csvw_records.specs.Scan.{quote_is}

-- the dialect's symbols begin with these bytes
pub record IsLeads (d : Dialect) (l : Leads) : Type 0 where
  pub delimiter : take 1 (encode_utf8 d.delimiter) ≡ l.delimiter ∷ []
  pub quote : (q : ℕ) → d.quote_char ≡ Some q → take 1 (encode_utf8 q) ≡ l.quote ∷ []
  pub escape : d.double_quote ≡ false → l.escape ≡ 92

-- no character is a delimiter, a quote or a line feed
abbrev pub HasNoSymbol : Dialect → List ℕ → Type 0
HasNoSymbol d [] = Unit {0}
HasNoSymbol d (c ∷ cs) = (c ≢ d.delimiter) × (quote_is d.quote_char c ≡ false) × (c ≢ 10) × HasNoSymbol d cs

-- no character ends the quotes or begins an escape
abbrev pub HasNoEscape : Dialect → List ℕ → Type 0
HasNoEscape d [] = Unit {0}
HasNoEscape d (c ∷ cs) = (quote_is d.quote_char c ≡ false) × (d.double_quote ≡ false → c ≢ 92) × HasNoEscape d cs

-- a line feed that follows makes no terminator with the last character
abbrev pub IsApart : Dialect → List ℕ → List ℕ → Type 0
IsApart d cs after = (unsettled d cs ≡ []) ⊎ (take 1 after ≢ 10 ∷ [])

-- the text of a field continues in this state, with these characters after it
abbrev pub IsClean : Dialect → State → List ℕ → List ℕ → Type 0
IsClean d Start cs after = cs ≡ []
IsClean d Plain cs after = HasNoSymbol d cs × IsApart d cs after
IsClean d Inside cs after = HasNoEscape d cs
IsClean d Escaped cs after = cs ≡ []
IsClean d Closed cs after = cs ≡ []

-- text that continues a field inside quotes begins with so many doubled quotes, which are ASCII characters
pub record AreDoubled (d : Dialect) (st : State) (text : List ℕ) (n : ℕ) : Type 0 where
  pub quote : ℕ
  pub inside : 0 < n → st ≡ Inside
  pub double : 0 < n → d.double_quote ≡ true
  pub quote_is : 0 < n → d.quote_char ≡ Some quote
  pub ascii : quote < 128
  pub within : n + n ≤ length text
  pub quotes : (k : ℕ) → k < n + n → slice_index text k ≡ quote
