-- The rows of a file so far: their counts, and where one ends.
use Rattle.std.proofs.Common.{◌≡◌, ℕ, ◌+◌, ◌-◌, ◌<◌, ◌≤◌, ◌^◌, Bool, true, false, List, [], ◌∷◌, ◌++◌, length, drop, min, refl, sym, ap, subst, ◌∙◌, arith, inl, inr}
use Rattle.std.proofs.Common.{Option, Some, None, length-drop}
use Rattle.std.specs.List.{enumerate_from, filter_map, cons_option}
use Rattle.std.specs.Str.{chars}
use Rattle.std.specs.Str.Lossy.{utf8_valid_len}
use Rattle.std.proofs.lemmas.Bool.Decides.{nat_tests}
use Rattle.std.proofs.lemmas.List.{length-map}
use Rattle.std.proofs.lemmas.List.FromFn.{length-enumerate_from}
use Rattle.std.proofs.lemmas.Str.{utf8_valid_len_le}
use Rattle.csvw_records.specs.declared.dialect.Dialect.{Dialect}
use Rattle.csvw_records.specs.Files.{AreRows, Body, Row, content, given as given_row, is_text, remaining, remaining_fields}
use Rattle.csvw_records.specs.RowValue.{Given}
use Rattle.csvw_rows.specs.declared.rows.Rows.{Rows}
use Rattle.csvw_rows.specs.RowsState.{Holds}
use Rattle.csvw_rows.specs.Skips.{unread_bytes_of}
use Rattle.csvw_rows.specs.SourceState.{pending_of, rest_bytes, rest_of}
use Rattle.csvw_part_laws.specs.Parts.{AreWholeRows}
use Rattle.csvw_split.specs.declared.file.FileRows.{FileRows}
use Rattle.csvw_split.specs.FileState.{Follows, HasGiven, HasRows, data_rows_of, given_of, max_rows, rows_of}
use Rattle.csvw_split.specs.Passing.{PassesMany}

-- rows that were read, and then some more
pub many_more : (a b e : Rows) (n m k : ℕ) → PassesMany a b n → PassesMany b e m → k ≡ n + m → PassesMany a e k
many_more a b e n m k p q is = λ d max text ended given h.
    let x = p d max text ended given h in
    let y = q d max text ended x.0 x.1 in
    let one = x.2 in
    let two = y.2 in
    (y.0, y.1, omega arith)

cons_le : {X Y : Type 0} (o : Option Y) (x : X) (ys : List Y) (xs : List X) → length ys ≤ length xs → length (cons_option o ys) ≤ length (x ∷ xs)
cons_le None x ys xs few = omega arith
cons_le (Some y) x ys xs few = omega arith

filter_map_le : {X Y : Type 0} (h : X → Option Y) (xs : List X) → length (filter_map h xs) ≤ length xs
filter_map_le h [] = omega arith
filter_map_le h (x ∷ xs) = cons_le (h x) x (filter_map h xs) xs (filter_map_le h xs)

body_len : (d : Dialect) (rows : List Row) → length (Body d rows) ≡ length (remaining d 1 rows)
body_len d rows = length-map (enumerate_from 0 (remaining d 1 rows)) (given_row d) ∙ length-enumerate_from 0 (remaining d 1 rows)

remaining_few : (d : Dialect) (rows : List Row) → length (remaining d 1 rows) ≤ length rows
remaining_few d rows =
    let few = filter_map_le (λ (r : ℕ × Row). remaining_fields d r.0 r.1.fields) (enumerate_from 1 rows) in
    omega (arith, length-enumerate_from 1 rows)

-- at most so many rows were returned as were read
pub few_given : (s : Rows) (d : Dialect) (max : ℕ) (text : List ℕ) (ended : Bool) (given : List Given) → Holds s d max text ended given
    → length given ≤ max
few_given s d max text ended given h =
    let few = remaining_few d h.rows in
    let all = ap length h.given_is ∙ body_len d h.rows in
    let within = h.read.limits.0 in
    omega arith

-- some bytes were fed, and the rows that are complete were read
pub feed_follows : (old new : FileRows) (mid : Rows) (d : Dialect) (text piece : List ℕ) (count : ℕ)
    → ((d : Dialect) (max : ℕ) (bytes : List ℕ) (given : List Given) → Holds old.rows d max bytes false given → Holds mid d max (bytes ++ piece) false given)
    → PassesMany mid new.rows count → new.headers ≡ old.headers → new.given ≡ min (old.given + count) (2 ^ 64 - 1)
    → Follows old d text → Follows new d (text ++ piece)
feed_follows old new mid d text piece count feeds many headers given f =
    let fed = feeds d max_rows text f.given f.holds in
    let passed = many d max_rows (text ++ piece) false f.given fed in
    let few = few_given new.rows d max_rows (text ++ piece) false passed.0 passed.1 in
    let all = passed.2 in
    let was = f.count in
    record {
      given = passed.0;
      holds = passed.1;
      count = omega arith;
      headers = headers ∙ f.headers;
    }

pub none_left : {X : Type 0} (xs : List X) → length xs ≡ 0 → xs ≡ []
none_left [] none = refl
none_left (x ∷ xs) none = absurd (omega arith)

no_chars : chars (let e : List ℕ = [] in e) ≡ []
unfolding chars
no_chars = refl

whole_text : (text : List ℕ) → drop (utf8_valid_len text) text ≡ [] → is_text text ≡ true
whole_text text none =
    let at = length-drop (utf8_valid_len text) text in
    let no = ap length none in
    let within = utf8_valid_len_le text in
    let same : utf8_valid_len text ≡ length text = omega arith in
    grind (arith, nat_tests)

-- nothing is left, so the rows are all of the text
all_read : (s : Rows) (d : Dialect) (text : List ℕ) (given : List Given) → (h : Holds s d max_rows text false given) → rest_of s.source ≡ []
    → AreRows d 0 (content text) h.rows []
all_read s d text given h none =
    elim h.read.reached [
      | inl rows ↦ subst (AreRows d 0 (content text) h.rows) none rows
      | inr ends ↦ let no = ends.0 in cc
    ]

-- nothing is unread, so a row ends there
ends_whole : (s : FileRows) (d : Dialect) (text : List ℕ) → (f : Follows s d text) → unread_bytes_of s.rows ≡ 0 → 1 < s.rows.row + 1
    → AreWholeRows d text f.holds.rows
ends_whole s d text f none some =
    let h = f.holds in
    let rest : rest_bytes s.rows.source ≡ [] = none_left (rest_bytes s.rows.source) (omega arith) in
    let pending : pending_of s.rows.source ≡ [] = none_left (pending_of s.rows.source) (omega arith) in
    let row = h.row_is in
    record {
      is_utf8 = whole_text text (sym h.decodes.pending ∙ pending);
      are_rows = all_read s.rows d text f.given h (ap chars rest ∙ no_chars);
      some = omega arith;
      short = h.read.limits.1;
    }

-- the counts of all rows and of the data rows
pub row_ends : (s : FileRows) (d : Dialect) (text : List ℕ) → Follows s d text → unread_bytes_of s.rows ≡ 0 → 1 < s.rows.row + 1
    → HasRows d text (rows_of s) (data_rows_of s)
row_ends s d text f none some =
    let h = f.holds in
    let row = h.row_is in
    let body = ap length h.given_is ∙ body_len d h.rows in
    let count = f.count in
    let headers = f.headers in
    record { all = h.rows; whole = ends_whole s d text f none some; rows_are = omega arith; data_rows_are = omega arith }

-- the counts of all rows, and of the header rows and data rows
pub rows_given : (s : FileRows) (d : Dialect) (text : List ℕ) → Follows s d text → unread_bytes_of s.rows ≡ 0 → 1 < s.rows.row + 1
    → HasGiven d text (rows_of s) (given_of s)
rows_given s d text f none some =
    let h = f.holds in
    let row = h.row_is in
    let body = ap length h.given_is ∙ body_len d h.rows in
    let count = f.count in
    record { all = h.rows; whole = ends_whole s d text f none some; rows_are = omega arith; given_are = omega arith }
