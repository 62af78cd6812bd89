-- A row at the front that was read on to its end is a row that is taken, or one that is too long.
use Rattle.std.proofs.Common.{◌≡◌, ◌≢◌, ◌∙◌, ℕ, ◌+◌, ◌<◌, ◌≤◌, Bool, true, if◌then◌else◌, List, [], ◌++◌, map, length, take, drop, Option, Some, None}
use Rattle.std.proofs.Common.{option_map, sym, ap, arith, length-append, length-drop, length-take, ◌⊎◌, inl, inr, chars}
use Rattle.std.specs.Prelude.{IsUtf8}
use Rattle.std.specs.Str.{is_utf8}
use Rattle.std.proofs.lemmas.Bool.{cases_lt}
use Rattle.std.proofs.lemmas.Grind.{common_steps}
use Rattle.std.proofs.lemmas.List.{drop-drop}
use Rattle.std.proofs.lemmas.Str.{IsUtf8-from_is_utf8, is_utf8-from_IsUtf8, encodes-chars}
use Rattle.csvw_records.specs.declared.dialect.Dialect.{Dialect}
use Rattle.csvw_rows.specs.declared.rows.Rows.{Rows}
use Rattle.csvw_records.specs.declared.scan.State.TheVariants.{Start}
use Rattle.csvw_records.specs.declared.stop.RowStop.TheVariants.{RowTooLong}
use Rattle.csvw_records.specs.Files.{is_ignored}
use Rattle.csvw_records.specs.Grammar.{terminator_len, trimmed}
use Rattle.csvw_records.specs.Lengths.{byte_len, row_limit}
use Rattle.csvw_records.specs.AtFront.{IsFound}
use Rattle.csvw_records.specs.NextRow.{line_of, next_row, found_row}
use Rattle.csvw_rows.specs.NextRows.{StopsHere, is_last}
use Rattle.csvw_rows.specs.IgnoredRows.{NoneBegins}
use Rattle.csvw_rows.specs.RowsState.{HasRow, HasFields, IsReadable, IsReadRow, IsIgnoredNext, IsIgnoredRead, HasNoEnd, after_of}
use Rattle.csvw_records.specs.Scan.{pass}
use Rattle.csvw_rows.specs.SourceState.{rest_bytes, rest_of}
use Rattle.csvw_rows.proofs.TextLemmas.{split_chars}
use Rattle.csvw_rows.proofs.TextLemmas.{take_front}
use Rattle.csvw_rows.proofs.TextLemmas.{front_text, text_gone}
use Rattle.csvw_rows.proofs.NextLemmas.{found_takes, found_stops, seen_of}
use Rattle.csvw_rows.proofs.IgnoredLemmas.{ends_text, line_here, line_last, none_before}
use Rattle.csvw_records.specs.RecordLaws.{RecordLaws}

module _ (laws : RecordLaws) where
  -- behind a terminator, or behind none
  behind_text : (d : Dialect) (r : List ℕ) → is_utf8 r ≡ true → is_utf8 (drop (terminator_len d r) r) ≡ true
  behind_text d r u = by_end (cases_lt 0 (terminator_len d r))
    where
      by_end : (0 < terminator_len d r) ⊎ (terminator_len d r ≤ 0) → is_utf8 (drop (terminator_len d r) r) ≡ true
      by_end (inl h) = is_utf8-from_IsUtf8 (drop (terminator_len d r) r) (laws.terminators.term_text d r h (IsUtf8-from_is_utf8 r u))
      by_end (inr z) = ap (λ n. is_utf8 (drop n r)) (let e : terminator_len d r ≡ 0 = omega (arith, z) in e) ∙ u

  behind_chars : (d : Dialect) (r : List ℕ) → chars (drop (terminator_len d r) r) ≡ drop (terminator_len d r) (chars r)
  behind_chars d r = by_end (cases_lt 0 (terminator_len d r))
    where
      by_end : (0 < terminator_len d r) ⊎ (terminator_len d r ≤ 0) → chars (drop (terminator_len d r) r) ≡ drop (terminator_len d r) (chars r)
      by_end (inl h) = (laws.terminators.term_chars d r h).behind
      by_end (inr z) = let e : terminator_len d r ≡ 0 = omega (arith, z) in ap (λ n. chars (drop n r)) e ∙ sym (ap (λ n. drop n (chars r)) e)

  term_inside : (d : Dialect) (after : List ℕ) → terminator_len d after ≤ length after
  term_inside d after = by_end (cases_lt 0 (terminator_len d after))
    where
      by_end : (0 < terminator_len d after) ⊎ (terminator_len d after ≤ 0) → terminator_len d after ≤ length after
      by_end (inl h) = laws.terminators.term_within d after h
      by_end (inr z) = omega (arith, z)

-- a row at the front of a reader's text, which ends behind so many bytes
module _ (laws : RecordLaws) (t : Rows) (len : ℕ) (fields : Option (List (List ℕ))) (few : t.row < t.max_rows) (some : rest_of t.source ≢ [])
    (within : len ≤ length (rest_bytes t.source)) (back : is_utf8 (drop len (rest_bytes t.source)) ≡ true)
    (next_is : next_row (is_last (after_of t)) t.rules.dialect t.row (rest_of t.source) ≡ Some (fields, chars (drop len (rest_bytes t.source)))) where
  abbrev d : Dialect
  d = t.rules.dialect

  abbrev rest : List ℕ
  rest = rest_bytes t.source

  abbrev text : List ℕ
  text = rest_of t.source

  abbrev front : List ℕ
  front = chars (take len rest)

  abbrev after : List ℕ
  after = chars (drop len rest)

  abbrev count : ℕ
  count = length front

  abbrev term : ℕ
  term = terminator_len d (drop len rest)

  u : IsUtf8 rest
  u = IsUtf8-from_is_utf8 rest t.source.is_text

  spelled : text ≡ front ++ after
  spelled = split_chars rest len (front_text rest len u within back)

  taken : take count text ≡ front
  taken = ap (take count) spelled ∙ take_front front after

  dropped : drop count text ≡ after
  dropped = ap (drop count) spelled ∙ past front after
    where
      past : (a b : List ℕ) → drop (length a) (a ++ b) ≡ b
      past a b = grind (arith, common_steps)

  bytes : byte_len (take count text) ≡ len
  bytes = ap byte_len taken ∙ ap length (encodes-chars (take len rest) (front_text rest len u within back))
      ∙ (let k = length-take len rest in omega (arith, k, within))

  found : IsFound (is_last (after_of t)) d t.row text count fields
  found = record { within = omega (arith, ap length spelled, length-append front after); found = next_is ∙ ap (λ l. Some (fields, l)) (sym dropped) }

  same : terminator_len d after ≡ term
  same = laws.terminators.term_same d (drop len rest) (IsUtf8-from_is_utf8 (drop len rest) back)

  row_has : (n : ℕ) → len ≤ row_limit → n ≡ len + term → term ≤ length (drop len rest) → HasRow t n fields
  row_has n short value inside = record {
    len = length (take count text) + term;
    front = record {
      within = omega (arith, inside, value, within, length-drop len rest);
      is_text = ap is_utf8 behind ∙ behind_text laws d (drop len rest) back;
      same = ap chars behind ∙ behind_chars laws d (drop len rest)
          ∙ sym (ap (λ k. drop (k + term) text) (ap length taken) ∙ sym (drop-drop term count text) ∙ ap (drop term) dropped);
    };
    takes = found_takes laws (is_last (after_of t)) d t.max_rows t.row text after count term fields t.rules.lawful few some found
        (omega (arith, short, bytes)) (sym dropped) (sym same) (let k = term_inside laws d after in omega (arith, k, same));
  }
    where
      behind : drop n rest ≡ drop term (drop len rest)
      behind = ap (λ m. drop m rest) value ∙ sym (drop-drop term len rest)

  row_stops : row_limit < len → StopsHere (is_last (after_of t)) d t.max_rows t.row text RowTooLong
  row_stops long = found_stops laws (is_last (after_of t)) d t.max_rows t.row text count t.rules.lawful few some (omega (arith, long, bytes)) fields
      (seen_of laws (is_last (after_of t)) d t.row text count fields t.rules.lawful found) found

module _ (laws : RecordLaws) where
  -- the row that was read
  read_next : (t : Rows) (len : ℕ) → IsReadable t → (r : IsReadRow t len)
      → next_row (is_last (after_of t)) t.rules.dialect t.row (rest_of t.source)
      ≡ Some (Some (map (trimmed t.rules.dialect.trim) r.values), chars (drop len (rest_bytes t.source)))
  read_next t len k r = laws.passes.fields_next (is_last (after_of t)) t.rules.dialect t.row (rest_of t.source) k.not_ignored
      ∙ ap (found_row t.rules.dialect) r.found

  pub read_has : (t : Rows) (len n : ℕ) → IsReadable t → IsReadRow t len → len ≤ row_limit
      → n ≡ len + terminator_len t.rules.dialect (drop len (rest_bytes t.source))
      → terminator_len t.rules.dialect (drop len (rest_bytes t.source)) ≤ length (drop len (rest_bytes t.source)) → HasFields t n
  read_has t len n k r short value inside =
      record {
        values = r.values;
        row = row_has laws t len (Some (map (trimmed t.rules.dialect.trim) r.values)) k.few k.some r.within r.back (read_next t len k r) n short value inside;
        texts = r.texts;
      }

  pub read_stops : (t : Rows) (len : ℕ) → IsReadable t → IsReadRow t len → row_limit < len
      → StopsHere (is_last (after_of t)) t.rules.dialect t.max_rows t.row (rest_of t.source) RowTooLong
  read_stops t len k r long = row_stops laws t len (Some (map (trimmed t.rules.dialect.trim) r.values)) k.few k.some r.within r.back (read_next t len k r) long

-- and so is one without fields
ignored_finds : (f : Bool) (d : Dialect) (i : ℕ) (text : List ℕ) → is_ignored d i text ≡ true
    → next_row f d i text ≡ option_map (λ after. (None, after)) (line_of f d text)
ignored_finds f d i text e = ap (λ (b : Bool). if b then option_map (λ after. (None, after)) (line_of f d text) else found_row d (pass f d Start [] [] text)) e

ignored_next_is : (t : Rows) (len : ℕ) → IsIgnoredNext t → IsIgnoredRead t len
    → next_row (is_last (after_of t)) t.rules.dialect t.row (rest_of t.source) ≡ Some (None, chars (drop len (rest_bytes t.source)))
ignored_next_is t len k r = ignored_finds (is_last (after_of t)) t.rules.dialect t.row (rest_of t.source) k.ignored ∙ ap (option_map (λ l. (None, l))) r.line

module _ (laws : RecordLaws) where
  pub ignored_has : (t : Rows) (len n : ℕ) → IsIgnoredNext t → IsIgnoredRead t len → len ≤ row_limit
      → n ≡ len + terminator_len t.rules.dialect (drop len (rest_bytes t.source))
      → terminator_len t.rules.dialect (drop len (rest_bytes t.source)) ≤ length (drop len (rest_bytes t.source)) → HasRow t n None
  ignored_has t len n k r short value inside = row_has laws t len None k.few k.some r.within r.back (ignored_next_is t len k r) n short value inside

  pub ignored_stops : (t : Rows) (len : ℕ) → IsIgnoredNext t → IsIgnoredRead t len → row_limit < len
      → StopsHere (is_last (after_of t)) t.rules.dialect t.max_rows t.row (rest_of t.source) RowTooLong
  ignored_stops t len k r long = row_stops laws t len None k.few k.some r.within r.back (ignored_next_is t len k r) long

  -- the line at the front ends there
  pub line_ends : (t : Rows) (at : ℕ) → (t.searched ≤ at) × (at < length (rest_bytes t.source))
      × (0 < terminator_len t.rules.dialect (drop at (rest_bytes t.source))) × NoneBegins t.rules.dialect (rest_bytes t.source) t.searched at
      → IsIgnoredRead t at
  line_ends t at (_, within, ends, none) =
      let d = t.rules.dialect in
      let rest = rest_bytes t.source in
      let u = IsUtf8-from_is_utf8 rest t.source.is_text in
      let back = ends_text laws d rest at u within ends in
      record {
        within = omega (arith, within);
        back = back;
        line = line_here laws (is_last (after_of t)) d rest at u (omega (arith, within)) back (none_before d rest t.searched at t.none_ends none)
            (omega (arith, ends, laws.terminators.term_same d (drop at rest) (IsUtf8-from_is_utf8 (drop at rest) back)));
      }

pub none_ends : (t : Rows) → NoneBegins t.rules.dialect (rest_bytes t.source) t.searched (length (rest_bytes t.source)) → HasNoEnd t
none_ends t none = none_before t.rules.dialect (rest_bytes t.source) t.searched (length (rest_bytes t.source)) t.none_ends none

module _ (laws : RecordLaws) where
  -- or with the last text
  pub last_ends : (t : Rows) (len : ℕ) → len ≡ length (rest_bytes t.source) → is_last (after_of t) ≡ true → HasNoEnd t → IsIgnoredRead t len
  last_ends t len e last none =
      let d = t.rules.dialect in
      let rest = rest_bytes t.source in
      let u = IsUtf8-from_is_utf8 rest t.source.is_text in
      record {
        within = omega (arith, e);
        back = text_gone rest len e;
        line = ap (λ f. line_of f d (rest_of t.source)) last ∙ line_last laws d rest u none ∙ ap (λ n. Some (chars (drop n rest))) (sym e);
      }
