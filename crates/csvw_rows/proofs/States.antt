-- The state of a reader after its steps.
use Rattle.std.proofs.Common.{◌≡◌, ◌≢◌, ℕ, ◌+◌, ◌-◌, ◌<◌, ◌≤◌, ◌==◌, Bool, true, false, not, ◌&&◌, ◌||◌, if◌then◌else◌, List, [], ◌∷◌, ◌++◌, map}
use Rattle.std.proofs.Common.{length, drop, Option, Some, None, refl, sym, ap, ◌∙◌, subst, arith, append_assoc, length-append, ◌⊎◌, inl, inr}
use Rattle.std.proofs.Common.{encode_utf8_all}
use Rattle.std.specs.Prelude.{is_some}
use Rattle.std.specs.List.{list_all}
use Rattle.std.specs.Str.Lossy.{utf8_valid_len, utf8_error_len}
use Rattle.std.proofs.lemmas.Bool.Decides.{nat_tests}
use Rattle.std.proofs.lemmas.List.Elements.{All-nil}
use Rattle.csvw_records.specs.declared.dialect.Dialect.{Dialect}
use Rattle.csvw_rows.specs.declared.rows.Rows.{Rows}
use Rattle.csvw_rows.specs.declared.source.Source.{Source}
use Rattle.csvw_records.specs.declared.stop.RowStop.{RowStop}
use Rattle.csvw_records.specs.declared.stop.RowStop.TheVariants.{Memory, NotUtf8}
use Rattle.csvw_rows.specs.declared.next.After.TheVariants.{More, Nothing, NoText}
use Rattle.csvw_records.specs.Lawful.{IsLawful}
use Rattle.csvw_records.specs.Files.{Row, Front, AreRows, EndsOpen, IsWhole, content, is_text, Body, remaining, remaining_fields, without_mark, is_empty}
use Rattle.csvw_records.specs.Files.{given as given_row}
use Rattle.csvw_records.specs.RowValue.{Given}
use Rattle.csvw_records.specs.PartOfRow.{Goes, NoRow}
use Rattle.csvw_records.specs.Stops.{StopOf, Begins}
use Rattle.csvw_rows.specs.NextRows.{is_last, StandsThere, TakesRow, StopsHere, StopGives, Waits}
use Rattle.csvw_rows.specs.SourceState.{Decodes, rest_of, is_bad_of, pending_of, begun_of, Pushes}
use Rattle.csvw_rows.specs.RowsState.{fields_of, Holds, HasRead, HasGiven, NoStop, Stays, IsDone, IsReading, IsStopped, Passes, after_of, reading_of}
use Rattle.csvw_rows.specs.RowsState.{last_of, Gives as RowGives}
use Rattle.csvw_records.specs.Grammar.{trimmed}
use Rattle.csvw_rows.proofs.Bodies.{none_given, one_given, texts_of, some_remain}
use Rattle.csvw_rows.proofs.ByteLens.{IsShort}
use Rattle.csvw_rows.proofs.Readings.{takes_reads, waits_done, here_stopped, bytes_stopped, Done, Stopped}
use Rattle.csvw_rows.proofs.Sources.{new_decodes}
use Rattle.csvw_rows.proofs.TextLemmas.{text_none, is_text_of, no_text_of, text_ends}
use Rattle.csvw_records.specs.RecordLaws.{RecordLaws}

decodes_same : (s t : Source) (bytes : List ℕ) → begun_of t ≡ begun_of s → pending_of t ≡ pending_of s → is_bad_of t ≡ is_bad_of s → Decodes s bytes
    → Decodes t bytes
decodes_same s t bytes b p e h = record { begun = b ∙ h.begun; pending = p ∙ h.pending; bad = e ∙ h.bad }

lawful_of : (s : Rows) (d : Dialect) → s.rules.dialect ≡ d → IsLawful d
lawful_of s d e = subst IsLawful e s.rules.lawful

-- what comes behind, by the bytes
after_last : (bad ended cut : Bool) → is_last (if bad || (ended && cut) then NoText else (if ended then Nothing else More)) ≡ true
    → (ended ≡ true) × (cut ≡ false)
after_last true ended cut h = absurd cc
after_last false true true h = absurd cc
after_last false true false h = (refl, refl)
after_last false false cut h = absurd cc

after_known : (bad ended cut : Bool) → bad ≡ false → ended ≡ true → cut ≡ false
    → is_last (if bad || (ended && cut) then NoText else (if ended then Nothing else More)) ≡ true
after_known bad ended cut b e c = rw (b, e, c) refl

after_text : (bad ended cut : Bool) → ((if bad || (ended && cut) then NoText else (if ended then Nothing else More)) ≡ NoText → ⊥)
    → (bad ≡ false) × (ended ≡ true → (cut ≡ false) × ((if bad || (ended && cut) then NoText else (if ended then Nothing else More)) ≡ Nothing))
after_text true ended cut n = absurd (n refl)
after_text false true true n = absurd (n refl)
after_text false true false n = (refl, λ e. (refl, refl))
after_text false false cut n = (refl, λ e. absurd cc)

after_bytes : (bad ended cut : Bool) → (if bad || (ended && cut) then NoText else (if ended then Nothing else More)) ≡ NoText
    → (bad ≡ true) ⊎ ((ended ≡ true) × (cut ≡ true))
after_bytes true ended cut e = inl refl
after_bytes false true true e = inr (refl, refl)
after_bytes false true false e = absurd cc
after_bytes false false cut e = absurd cc

uncut : (l : List ℕ) → not (length l == 0) ≡ false → l ≡ []
uncut [] e = refl
uncut (x ∷ xs) e = absurd (let z : (length (x ∷ xs) == 0) ≡ false = grind (arith, nat_tests) in let k : true ≡ false = ap not (sym z) ∙ e in cc)

is_cut : (l : List ℕ) → l ≡ [] → not (length l == 0) ≡ false
is_cut l e = ap (λ (x : List ℕ). not (length x == 0)) e

no_error : is_some (utf8_error_len (let e : List ℕ = [] in e)) ≡ false
unfolding utf8_error_len
no_error = refl

module _ (laws : RecordLaws) (s : Rows) (d : Dialect) (max : ℕ) (bytes : List ℕ) (ended : Bool) (given : List Given) (h : Holds s d max bytes ended given) where
  known : is_last (after_of s) ≡ true → (ended ≡ true) × (is_text bytes ≡ true)
  known e = let a = after_last (is_bad_of s.source) s.ended (not (length (pending_of s.source) == 0)) e in
      (sym h.ended_is ∙ a.0, is_text_of bytes (sym h.decodes.pending ∙ uncut (pending_of s.source) a.1))

  back : ended ≡ true → is_text bytes ≡ true → is_last (after_of s) ≡ true
  back e t = let none = text_ends bytes t in
      after_known (is_bad_of s.source) s.ended (not (length (pending_of s.source) == 0))
      (h.decodes.bad ∙ ap (λ l. is_some (utf8_error_len l)) none ∙ no_error) (h.ended_is ∙ e) (is_cut (pending_of s.source) (h.decodes.pending ∙ none))

  -- a row is taken
  pub passed : (t : Rows) (len : ℕ) (fields : Option (List (List ℕ))) → Passes s t len
      → (r : TakesRow (is_last (after_of s)) s.rules.dialect s.max_rows s.row (rest_of s.source) len fields)
      → (more : List Given) → t.remained ≡ length (remaining d 1 (h.rows ++ r.row ∷ [])) → more ≡ Body d (h.rows ++ r.row ∷ []) → Holds t d max bytes ended more
  passed t len fields p r more count body = record {
    dialect = ap (λ x. x.dialect) p.rules ∙ h.dialect;
    max_is = p.max_rows ∙ h.max_is;
    ended_is = p.ended ∙ h.ended_is;
    no_stop = p.stop ∙ h.no_stop;
    decodes = decodes_same s.source t.source bytes p.begun p.pending p.bad h.decodes;
    rows = h.rows ++ r.row ∷ [];
    read = subst (λ (l : List ℕ). HasRead d max bytes ended l (h.rows ++ r.row ∷ [])) (sym p.rest)
        (takes_reads laws d max bytes ended (is_last (after_of s)) (rest_of s.source) h.rows len s.row fields (lawful_of s d h.dialect) known h.read h.row_is
        (record {
          some = r.some;
          within = r.within;
          few = subst (λ (n : ℕ). s.row < n) h.max_is r.few;
          row = r.row;
          fields_are = r.fields_are;
          short = r.short;
          stands = stands;
        }));
    row_is = p.row ∙ (let e = h.row_is in let z : s.row + 1 ≡ length (h.rows ++ r.row ∷ []) = omega (arith, e, length-append h.rows (r.row ∷ [])) in z);
    remained_is = count;
    given_is = body;
  }
    where
      stands : StandsThere (is_last (after_of s)) d max s.row (rest_of s.source) len r.row
      stands = subst (λ (x : Dialect). StandsThere (is_last (after_of s)) x max s.row (rest_of s.source) len r.row) h.dialect
          (subst (λ (n : ℕ). StandsThere (is_last (after_of s)) s.rules.dialect n s.row (rest_of s.source) len r.row) h.max_is r.stands)

  -- nothing is complete
  waited : Waits (after_of s) s.rules.dialect s.max_rows s.row (rest_of s.source) → Done d max bytes ended h.rows
  waited (text, goes, none, last) =
      let a = after_text (is_bad_of s.source) s.ended (not (length (pending_of s.source) == 0)) text in
      let at_end : ended ≡ true → (is_text bytes ≡ true) × (rest_of s.source ≡ []) =
      λ e. (let b = a.1 (h.ended_is ∙ e) in (is_text_of bytes (sym h.decodes.pending ∙ uncut (pending_of s.source) b.0), last b.1)) in
      waits_done laws d max bytes ended (rest_of s.source) h.rows (lawful_of s d h.dialect) h.read
      (subst (λ (n : ℕ). Goes d max n (rest_of s.source)) h.row_is (subst (λ (n : ℕ). Goes d n s.row (rest_of s.source)) h.max_is
      (subst (λ (x : Dialect). Goes x s.max_rows s.row (rest_of s.source)) h.dialect goes)))
      (subst (λ (n : ℕ). NoRow d max n (rest_of s.source)) h.row_is (subst (λ (n : ℕ). NoRow d n s.row (rest_of s.source)) h.max_is
      (subst (λ (x : Dialect). NoRow x s.max_rows s.row (rest_of s.source)) h.dialect none)))
      at_end
      (λ t. (open_of t at_end, sym h.decodes.bad ∙ a.0))
    where
      by_ended : (b : Bool) → ended ≡ b → is_text bytes ≡ false → (ended ≡ true → (is_text bytes ≡ true) × (rest_of s.source ≡ [])) → b ≡ false
      by_ended false e t f = refl
      by_ended true e t f = let z = sym (f e).0 ∙ t in absurd cc

      open_of : is_text bytes ≡ false → (ended ≡ true → (is_text bytes ≡ true) × (rest_of s.source ≡ [])) → ended ≡ false
      open_of t f = by_ended ended refl t f

  pub done : Waits (after_of s) s.rules.dialect s.max_rows s.row (rest_of s.source)
      → HasGiven d max bytes ended given × NoStop d max bytes ended × (ended ≡ true → IsWhole d max bytes)
  done n = let r = waited n in (record { front = h.rows; is_front = r.is_front; all = h.given_is }, r.none, r.whole)

  pub reading : Waits (after_of s) s.rules.dialect s.max_rows s.row (rest_of s.source)
      → (front : List Row) × Front d max bytes ended front × (reading_of s ≡ length front + 1)
  reading n = (h.rows, (waited n).is_front, ap (λ n. n + 1) h.row_is)

  here : (e : RowStop) → StopsHere (is_last (after_of s)) s.rules.dialect s.max_rows s.row (rest_of s.source) e
      → HasGiven d max bytes ended given × StopOf d max bytes ended e (reading_of s)
  here e t =
      let u = subst (λ (n : ℕ). StopsHere (is_last (after_of s)) d max n (rest_of s.source) e) h.row_is
      (subst (λ (n : ℕ). StopsHere (is_last (after_of s)) d n s.row (rest_of s.source) e) h.max_is
      (subst (λ (x : Dialect). StopsHere (is_last (after_of s)) x s.max_rows s.row (rest_of s.source) e) h.dialect t)) in
      let r : Stopped d max bytes ended h.rows e =
      here_stopped laws d max bytes ended (is_last (after_of s)) (rest_of s.source) h.rows e (lawful_of s d h.dialect) known back h.read u in
      (record { front = h.rows; is_front = r.is_front; all = h.given_is }, subst (λ (n : ℕ). StopOf d max bytes ended e (n + 1)) (sym h.row_is) r.stands)

  pub stopped : (e : RowStop) → e ≢ Memory → StopGives (after_of s) s.rules.dialect s.max_rows s.row (rest_of s.source) e
      → HasGiven d max bytes ended given × StopOf d max bytes ended e (reading_of s)
  stopped Memory n t = absurd (n refl)
  stopped NotUtf8 n (a, goes, none) =
      let why = after_bytes (is_bad_of s.source) s.ended (not (length (pending_of s.source) == 0)) a in
      let some : drop (utf8_valid_len bytes) bytes ≡ [] → ⊥ = λ z. elim why [
        | inl b ↦ let k = sym (sym h.decodes.bad ∙ b) ∙ ap (λ l. is_some (utf8_error_len l)) z ∙ no_error in cc
        | inr p ↦ let k = sym p.1 ∙ is_cut (pending_of s.source) (h.decodes.pending ∙ z) in cc
      ] in
      let bad : (ended ≡ true) ⊎ (is_some (utf8_error_len (drop (utf8_valid_len bytes) bytes)) ≡ true) =
      elim why [ inl b ↦ inr (sym h.decodes.bad ∙ b) | inr p ↦ inl (sym h.ended_is ∙ p.0) ] in
      let r : Stopped d max bytes ended h.rows NotUtf8 = bytes_stopped laws d max bytes ended (rest_of s.source) h.rows (lawful_of s d h.dialect) h.read
      (subst (λ (n : ℕ). Goes d max n (rest_of s.source)) h.row_is (subst (λ (n : ℕ). Goes d n s.row (rest_of s.source)) h.max_is
      (subst (λ (x : Dialect). Goes x s.max_rows s.row (rest_of s.source)) h.dialect goes)))
      (subst (λ (n : ℕ). NoRow d max n (rest_of s.source)) h.row_is (subst (λ (n : ℕ). NoRow d n s.row (rest_of s.source)) h.max_is
      (subst (λ (x : Dialect). NoRow x s.max_rows s.row (rest_of s.source)) h.dialect none)))
      (no_text_of bytes some) bad in
      (record { front = h.rows; is_front = r.is_front; all = h.given_is }, subst (λ (n : ℕ). StopOf d max bytes ended NotUtf8 (n + 1)) (sym h.row_is) r.stands)
  stopped other n t = here other t

-- a new reader
pub new_holds : (s : Rows) (d : Dialect) (max : ℕ) → s.rules.dialect ≡ d → s.max_rows ≡ max → s.ended ≡ false → s.stop ≡ None → s.row ≡ 0 → s.remained ≡ 0
    → rest_of s.source ≡ [] → begun_of s.source ≡ false → pending_of s.source ≡ [] → is_bad_of s.source ≡ false → Holds s d max [] false []
new_holds s d max e m n k row remained rest begun pending bad = record {
  dialect = e;
  max_is = m;
  ended_is = n;
  no_stop = k;
  decodes = new_decodes s.source begun pending bad;
  rows = [];
  read = record { limits = ((let z : 0 ≤ max = omega arith in z), All-nil IsShort); reached = inl (ap without_mark text_none ∙ sym rest) };
  row_is = row;
  remained_is = remained;
  given_is = refl;
}

module _ (laws : RecordLaws) where
  -- more bytes
  pub feed_holds : (s t : Rows) (d : Dialect) (max : ℕ) (bytes piece : List ℕ) (given : List Given) → Holds s d max bytes false given
      → t.rules ≡ s.rules → t.max_rows ≡ s.max_rows → t.ended ≡ s.ended → t.stop ≡ s.stop
      → t.row ≡ s.row → t.remained ≡ s.remained → Pushes s.source t.source piece → Holds t d max (bytes ++ piece) false given
  feed_holds s t d max bytes piece given h r m n k row remained p = by_more (p bytes h.decodes)
    where
      by_more : Decodes t.source (bytes ++ piece) × ((more : List ℕ) × (rest_of t.source ≡ rest_of s.source ++ more)
          × (content (bytes ++ piece) ≡ content bytes ++ more)) → Holds t d max (bytes ++ piece) false given
      by_more (decodes, (more, rest, text)) = record {
        dialect = ap (λ x. x.dialect) r ∙ h.dialect;
        max_is = m ∙ h.max_is;
        ended_is = n ∙ h.ended_is;
        no_stop = k ∙ h.no_stop;
        decodes = decodes;
        rows = h.rows;
        read = record { limits = h.read.limits; reached = by_reached h.read.reached };
        row_is = row ∙ h.row_is;
        remained_is = remained ∙ h.remained_is;
        given_is = h.given_is;
      }
        where
          longer : AreRows d 0 (content bytes) h.rows (rest_of s.source) → AreRows d 0 (content (bytes ++ piece)) h.rows (rest_of t.source)
          longer are =
              let a = laws.rows.rows_again d 0 (content bytes) h.rows (rest_of s.source) are in
              subst (λ (l : List ℕ). AreRows d 0 (content (bytes ++ piece)) h.rows l) (sym rest)
              (subst (λ (l : List ℕ). AreRows d 0 l h.rows (rest_of s.source ++ more))
              (sym (text ∙ ap (λ l. l ++ more) a.spelled ∙ append_assoc a.front (rest_of s.source) more)) (a.again (rest_of s.source ++ more)))

          by_reached : AreRows d 0 (content bytes) h.rows (rest_of s.source) ⊎
              ((false ≡ true) × (is_text bytes ≡ true) × EndsOpen d (content bytes) h.rows × (rest_of s.source ≡ []) × Begins d max (content bytes))
              → AreRows d 0 (content (bytes ++ piece)) h.rows (rest_of t.source) ⊎
              ((false ≡ true) × (is_text (bytes ++ piece) ≡ true) × EndsOpen d (content (bytes ++ piece)) h.rows × (rest_of t.source ≡ [])
              × Begins d max (content (bytes ++ piece)))
          by_reached (inl are) = inl (longer are)
          by_reached (inr (e, x, y, z, u)) = absurd cc

  -- a row that gives nothing
  pub ignored_stays : (s t : Rows) (len : ℕ) (fields : Option (List (List ℕ))) → Passes s t len → t.remained ≡ s.remained
      → TakesRow (is_last (after_of s)) s.rules.dialect s.max_rows s.row (rest_of s.source) len fields
      → ((n : ℕ) → remaining_fields s.rules.dialect n fields ≡ None) → Stays s t
  ignored_stays s t len fields p kept r none d max bytes ended given h =
      let gone : remaining_fields d (1 + length h.rows) r.row.fields ≡ None = ap (remaining_fields d (1 + length h.rows)) r.fields_are
      ∙ subst (λ (x : Dialect). remaining_fields x (1 + length h.rows) fields ≡ None) h.dialect (none (1 + length h.rows)) in
      let body = none_given d h.rows r.row gone in
      passed laws s d max bytes ended given h t len fields p r given (kept ∙ h.remained_is ∙ sym body.1) (h.given_is ∙ sym body.0)

  -- a row that is given
  pub row_gives : (s t : Rows) (len : ℕ) (values : List (List ℕ)) → Passes s t len → t.remained ≡ s.remained + 1
      → TakesRow (is_last (after_of s)) s.rules.dialect s.max_rows s.row (rest_of s.source) len (Some (map (trimmed s.rules.dialect.trim) values))
      → fields_of t ≡ map (λ x. encode_utf8_all (trimmed s.rules.dialect.trim x)) values
      → (s.rules.dialect.skip_blank_rows && list_all is_empty (map (trimmed s.rules.dialect.trim) values)) ≡ false → RowGives s t (last_of t)
  row_gives s t len values p more r texts full d max bytes ended given h =
      let fields = map (trimmed s.rules.dialect.trim) values in
      let n = 1 + length h.rows in
      let there : remaining_fields d n r.row.fields ≡ Some (n, fields) = ap (remaining_fields d n) r.fields_are
      ∙ subst (λ (x : Dialect). remaining_fields x n (Some fields) ≡ Some (n, fields)) h.dialect (some_remain s.rules.dialect n fields full) in
      let body = one_given d h.rows r.row fields there in
      let source : n ≡ t.row = (let e = h.row_is in let f = p.row in omega (arith, e, f)) in
      let rules : t.rules.dialect ≡ d = ap (λ x. x.dialect) p.rules ∙ h.dialect in
      let count : length (remaining d 1 h.rows) + 1 ≡ t.remained = (let e = h.remained_is in omega (arith, e, more)) in
      let shown : map encode_utf8_all (drop d.skip_columns fields) ≡ drop t.rules.dialect.skip_columns (fields_of t) =
      sym (texts_of s.rules.dialect.trim d.skip_columns values) ∙ ap (drop d.skip_columns) (sym texts)
      ∙ ap (λ (x : Dialect). drop x.skip_columns (fields_of t)) (sym rules) in
      let number : (length (remaining d 1 h.rows) + 1) - d.header_row_count ≡ t.remained - t.rules.dialect.header_row_count =
      ap (λ (k : ℕ). k - d.header_row_count) count ∙ ap (λ (x : Dialect). t.remained - x.header_row_count) (sym rules) in
      let same : given_row d (length (remaining d 1 h.rows), (n, fields)) ≡ last_of t =
      ap (λ (l : List (List ℕ)). record { fields = l; source = n; number = (length (remaining d 1 h.rows) + 1) - d.header_row_count }) shown
      ∙ ap (λ (k : ℕ). record {
        fields = drop t.rules.dialect.skip_columns (fields_of t);
        source = k;
        number = (length (remaining d 1 h.rows) + 1) - d.header_row_count;
      }) source
      ∙ ap (λ (k : ℕ). record { fields = drop t.rules.dialect.skip_columns (fields_of t); source = t.row; number = k }) number in
      passed laws s d max bytes ended given h t len (Some fields) p r (given ++ last_of t ∷ []) (sym (body.1 ∙ count))
      (ap (λ l. l ++ last_of t ∷ []) h.given_is ∙ ap (λ g. Body d h.rows ++ g ∷ []) (sym same) ∙ sym body.0)

  pub is_reading : (s : Rows) → Waits (after_of s) s.rules.dialect s.max_rows s.row (rest_of s.source) → IsReading s (reading_of s)
  is_reading s n d max bytes ended given h = reading laws s d max bytes ended given h n

  pub is_done : (s : Rows) → Waits (after_of s) s.rules.dialect s.max_rows s.row (rest_of s.source) → IsDone s
  is_done s n d max bytes ended given h = done laws s d max bytes ended given h n

  pub is_stopped : (s : Rows) (e : RowStop) → StopGives (after_of s) s.rules.dialect s.max_rows s.row (rest_of s.source) e → IsStopped s e (reading_of s)
  is_stopped s e g n d max bytes ended given h = stopped laws s d max bytes ended given h e n g

pub passes_to : (s t u : Rows) (len : ℕ) → u.rules ≡ t.rules → u.max_rows ≡ t.max_rows → u.ended ≡ t.ended → u.stop ≡ t.stop → u.source ≡ t.source
    → u.row ≡ t.row → Passes s t len → Passes s u len
passes_to s t u len r m e k source row p = record {
  rules = r ∙ p.rules;
  max_rows = m ∙ p.max_rows;
  ended = e ∙ p.ended;
  stop = k ∙ p.stop;
  rest = ap rest_of source ∙ p.rest;
  begun = ap begun_of source ∙ p.begun;
  pending = ap pending_of source ∙ p.pending;
  bad = ap is_bad_of source ∙ p.bad;
  row = row ∙ p.row;
}

pub and_true : (a b : Bool) → a ≡ true → b ≡ true → (a && b) ≡ true
and_true a b e f = rw (e, f) refl

pub and_left : (a b : Bool) → a ≡ false → (a && b) ≡ false
and_left a b e = rw e refl

pub and_right : (a b : Bool) → b ≡ false → (a && b) ≡ false
and_right true b e = e
and_right false b e = refl
