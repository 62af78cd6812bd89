-- The front if no row is taken: the front of an unfinished row, a row that is too long, or a broken rule.
use Rattle.std.proofs.Common.{◌≡◌, ◌≢◌, ◌∙◌, ℕ, ◌<◌, ◌≤◌, Bool, true, false, not, ◌&&◌, if◌then◌else◌, List, [], ◌++◌, length, take, drop, refl, sym}
use Rattle.std.proofs.Common.{ap, subst, arith, length-append, length-take, ◌⊎◌, inl, inr, chars}
use Rattle.std.specs.Str.{is_utf8}
use Rattle.std.proofs.lemmas.Grind.{common_steps}
use Rattle.std.proofs.lemmas.Str.{IsUtf8-from_is_utf8, encodes-chars}
use Rattle.csvw_records.specs.declared.dialect.Dialect.{Dialect}
use Rattle.csvw_fields.specs.declared.draft.Draft.{Draft}
use Rattle.csvw_rows.specs.declared.rows.Rows.{Rows}
use Rattle.csvw_records.specs.declared.scan.State.TheVariants.{Start}
use Rattle.csvw_records.specs.declared.stop.RowStop.{RowStop}
use Rattle.csvw_records.specs.declared.stop.RowStop.TheVariants.{RowTooLong}
use Rattle.csvw_fields.specs.Drafts.{read_of, state_of, values_of, current_of, IsOpen, IsBrokenThere, IsLeftInQuotes}
use Rattle.csvw_records.specs.Files.{is_ignored}
use Rattle.csvw_records.specs.Lengths.{byte_len, row_limit}
use Rattle.csvw_records.specs.AtFront.{IsWrong, IsShownLen}
use Rattle.csvw_records.specs.NextRow.{settled, unsettled, may_be_comment}
use Rattle.csvw_rows.specs.NextRows.{StopsHere, StopGives, is_last}
use Rattle.csvw_rows.specs.RowsState.{IsReadable, IsWrongRow, WaitsThere, IsOpenFront, IsIgnoredNext, HasNoEnd, IsSettledLen, sure_of, after_of}
use Rattle.csvw_records.specs.Scan.{Broken, Unfinished, run, is_quoted}
use Rattle.csvw_rows.specs.SourceState.{rest_bytes, rest_of}
use Rattle.csvw_rows.proofs.TextLemmas.{split_chars}
use Rattle.csvw_rows.proofs.TextLemmas.{take_front}
use Rattle.csvw_rows.proofs.TextLemmas.{front_text, text_gone}
use Rattle.csvw_rows.proofs.NextLemmas.{open_waits, open_stops, nothing_complete, not_nothing, wrong_gives, wrong_long}
use Rattle.csvw_rows.proofs.IgnoredLemmas.{line_open}
use Rattle.csvw_rows.proofs.ShownBytes.{shown_whole}
use Rattle.csvw_records.specs.RecordLaws.{RecordLaws}

pub may_both : (last may : Bool) → (not last && may) ≡ true → (last ≡ false) × (may ≡ true)
may_both false may e = (refl, e)
may_both true may e = absurd cc

pub may_neither : (last may : Bool) → (not last && may) ≡ false → last ≡ false → may ≡ false
may_neither false may e f = e
may_neither true may e f = absurd cc

module _ (laws : RecordLaws) where
  -- what is there is the front of one row
  settled_front : (d : Dialect) (l : List ℕ) → take (length (settled d l)) l ≡ settled d l
  settled_front d l = ap (take (length (settled d l))) (sym (laws.passes.settled_all d l)) ∙ take_front (settled d l) (unsettled d l)

text_bytes : (t : Rows) → byte_len (take (length (rest_of t.source)) (rest_of t.source)) ≡ length (rest_bytes t.source)
text_bytes t = ap byte_len (take_all (length (rest_of t.source)) (rest_of t.source) refl)
    ∙ ap length (encodes-chars (rest_bytes t.source) (IsUtf8-from_is_utf8 (rest_bytes t.source) t.source.is_text))
  where
    take_all : (n : ℕ) (l : List ℕ) → n ≡ length l → take n l ≡ l
    take_all n l e = grind (arith, common_steps)

module _ (laws : RecordLaws) where
  -- of a skipped row or a comment
  pub ignored_front : (t : Rows) (len : ℕ) → IsIgnoredNext t → HasNoEnd t → is_last (after_of t) ≡ false → IsSettledLen t len → IsOpenFront t len
  ignored_front t len k none going e = record {
    some = k.some;
    few = k.few;
    goes_on = going;
    count = length (settled t.rules.dialect (rest_of t.source));
    continues = laws.parts.continues_ignored t.rules.dialect t.row (rest_of t.source) t.rules.lawful k.ignored
        (line_open laws t.rules.dialect (rest_bytes t.source) (IsUtf8-from_is_utf8 (rest_bytes t.source) t.source.is_text) none);
    bytes = ap byte_len (settled_front laws t.rules.dialect (rest_of t.source) ∙ sym e.chars)
        ∙ ap length (encodes-chars (take len (rest_bytes t.source)) (IsUtf8-from_is_utf8 (take len (rest_bytes t.source)) e.text))
        ∙ (let h = ap length (sym (laws.passes.settled_all t.rules.dialect (rest_bytes t.source))) in let n = e.bytes in
        omega (
          arith,
          length-take len (rest_bytes t.source),
          n,
          h,
          length-append (settled t.rules.dialect (rest_bytes t.source)) (unsettled t.rules.dialect (rest_bytes t.source)),
        ));
  }

  -- of a row that may become a comment
  pub maybe_front : (t : Rows) → rest_of t.source ≢ [] → t.row < t.max_rows → is_ignored t.rules.dialect t.row (rest_of t.source) ≡ false
      → is_last (after_of t) ≡ false → may_be_comment t.rules.dialect (rest_of t.source) ≡ true
      → IsOpenFront t (length (rest_bytes t.source))
  maybe_front t some few not_ignored going may = record {
    some = some;
    few = few;
    goes_on = going;
    count = length (rest_of t.source);
    continues = laws.parts.continues_maybe t.rules.dialect t.row (rest_of t.source) t.rules.lawful not_ignored may;
    bytes = text_bytes t;
  }

  -- of a row with fields
  pub draft_front : (t : Rows) → IsReadable t → is_last (after_of t) ≡ false → IsOpen t.rules.dialect t.draft (rest_bytes t.source) → IsOpenFront t (sure_of t)
  draft_front t k going o = by_quoted (is_quoted (state_of t.draft)) refl
    where
      d : Dialect
      d = t.rules.dialect

      s : Draft
      s = t.draft

      text : List ℕ
      text = rest_of t.source

      runs : run d Start [] [] (settled d text) ≡ Unfinished (state_of s) (values_of s) (current_of s)
      runs = ap (run d Start [] []) (sym o.all) ∙ o.draft.runs

      sure_is : (b : Bool) → is_quoted (state_of s) ≡ b → sure_of t ≡ (if b then length (rest_bytes t.source) else read_of s)
      sure_is b q = ap (λ (b : Bool). if b then length (rest_bytes t.source) else read_of s) q

      by_quoted : (b : Bool) → is_quoted (state_of s) ≡ b → IsOpenFront t (sure_of t)
      by_quoted true q = record {
        some = k.some;
        few = k.few;
        goes_on = going;
        count = length text;
        continues = laws.parts.continues_quoted d t.row text (state_of s) (values_of s) (current_of s) t.rules.lawful k.not_ignored (k.may_not going) runs q;
        bytes = text_bytes t ∙ sym (sure_is true q);
      }
      by_quoted false q = record {
        some = k.some;
        few = k.few;
        goes_on = going;
        count = length (settled d text);
        continues = laws.parts.continues_unquoted d t.row text (state_of s) (values_of s) (current_of s) t.rules.lawful k.not_ignored (k.may_not going) runs q;
        bytes = ap byte_len (settled_front laws d text ∙ sym o.all)
            ∙ ap length (encodes-chars (take (read_of s) (rest_bytes t.source))
            (front_text (rest_bytes t.source) (read_of s) (IsUtf8-from_is_utf8 (rest_bytes t.source) t.source.is_text) o.draft.within o.draft.back))
            ∙ (let w = o.draft.within in let n = length-take (read_of s) (rest_bytes t.source) in omega (arith, w, n)) ∙ sym (sure_is false q);
      }

  -- it goes on, or is too long
  pub front_waits : (t : Rows) (len : ℕ) → IsOpenFront t len → len ≤ row_limit → WaitsThere t
  front_waits t len o short =
      let g = open_waits laws t.rules.dialect t.max_rows t.row (rest_of t.source) o.count t.rules.lawful o.few o.continues
      (let e = o.bytes in omega (arith, short, e)) in
      (g.0, g.1, not_nothing (after_of t) (rest_of t.source) o.goes_on)

  pub front_stops : (t : Rows) (len : ℕ) → IsOpenFront t len → row_limit < len
      → StopsHere (is_last (after_of t)) t.rules.dialect t.max_rows t.row (rest_of t.source) RowTooLong
  front_stops t len o long = open_stops laws (is_last (after_of t)) t.rules.dialect t.max_rows t.row (rest_of t.source) o.count t.rules.lawful o.few o.some
      (let e = o.bytes in omega (arith, long, e)) o.goes_on o.continues

  -- nothing is left
  pub empty_waits_there : (t : Rows) → rest_of t.source ≡ [] → WaitsThere t
  empty_waits_there t e = (inl e, nothing_complete laws t.rules.dialect t.max_rows t.row (rest_of t.source) e, λ h. e)

  -- a rule is broken there
  broken_wrong : (t : Rows) (s : Draft) (len : ℕ) (stop : RowStop) → IsReadable t
      → IsBrokenThere t.rules.dialect (is_last (after_of t)) s (rest_bytes t.source) stop
      → IsShownLen t.rules.dialect (rest_bytes t.source) (read_of s) len → IsWrongRow t len stop
  broken_wrong t s len stop k b n = record { count = n.count; wrong = by_last (is_last (after_of t)) refl; bytes = n.bytes }
    where
      d : Dialect
      d = t.rules.dialect

      text : List ℕ
      text = rest_of t.source

      at : ℕ
      at = length (chars (take (read_of s) (rest_bytes t.source)))

      spelled : text ≡ chars (take (read_of s) (rest_bytes t.source)) ++ chars (drop (read_of s) (rest_bytes t.source))
      spelled = split_chars (rest_bytes t.source) (read_of s) (front_text (rest_bytes t.source) (read_of s)
          (IsUtf8-from_is_utf8 (rest_bytes t.source) t.source.is_text) (let w = b.within in omega (arith, w)) b.back)

      past : (a b : List ℕ) → drop (length a) (a ++ b) ≡ b
      past a b = grind (arith, common_steps)

      broken : run d Start [] [] text ≡ Broken stop (drop at text)
      broken = b.broken ∙ ap (Broken stop)
          (sym (ap (drop at) spelled ∙ past (chars (take (read_of s) (rest_bytes t.source))) (chars (drop (read_of s) (rest_bytes t.source)))))

      inside : at < length text
      inside =
          let left = (laws.passes.broken_within d Start [] [] text stop (chars (drop (read_of s) (rest_bytes t.source))) b.broken).1 in
          omega (
            arith,
            left,
            ap length spelled,
            length-append (chars (take (read_of s) (rest_bytes t.source)))
                (chars (drop (read_of s) (rest_bytes t.source))),
          )

      by_last : (whole : Bool) → is_last (after_of t) ≡ whole → IsWrong (is_last (after_of t)) d t.row text n.count stop
      by_last true e = subst (λ (w : Bool). IsWrong w d t.row text n.count stop) (sym e)
          (laws.parts.wrong_whole d t.row text stop at k.not_ignored broken inside n.count n.shown)
      by_last false e = subst (λ (w : Bool). IsWrong w d t.row text n.count stop) (sym e)
          (laws.parts.wrong_part d t.row text stop at k.not_ignored broken inside n.count n.shown (k.may_not e) (b.settled e))

  -- or a quote is open at the end
  left_wrong : (t : Rows) (s : Draft) (len : ℕ) (stop : RowStop) → IsReadable t
      → IsLeftInQuotes t.rules.dialect (is_last (after_of t)) s (rest_bytes t.source) stop → len ≡ length (rest_bytes t.source) → IsWrongRow t len stop
  left_wrong t s len stop k o e = record {
    count = length (rest_of t.source);
    wrong = subst (λ (w : Bool). IsWrong w t.rules.dialect t.row (rest_of t.source) (length (rest_of t.source)) stop) (sym o.ended)
        (subst (IsWrong true t.rules.dialect t.row (rest_of t.source) (length (rest_of t.source))) (sym o.name)
        (laws.parts.left_open t.rules.dialect t.row (rest_of t.source) (state_of s) (values_of s) (current_of s) k.not_ignored o.runs o.quoted));
    bytes = text_bytes t ∙ sym e;
  }

  pub stopped_wrong : (t : Rows) (s : Draft) (len : ℕ) (stop : RowStop) → IsReadable t
      → IsBrokenThere t.rules.dialect (is_last (after_of t)) s (rest_bytes t.source) stop ⊎ IsLeftInQuotes t.rules.dialect (is_last (after_of t)) s
      (rest_bytes t.source) stop
      → IsShownLen t.rules.dialect (rest_bytes t.source) (read_of s) len → IsWrongRow t len stop
  stopped_wrong t s len stop k (inl b) n = broken_wrong t s len stop k b n
  stopped_wrong t s len stop k (inr o) n =
      left_wrong t s len stop k o
      (shown_whole t.rules.dialect (rest_bytes t.source) (read_of s) len (IsUtf8-from_is_utf8 (rest_bytes t.source) t.source.is_text) o.all n)

-- where reading stopped
pub goes_back : (d : Dialect) (last : Bool) (s : Draft) (rest : List ℕ) (stop : RowStop)
    → IsBrokenThere d last s rest stop ⊎ IsLeftInQuotes d last s rest stop → (read_of s ≤ length rest) × (is_utf8 (drop (read_of s) rest) ≡ true)
goes_back d last s rest stop (inl b) = ((let w = b.within in omega (arith, w)), b.back)
goes_back d last s rest stop (inr o) = ((let e = o.all in omega (arith, e)), text_gone rest (read_of s) o.all)

module _ (laws : RecordLaws) where
  -- its name
  pub wrong_name : (t : Rows) (len : ℕ) (stop : RowStop) → IsReadable t → IsWrongRow t len stop → len ≤ row_limit
      → StopGives (after_of t) t.rules.dialect t.max_rows t.row (rest_of t.source) stop
  wrong_name t len stop k w short = wrong_gives laws (after_of t) t.rules.dialect t.max_rows t.row
      (rest_of t.source) w.count stop t.rules.lawful k.few k.some w.wrong (let e = w.bytes in omega (arith, short, e))

  pub wrong_too_long : (t : Rows) (len : ℕ) (stop : RowStop) → IsReadable t → IsWrongRow t len stop → row_limit < len
      → StopsHere (is_last (after_of t)) t.rules.dialect t.max_rows t.row (rest_of t.source) RowTooLong
  wrong_too_long t len stop k w long = wrong_long laws (is_last (after_of t)) t.rules.dialect t.max_rows t.row
      (rest_of t.source) w.count t.rules.lawful k.few k.some (let e = w.bytes in omega (arith, long, e)) stop w.wrong
