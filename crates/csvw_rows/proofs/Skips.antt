-- A reader that goes on after rows whose bytes it wasn't given.
use Rattle.std.proofs.Common.{◌≡◌, ◌≢◌, ◌∙◌, ℕ, ◌<◌, ◌≤◌, true, false, not, List, [], ◌∷◌, length, refl, sym, ap, subst, arith}
use Rattle.std.proofs.Common.{inl, chars}
use Rattle.std.specs.Prelude.{is_some}
use Rattle.std.specs.Str.Lossy.{utf8_error_len}
use Rattle.csvw_records.specs.declared.dialect.Dialect.{Dialect}
use Rattle.csvw_records.specs.Files.{Row, AreRows, Body, content, is_empty, remaining, text_of, without_mark}
use Rattle.csvw_records.specs.RowValue.{Given}
use Rattle.csvw_records.specs.RecordLaws.{RecordLaws}
use Rattle.csvw_part_laws.specs.Parts.{AreWholeRows}
use Rattle.csvw_rows.specs.declared.rows.Rows.{Rows}
use Rattle.csvw_rows.specs.declared.source.Source.{Source}
use Rattle.csvw_rows.specs.RowsState.{Holds}
use Rattle.csvw_rows.specs.SourceState.{Decodes, rest_bytes, rest_of, is_bad_of, pending_of, begun_of, unread_bytes_in}
use Rattle.csvw_rows.proofs.TextLemmas.{no_chars, text_ends}

nothing : (l : List ℕ) → length l ≡ 0 → l ≡ []
nothing [] e = refl
nothing (x ∷ xs) e = absurd (omega (arith, e))

pub none_pending : (s : Source) → unread_bytes_in s ≡ 0 → pending_of s ≡ []
none_pending s e = nothing (pending_of s) (omega (arith, e))

pub none_left : (s : Source) → unread_bytes_in s ≡ 0 → rest_of s ≡ []
none_left s e = no_chars (rest_bytes s) (omega (arith, e))

no_error : is_some (utf8_error_len (let e : List ℕ = [] in e)) ≡ false
unfolding utf8_error_len
no_error = refl

-- bytes without a cut character are not wrong
not_bad : (s : Source) (bytes : List ℕ) → Decodes s bytes → pending_of s ≡ [] → is_bad_of s ≡ false
not_bad s bytes h e = h.bad ∙ ap (λ (l : List ℕ). is_some (utf8_error_len l)) (sym h.pending ∙ e) ∙ no_error

some_text : (text : List ℕ) → without_mark text ≢ [] → true ≡ not (is_empty text)
some_text [] n = absurd (n refl)
some_text (c ∷ cs) n = refl

module _ (laws : RecordLaws) where
  pub has_text : (d : Dialect) (text : List ℕ) (rows : List Row) → 0 < length rows → AreRows d 0 text rows [] → text ≢ []
  has_text d text [] h are e = omega (arith, h)
  has_text d text (row ∷ rows) h are e = laws.rows.no_more d 0 row rows [] (subst (λ (t : List ℕ). AreRows d 0 t (row ∷ rows) []) e are)

  pub skip_holds : (s t : Rows) (d : Dialect) (max : ℕ) (bytes all : List ℕ) (given : List Given) (whole : List Row) → Holds s d max bytes false given
      → AreWholeRows d all whole → t.rules ≡ s.rules → t.max_rows ≡ s.max_rows → t.ended ≡ s.ended → t.stop ≡ s.stop
      → unread_bytes_in s.source ≡ 0 → rest_bytes t.source ≡ rest_bytes s.source → pending_of t.source ≡ pending_of s.source
      → is_bad_of t.source ≡ is_bad_of s.source → begun_of t.source ≡ true
      → t.row ≡ length whole → t.remained ≡ length (remaining d 1 whole) → t.row ≤ s.max_rows → Holds t d max all false (Body d whole)
  skip_holds s t d max bytes all given whole h w r m n k none rest pending bad begun row remained few = record {
    dialect = ap (λ x. x.dialect) r ∙ h.dialect;
    max_is = m ∙ h.max_is;
    ended_is = n ∙ h.ended_is;
    no_stop = k ∙ h.no_stop;
    decodes = record {
      begun = begun ∙ some_text (text_of all) (has_text d (content all) whole w.some w.are_rows);
      pending = pending ∙ none_pending s.source none ∙ sym (text_ends all w.is_utf8);
      bad = bad ∙ not_bad s.source bytes h.decodes (none_pending s.source none)
          ∙ sym (ap (λ (l : List ℕ). is_some (utf8_error_len l)) (text_ends all w.is_utf8) ∙ no_error);
    };
    rows = whole;
    read = record {
      limits = ((let e = h.max_is in omega (arith, few, e, row)), w.short);
      reached = inl (subst (λ (l : List ℕ). AreRows d 0 (content all) whole l)
          (sym (ap chars rest ∙ none_left s.source none)) w.are_rows);
    };
    row_is = row;
    remained_is = remained;
    given_is = refl;
  }
