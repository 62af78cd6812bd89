-- The fields of a row, one cut after another.
use Rattle.std.proofs.Common.{◌≡◌, ◌∙◌, ℕ, ◌+◌, ◌<◌, ◌≤◌, Bool, true, false, ◌&&◌, List, [], ◌∷◌, ◌++◌, length, drop, map, refl, sym, ap, subst}
use Rattle.std.proofs.Common.{arith, append_assoc, length-drop, chars}
use Rattle.std.specs.Prelude.{encode_utf8_all, slice_index}
use Rattle.std.specs.Str.{is_utf8}
use Rattle.std.proofs.lemmas.List.{drop-drop, get_or-drop, map-append}
use Rattle.std.proofs.lemmas.List.Folds.{list_all-append}
use Rattle.csvw_records.specs.declared.dialect.Dialect.{Dialect}
use Rattle.csvw_fields.specs.declared.bound.Bound.{Bound}
use Rattle.csvw_fields.specs.declared.cut.Cut.{Cut}
use Rattle.csvw_fields.specs.Bounds.{bytes_at, is_bound, are_bounds, fields_at, moved, lent_bound}
use Rattle.csvw_fields.specs.Cuts.{IsSymbols, IsCut, IsCutRow, IsCutTo, Grows}
use Rattle.csvw_records.specs.Grammar.{terminator_len, IsField, AreFields}
use Rattle.memchr.specs.Find.{NoneBefore, Passes}
use Rattle.csvw_fields.specs.declared.cut.Symbols.{Symbols}
use Rattle.csvw_records.specs.Lawful.{IsLawful}
use Rattle.csvw_fields.specs.Marked.{is_symbol}
use Rattle.csvw_fields.proofs.CutLemmas.{inner_cut, not_true}
use Rattle.csvw_fields.proofs.BoundLemmas.{bounds_more, moved_is}

-- nothing is cut yet
pub cut_none : (d : Dialect) (text spare : List ℕ) (start : ℕ) → IsCutTo d text start start spare []
cut_none d text spare start = record { values = []; texts = refl; goes_on = λ row more after e a. (row, e, a) }

-- the second buffer grows
pub cut_grows : (d : Dialect) (text old new : List ℕ) (start at : ℕ) (bounds : List Bound) → Grows old new → are_bounds text old bounds ≡ true
    → IsCutTo d text start at old bounds
    → (are_bounds text new bounds ≡ true) × IsCutTo d text start at new bounds
cut_grows d text old new start at bounds (more, e) a c =
    let h = bounds_more text old more bounds a in (
      ap (λ l. are_bounds text l bounds) e ∙ h.0,
      record { values = c.values; texts = ap (λ l. fields_at text l bounds) e ∙ h.1 ∙ c.texts; goes_on = c.goes_on },
    )

-- a field without quotes before a delimiter, which is the first symbol behind its start
abbrev pub before_delimiter : ℕ → Cut
before_delimiter n = record { bound = lent_bound 0 n; next = n + 1; ends = false }

pub moved_before : (at n : ℕ) → lent_bound at (at + n) ≡ moved at (before_delimiter n).bound
moved_before at n = ap (λ k. lent_bound k (at + n)) (let z : at ≡ at + 0 = omega arith in z)

pub cut_before : (d : Dialect) (s : Symbols) (text spare : List ℕ) (at n : ℕ) → IsLawful d → IsSymbols d s → is_utf8 (drop at text) ≡ true → at ≤ length text
    → NoneBefore (Passes (is_symbol s) text) at (length text) (at + n) × Passes (is_symbol s) text (at + n) → slice_index (drop at text) n ≡ s.delimiter
    → IsCut d (drop at text) spare (before_delimiter n)
cut_before d s text spare at n w y u within a stands =
    let high = a.0.high in
    inner_cut d s (drop at text) spare n (before_delimiter n) w y u (omega (arith, high, length-drop at text))
    (λ k h. not_true _ (λ e. a.0.before (at + k) (omega arith) (omega (arith, h)) (ap (is_symbol s) (sym (get_or-drop at text k 0)) ∙ e))) stands refl refl refl

-- where a field of the rest lies in the whole
module _ (d : Dialect) (text spare : List ℕ) (at : ℕ) (cut : Cut) (within : at ≤ length text) (k : IsCut d (drop at text) spare cut) where
  bounds_one : (bounds : List Bound) → are_bounds text spare bounds ≡ true → are_bounds text spare (bounds ++ moved at cut.bound ∷ []) ≡ true
  bounds_one bounds h = list_all-append (λ b. is_bound text spare b) bounds (moved at cut.bound ∷ [])
      ∙ both _ _ h (moved_is text spare at cut.bound within k.bounded).0
    where
      both : (a b : Bool) → a ≡ true → b ≡ true → (a && (b && true)) ≡ true
      both a b e f = rw (e, f) refl

  texts_more : (values : List (List ℕ)) (bounds : List Bound) → fields_at text spare bounds ≡ map encode_utf8_all values
      → fields_at text spare (bounds ++ moved at cut.bound ∷ []) ≡ map encode_utf8_all (values ++ k.value ∷ [])
  texts_more values bounds h =
      map-append (λ b. bytes_at text spare b) bounds (moved at cut.bound ∷ [])
      ∙ ap (λ l. l ++ bytes_at text spare (moved at cut.bound) ∷ []) h
      ∙ ap (λ x. map encode_utf8_all values ++ x ∷ []) ((moved_is text spare at cut.bound within k.bounded).1 ∙ sym k.text)
      ∙ sym (map-append encode_utf8_all values (k.value ∷ []))

  next_rest : drop cut.next (drop at text) ≡ drop (at + cut.next) text
  next_rest = drop-drop cut.next at text

  next_text : is_utf8 (drop (at + cut.next) text) ≡ true
  next_text = ap is_utf8 (sym next_rest) ∙ k.rest_text

  next_within : at + cut.next ≤ length text
  next_within = let i = k.inside in omega (arith, i, within, length-drop at text)

  -- a field with a delimiter behind it
  cut_more : (start : ℕ) (bounds : List Bound) → cut.ends ≡ false → IsCutTo d text start at spare bounds
      → IsCutTo d text start (at + cut.next) spare (bounds ++ moved at cut.bound ∷ [])
  cut_more start bounds e c = record { values = c.values ++ k.value ∷ []; texts = texts_more c.values bounds c.texts; goes_on = goes }
    where
      behind : k.after ≡ d.delimiter ∷ chars (drop (at + cut.next) text)
      behind = (k.goes_on e).1 ∙ ap (λ l. d.delimiter ∷ chars l) next_rest

      goes : (row : List ℕ) (more : List (List ℕ)) (after : List ℕ) → chars (drop (at + cut.next) text) ≡ row ++ after → AreFields d row more after
          → (whole : List ℕ) × (chars (drop start text) ≡ whole ++ after) × AreFields d whole ((c.values ++ k.value ∷ []) ++ more) after
      goes row [] after h a = absurd a
      goes row (v ∷ vs) after h a =
          let here : k.after ≡ d.delimiter ∷ row ++ after = behind ∙ ap (λ l. d.delimiter ∷ l) h in
          let spelled : chars (drop at text) ≡ (k.source ++ d.delimiter ∷ row) ++ after = k.spelled ∙ ap (λ l. k.source ++ l) here
          ∙ sym (append_assoc k.source (d.delimiter ∷ row) after) in
          let w = c.goes_on (k.source ++ d.delimiter ∷ row) (k.value ∷ v ∷ vs) after spelled
          (k.source, row, refl, subst (λ l. IsField d k.source k.value l) here k.field, a) in
          (w.0, w.1, subst (λ l. AreFields d w.0 l after) (sym (append_assoc c.values (k.value ∷ []) (v ∷ vs))) w.2)

  -- the last field
  cut_last : (start : ℕ) (bounds : List Bound) → cut.ends ≡ true → start ≤ at → IsCutTo d text start at spare bounds
      → IsCutRow d text start (at + cut.next) spare (bounds ++ moved at cut.bound ∷ [])
  cut_last start bounds e s c =
      let h = k.ends e in
      let here : k.after ≡ chars (drop (at + cut.next) text) = h.1 ∙ ap chars next_rest in
      let w = c.goes_on k.source (k.value ∷ []) k.after k.spelled k.field in
      record {
        row = w.0;
        values = c.values ++ k.value ∷ [];
        from_start = omega (arith, s);
        within = next_within;
        rest_text = next_text;
        spelled = w.1 ∙ ap (λ l. w.0 ++ l) here;
        fields = subst (AreFields d w.0 (c.values ++ k.value ∷ [])) here w.2;
        ends = subst (λ (l : List ℕ). 0 < terminator_len d l) next_rest h.0;
        texts = texts_more c.values bounds c.texts;
      }

-- a row with one field more, whose text may stand in the second buffer, which grew
pub record OneMore (d : Dialect) (text new : List ℕ) (start at : ℕ) (cut : Cut) (items : List Bound) : Type 0 where
  pub is_text : is_utf8 (drop (at + cut.next) text) ≡ true
  pub within : at + cut.next ≤ length text
  pub bounded : are_bounds text new items ≡ true
  pub goes_on : cut.ends ≡ false → IsCutTo d text start (at + cut.next) new items
  pub ends : cut.ends ≡ true → start ≤ at → IsCutRow d text start (at + cut.next) new items

pub one_more : (d : Dialect) (text old new : List ℕ) (start at : ℕ) (cut : Cut) (bounds items : List Bound) (item : Bound) → at ≤ length text
    → IsCut d (drop at text) new cut → Grows old new → are_bounds text old bounds ≡ true → IsCutTo d text start at old bounds
    → items ≡ bounds ++ item ∷ [] → item ≡ moved at cut.bound → OneMore d text new start at cut items
one_more d text old new start at cut bounds items item within k grows bounded to pushed item_is =
    let g = cut_grows d text old new start at bounds grows bounded to in
    let are : items ≡ bounds ++ moved at cut.bound ∷ [] = pushed ∙ ap (λ b. bounds ++ b ∷ []) item_is in
    record {
      is_text = next_text d text new at cut within k;
      within = next_within d text new at cut within k;
      bounded = ap (are_bounds text new) are ∙ bounds_one d text new at cut within k bounds g.0;
      goes_on = λ e. subst (λ (l : List Bound). IsCutTo d text start (at + cut.next) new l) (sym are)
          (cut_more d text new at cut within k start bounds e g.1);
      ends = λ e s. subst (λ (l : List Bound). IsCutRow d text start (at + cut.next) new l) (sym are)
          (cut_last d text new at cut within k start bounds e s g.1);
    }
