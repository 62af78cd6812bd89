-- Fields in quotes whose quotes are doubled.
use Rattle.std.proofs.Common.{◌≡◌, ◌∙◌, ℕ, zero, suc, ◌+◌, ◌<◌, ◌≤◌, Bool, true, false, if◌then◌else◌, List, [], ◌∷◌, ◌++◌, length, take, drop}
use Rattle.std.proofs.Common.{get_or, refl, sym, ap, subst, arith, append_assoc, append-nil, length-take, length-drop, inr, chars}
use Rattle.std.specs.Prelude.{IsUtf8, slice_range, slice_index}
use Rattle.std.specs.Str.{is_utf8}
use Rattle.std.proofs.Math.Seq.{take-add}
use Rattle.std.proofs.lemmas.List.{take_more, get_or-take, get_or-drop, drop-drop}
use Rattle.std.proofs.lemmas.Str.{IsUtf8-from_is_utf8, is_utf8-from_IsUtf8, IsUtf8-append, IsUtf8-nil, IsUtf8-from_ascii, chars-append, encodes-chars}
use Rattle.std.proofs.lemmas.Str.{chars-nil}
use Rattle.memchr.specs.Find.{is_byte}
use Rattle.csvw_fields.specs.Marked.{is_quote, StandsAhead}
use Rattle.csvw_records.specs.declared.dialect.Dialect.{Dialect}
use Rattle.csvw_fields.specs.declared.bound.Bound.{Bound}
use Rattle.csvw_fields.specs.declared.cut.Cut.{Cut}
use Rattle.csvw_fields.specs.declared.cut.Symbols.{Symbols}
use Rattle.csvw_fields.specs.Bounds.{is_bound}
use Rattle.csvw_fields.specs.Cuts.{IsSymbols, IsBehind, IsCut, Unescapes, IsUnescaped}
use Rattle.csvw_records.specs.Grammar.{AreUnits}
use Rattle.csvw_fields.proofs.Ascii.{AsciiAt, ascii_at, chars_ascii, fails_at, none_pass}
use Rattle.csvw_fields.proofs.BoundLemmas.{apart_is}
use Rattle.csvw_fields.proofs.CutLemmas.{units_of, byte_low, quoted_is, same_of, not_true}

units_join : (d : Dialect) (q : ℕ) (a v b w : List ℕ) → AreUnits d q a v → AreUnits d q b w → AreUnits d q (a ++ b) (v ++ w)
units_join d q a [] b w e h = subst (λ l. AreUnits d q l w) (sym (ap (λ l. l ++ b) e)) h
units_join d q a (c ∷ cs) b w (unit, more, is_unit, spelled, rest) h =
    (unit, more ++ b, is_unit, ap (λ l. l ++ b) spelled ∙ append_assoc unit more b, units_join d q more cs b w rest h)

one_text : (q : ℕ) → q < 128 → IsUtf8 (q ∷ [])
one_text q h = IsUtf8-from_ascii (q ∷ []) low
  where
    low : (i : ℕ) → get_or (q ∷ []) i 0 < 128
    low zero = h
    low (suc i) = omega arith

-- so many bytes come before the first quote
abbrev pub IsFirstQuote : ℕ → List ℕ → ℕ → Type 0
IsFirstQuote q rest len = (len < length rest) × (slice_index rest len ≡ q) × ((k : ℕ) → k < len → is_byte q (slice_index rest k) ≡ false)

pub quote_ahead : (s : Symbols) (text : List ℕ) (start at len : ℕ) → start + at ≤ length text
    → StandsAhead (is_quote s) text (start + at) (length text) len → IsFirstQuote s.quote (drop at (drop start text)) len
quote_ahead s text start at len within a = subst (λ l. IsFirstQuote s.quote l len) (sym (drop-drop at start text)) (
  (let h = a.0.high in omega (arith, h, length-drop (start + at) text)),
  get_or-drop (start + at) text len 0 ∙ same_of _ s.quote a.1,
  (λ k h. not_true _ (λ e. a.0.before (start + at + k) (omega arith) (omega (arith, h)) (ap (is_quote s) (sym (get_or-drop (start + at) text k 0)) ∙ e))),
)

-- what begins at a place stands at the front of what is left
pub left_some : (text : List ℕ) (start : ℕ) → start < length text → 0 < length (drop start text)
left_some text start h = omega (arith, h, length-drop start text)

pub left_first : (text : List ℕ) (start x : ℕ) → slice_index text start ≡ x → slice_index (drop start text) 0 ≡ x
left_first text start x e = get_or-drop start text 0 0 ∙ ap (slice_index text) (let z : start + 0 ≡ start = omega arith in z) ∙ e

-- nothing is read yet
pub none_written : (q : ℕ) (inside old : List ℕ) → Unescapes q (take 0 inside) old old
none_written q inside old = record {
  text = [];
  is_text = is_utf8-from_IsUtf8 [] IsUtf8-nil;
  written = sym (append-nil old);
  units = λ d e. subst (λ l. AreUnits d q l (chars [])) (sym chars-nil) (subst (AreUnits d q []) (sym chars-nil) refl);
}

-- one more part of what stands in quotes
module _ (q : ℕ) (inside : List ℕ) (at found : ℕ) (low : q < 128) (within : at ≤ length inside) (front : is_utf8 (take at inside) ≡ true)
    (back : is_utf8 (drop at inside) ≡ true)
    (long : found < length (drop at inside)) (quote : slice_index (drop at inside) found ≡ q)
    (none : (k : ℕ) → k < found → is_byte q (slice_index (drop at inside) k) ≡ false) where
  abbrev rest : List ℕ
  rest = drop at inside

  is_rest : IsUtf8 rest
  is_rest = IsUtf8-from_is_utf8 rest back

  here : AsciiAt rest found q
  here = ascii_at rest found q is_rest long quote low

  plain_units : (d : Dialect) → d.double_quote ≡ true → AreUnits d q (chars (take found rest)) (chars (take found rest))
  plain_units d e = units_of d q (chars (take found rest)) e (none_pass (is_byte q) (byte_low q low) (take found rest) here.front
      (fails_at (is_byte q) (take found rest)
      (λ i k. let l : i < found = omega (arith, k, length-take found rest) in ap (is_byte q) (get_or-take found rest i 0 l) ∙ none i l)))

  part_more : (n : ℕ) (text old new : List ℕ) → IsUtf8 text → ((d : Dialect) → d.double_quote ≡ true → AreUnits d q (chars (take n rest)) (chars text))
      → Unescapes q (take at inside) old new → Unescapes q (take (at + n) inside) old (new ++ text)
  part_more n text old new t units p =
      let u = IsUtf8-from_is_utf8 p.text p.is_text in
      let source : chars (take (at + n) inside) ≡ chars (take at inside) ++ chars (take n rest) =
      ap chars (take-add at n inside) ∙ chars-append (take at inside) (take n rest) (IsUtf8-from_is_utf8 (take at inside) front) in
      let value : chars (p.text ++ text) ≡ chars p.text ++ chars text = chars-append p.text text u in
      record {
        text = p.text ++ text;
        is_text = is_utf8-from_IsUtf8 (p.text ++ text) (IsUtf8-append p.text text u t);
        written = ap (λ l. l ++ text) p.written ∙ append_assoc old p.text text;
        units = λ d e. subst (λ l. AreUnits d q l (chars (p.text ++ text))) (sym source)
            (subst (AreUnits d q (chars (take at inside) ++ chars (take n rest))) (sym value)
            (units_join d q (chars (take at inside)) (chars p.text) (chars (take n rest)) (chars text) (p.units d e) (units d e)));
      }

  -- up to the quote that closes
  pub part_last : (old new : List ℕ) → Unescapes q (take at inside) old new → IsUnescaped q inside old (new ++ take found rest) (at + found)
  part_last old new p = record {
    within = omega (arith, long, within, length-drop at inside);
    closes = sym (get_or-drop at inside found 0) ∙ quote;
    front = part_more found (take found rest) old new here.front plain_units p;
  }

  -- up to a quote that is doubled
  module _ (more : found + 1 < length (drop at inside)) (again : slice_index (drop at inside) (found + 1) ≡ q) where
    there : AsciiAt rest (found + 1) q
    there = ascii_at rest (found + 1) q is_rest more again low

    one : chars (q ∷ []) ≡ q ∷ []
    one = chars_ascii q [] low ∙ ap (λ l. q ∷ l) chars-nil

    value_is : chars (take (found + 1) rest) ≡ chars (take found rest) ++ q ∷ []
    value_is = ap chars (take_more rest found 0 long ∙ ap (λ x. take found rest ++ x ∷ []) quote) ∙ chars-append (take found rest) (q ∷ []) here.front
        ∙ ap (λ l. chars (take found rest) ++ l) one

    two : take (found + 2) rest ≡ take (found + 1) rest ++ q ∷ []
    two = ap (λ n. take n rest) (let e : found + 2 ≡ (found + 1) + 1 = omega arith in e) ∙ take_more rest (found + 1) 0 more
        ∙ ap (λ x. take (found + 1) rest ++ x ∷ []) again

    source_is : chars (take (found + 2) rest) ≡ chars (take found rest) ++ q ∷ q ∷ []
    source_is = ap chars two ∙ chars-append (take (found + 1) rest) (q ∷ []) there.front ∙ ap (λ l. l ++ chars (q ∷ [])) value_is
        ∙ append_assoc (chars (take found rest)) (q ∷ []) (chars (q ∷ [])) ∙ ap (λ l. chars (take found rest) ++ q ∷ l) one

    quote_units : (d : Dialect) → d.double_quote ≡ true → AreUnits d q (q ∷ q ∷ []) (q ∷ [])
    quote_units d e = (q ∷ q ∷ [], [], inr (ap (λ (b : Bool). (if b then q else 92) ∷ q ∷ []) (sym e), λ t. refl), refl, refl)

    doubled_units : (d : Dialect) → d.double_quote ≡ true → AreUnits d q (chars (take (found + 2) rest)) (chars (take (found + 1) rest))
    doubled_units d e = subst (λ l. AreUnits d q l (chars (take (found + 1) rest))) (sym source_is)
        (subst (AreUnits d q (chars (take found rest) ++ q ∷ q ∷ [])) (sym value_is)
        (units_join d q (chars (take found rest)) (chars (take found rest)) (q ∷ q ∷ []) (q ∷ []) (plain_units d e) (quote_units d e)))

    pub doubled_within : at + (found + 2) ≤ length inside
    doubled_within = omega (arith, more, within, length-drop at inside)

    pub doubled_front : is_utf8 (take (at + (found + 2)) inside) ≡ true
    doubled_front =
        let last : IsUtf8 (take (found + 2) rest) = subst IsUtf8 (sym two) (IsUtf8-append (take (found + 1) rest) (q ∷ []) there.front (one_text q low)) in
        ap is_utf8 (take-add at (found + 2) inside) ∙ is_utf8-from_IsUtf8 (take at inside ++ take (found + 2) rest)
        (IsUtf8-append (take at inside) (take (found + 2) rest) (IsUtf8-from_is_utf8 (take at inside) front) last)

    pub doubled_back : is_utf8 (drop (at + (found + 2)) inside) ≡ true
    doubled_back =
        let same : drop (found + 1 + 1) rest ≡ drop (at + (found + 2)) inside = drop-drop (found + 1 + 1) at inside
        ∙ ap (λ n. drop n inside) (let e : at + (found + 1 + 1) ≡ at + (found + 2) = omega arith in e) in
        ap is_utf8 (sym same) ∙ is_utf8-from_IsUtf8 (drop (found + 1 + 1) rest) there.back

    pub part_doubled : (old new : List ℕ) → Unescapes q (take at inside) old new
        → Unescapes q (take (at + (found + 2)) inside) old (new ++ take (found + 1) rest)
    part_doubled old new p = part_more (found + 2) (take (found + 1) rest) old new there.front doubled_units p

pub inside_text : (r : List ℕ) (q : ℕ) → is_utf8 r ≡ true → 0 < length r → slice_index r 0 ≡ q → q < 128 → is_utf8 (drop 1 r) ≡ true
inside_text r q u some opens low = is_utf8-from_IsUtf8 (drop 1 r) (ascii_at r 0 q (IsUtf8-from_is_utf8 r u) some opens low).back

-- the field whose text was written
pub escaped_cut : (d : Dialect) (s : Symbols) (r old new : List ℕ) (m from to : ℕ) (cut : Cut) → IsSymbols d s → is_utf8 r ≡ true → 0 < length r
    → s.quoted ≡ true → slice_index r 0 ≡ s.quote
    → IsUnescaped s.quote (drop 1 r) old new m → from ≡ length old → to ≡ length new
    → IsBehind d s r (record { from = from; to = to; apart = true }) (m + 2) cut → IsCut d r new cut
escaped_cut d s r old new m from to cut y ur some quoted opens k f t b =
    let p = k.front in
    let bound : Bound = record { from = from; to = to; apart = true } in
    let a = apart_is r old p.text from to f (t ∙ ap length p.written) p.is_text in
    quoted_is d s r new m cut y ur some quoted opens k.within k.closes bound (chars p.text) (p.units d y.double)
    (encodes-chars p.text (IsUtf8-from_is_utf8 p.text p.is_text) ∙ sym a.1 ∙ ap (λ l. slice_range l from to) (sym p.written))
    (ap (λ l. is_bound r l bound) p.written ∙ a.0)
    b
