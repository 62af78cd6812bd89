-- A row whose fields were cut out of the bytes is a row that is taken.
use Rattle.std.proofs.Common.{◌≡◌, ◌∙◌, ℕ, ◌+◌, ◌-◌, ◌<◌, ◌≤◌, Bool, true, false, List, ◌++◌, map, length, drop, Some, refl, sym, ap, arith}
use Rattle.std.proofs.Common.{length-append, length-drop, inl, chars, nat_lt, ◌||◌}
use Rattle.std.specs.Prelude.{encode_utf8_all}
use Rattle.std.specs.Str.{is_utf8}
use Rattle.std.proofs.lemmas.Bool.Decides.{nat_tests}
use Rattle.std.proofs.lemmas.List.{drop-drop}
use Rattle.std.proofs.lemmas.Str.{IsUtf8-from_is_utf8, is_utf8-from_IsUtf8, encodes-chars, encodes-append}
use Rattle.csvw_records.specs.declared.dialect.Dialect.{Dialect}
use Rattle.csvw_fields.specs.declared.bound.Bound.{Bound}
use Rattle.csvw_records.specs.declared.dialect.Trim.TheVariants.{No}
use Rattle.csvw_rows.specs.declared.rows.Rows.{Rows}
use Rattle.csvw_fields.specs.Cuts.{IsCutRow, IsRowLen}
use Rattle.csvw_records.specs.Files.{is_ignored, begins_with}
use Rattle.csvw_records.specs.Lawful.{prefix_of}
use Rattle.csvw_records.specs.Grammar.{terminator_len, trimmed}
use Rattle.csvw_records.specs.Lawful.{IsLawful}
use Rattle.csvw_records.specs.Lengths.{byte_len, row_limit}
use Rattle.csvw_rows.specs.NextRows.{TakesRow, is_last}
use Rattle.csvw_rows.specs.RowsState.{HasFields, after_of}
use Rattle.csvw_rows.specs.SourceState.{text_items, taken_of, rest_of}
use Rattle.csvw_rows.proofs.TextLemmas.{drop_past}
use Rattle.csvw_records.specs.RecordLaws.{RecordLaws}

module _ (laws : RecordLaws) (d : Dialect) (text : List ℕ) (start at : ℕ) (spare : List ℕ) (bounds : List Bound) (ut : is_utf8 (drop start text) ≡ true)
    (k : IsCutRow d text start at spare bounds) where
  row_bytes : byte_len k.row ≡ at - start
  row_bytes =
      let rest = drop at text in
      let whole : drop start text ≡ encode_utf8_all k.row ++ rest =
      sym (encodes-chars (drop start text) (IsUtf8-from_is_utf8 (drop start text) ut)) ∙ ap encode_utf8_all k.spelled ∙ encodes-append k.row (chars rest)
      ∙ ap (λ l. encode_utf8_all k.row ++ l) (encodes-chars rest (IsUtf8-from_is_utf8 rest k.rest_text)) in
      let f = k.from_start in
      let w = k.within in
      omega (arith, f, w, ap length whole, length-append (encode_utf8_all k.row) rest, length-drop start text, length-drop at text)

  pub cut_takes : (whole : Bool) (max i : ℕ) → IsLawful d → i < max → is_ignored d i (chars (drop start text)) ≡ false → at - start ≤ row_limit
      → TakesRow whole d max i (chars (drop start text)) (length k.row + terminator_len d (drop at text)) (Some (map (trimmed d.trim) k.values))
  cut_takes whole max i w few not_ignored short =
      let after = chars (drop at text) in
      let t = laws.terminators.term_chars d (drop at text) k.ends in
      let e = k.ends in
      let same = t.same in
      let ends : 0 < terminator_len d after = omega (arith, e, same) in
      let long = laws.terminators.term_within d after ends in
      let s = k.spelled in
      let mine : is_ignored d i k.row ≡ false = sym (laws.terminators.ignored_same d i k.row after w (laws.terminators.ends_break false d after (inl ends)))
      ∙ ap (is_ignored d i) (sym s) ∙ not_ignored in
      record {
        some = omega (arith, e);
        within = omega (arith, long, same, ap length s, length-append k.row after);
        few = few;
        row = record { text = k.row; fields = Some (map (trimmed d.trim) k.values) };
        fields_are = refl;
        short = omega (arith, short, row_bytes);
        stands = inl (
          after,
          s,
          (rw mine (map (trimmed d.trim) k.values, refl, (k.values, k.fields, refl))),
          ends,
          ap (drop (length k.row + terminator_len d (drop at text))) s ∙ drop_past k.row after (terminator_len d (drop at text))
              ∙ ap (λ n. drop n after) (sym same),
        );
      }

  -- its bytes
  pub cut_rest : drop ((at - start) + terminator_len d (drop at text)) (drop start text) ≡ drop (terminator_len d (drop at text)) (drop at text)
  cut_rest =
      let t = terminator_len d (drop at text) in
      let f = k.from_start in
      drop-drop ((at - start) + t) start text ∙ ap (λ n. drop n text) (let e : start + ((at - start) + t) ≡ at + t = omega (arith, f) in e)
      ∙ sym (drop-drop t at text)

  pub cut_text : is_utf8 (drop ((at - start) + terminator_len d (drop at text)) (drop start text)) ≡ true
  cut_text =
      let rest = drop at text in
      ap is_utf8 cut_rest ∙ is_utf8-from_IsUtf8 (drop (terminator_len d rest) rest)
      (laws.terminators.term_text d rest k.ends (IsUtf8-from_is_utf8 rest k.rest_text))

  pub cut_same : chars (drop ((at - start) + terminator_len d (drop at text)) (drop start text))
      ≡ drop (length k.row + terminator_len d (drop at text)) (chars (drop start text))
  cut_same =
      let after = chars (drop at text) in
      let t = laws.terminators.term_chars d (drop at text) k.ends in
      ap chars cut_rest ∙ t.behind
      ∙ sym (ap (drop (length k.row + terminator_len d (drop at text))) k.spelled ∙ drop_past k.row after (terminator_len d (drop at text)))

  pub cut_within : terminator_len d (drop at text) ≤ length (drop at text) → (at - start) + terminator_len d (drop at text) ≤ length (drop start text)
  cut_within h = let f = k.from_start in let w = k.within in omega (arith, h, f, w, length-drop at text, length-drop start text)

pub not_ignored : (d : Dialect) (i : ℕ) (rest : List ℕ) → d.skip_rows ≤ i → begins_with (chars rest) (prefix_of d) ≡ false → is_ignored d i (chars rest) ≡ false
not_ignored d i rest h e = neither (nat_lt i d.skip_rows) (begins_with (chars rest) (prefix_of d)) low e
  where
    low : nat_lt i d.skip_rows ≡ false
    low = grind (arith, nat_tests)

    neither : (a b : Bool) → a ≡ false → b ≡ false → (a || b) ≡ false
    neither a b f g = rw (f, g) refl

module _ (laws : RecordLaws) where
  -- the fields of the row at the front of a reader's text were cut
  pub cut_has : (t : Rows) (at n : ℕ) → t.rules.dialect.trim ≡ No → t.row < t.max_rows → is_ignored t.rules.dialect t.row (rest_of t.source) ≡ false
      → IsCutRow t.rules.dialect (text_items t.source) (taken_of t.source) at t.spare.items t.fields.items
      → IsRowLen t.rules.dialect (text_items t.source) (taken_of t.source) at n → HasFields t n
  cut_has t at n trim few not_ignored k l =
      let d = t.rules.dialect in
      let text = text_items t.source in
      let start = taken_of t.source in
      let ut = t.source.is_text in
      record {
        values = k.values;
        row = record {
          len = length k.row + terminator_len d (drop at text);
          front = record {
            within = (let h = cut_within laws d text start at t.spare.items t.fields.items ut k l.within in let v = l.value in omega (arith, h, v));
            is_text = ap (λ m. is_utf8 (drop m (drop start text))) l.value ∙ cut_text laws d text start at t.spare.items t.fields.items ut k;
            same = ap (λ m. chars (drop m (drop start text))) l.value ∙ cut_same laws d text start at t.spare.items t.fields.items ut k;
          };
          takes = cut_takes laws d text start at t.spare.items t.fields.items ut k (is_last (after_of t)) t.max_rows t.row t.rules.lawful few
              not_ignored l.short;
        };
        texts = k.texts ∙ sym (ap (λ x. map (λ v. encode_utf8_all (trimmed x v)) k.values) trim);
      }
