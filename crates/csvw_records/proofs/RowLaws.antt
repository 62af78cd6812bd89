-- A text begins with at most one row, and with at most one list of rows of a length.
use Rattle.std.proofs.Common.{◌≡◌, ℕ, ◌+◌, ◌≤◌, Bool, true, false, if◌then◌else◌, List, [], ◌∷◌, ◌++◌, map, length, Option, Some, None, option_map}
use Rattle.std.proofs.Common.{refl, sym, ap, ◌∙◌, subst, arith, inl, inr, MatchBool, drop, add-zero, unwrap_or}
use Rattle.csvw_records.specs.declared.dialect.Dialect.{Dialect}
use Rattle.csvw_records.specs.declared.scan.State.TheVariants.{Start}
use Rattle.csvw_records.specs.Grammar.{terminator_len, trimmed, AreFields, RowText}
use Rattle.csvw_records.specs.Lawful.{IsLawful}
use Rattle.csvw_records.specs.Scan.{Outcome, Found, Broken, Unfinished, pass}
use Rattle.csvw_records.specs.Files.{Row, IsRow, AreRows, EndsRow, HasNoTerminator, is_ignored}
use Rattle.csvw_records.specs.NextRow.{line_of, found_row, next_row}
use Rattle.std.proofs.lemmas.List.{append_cancel_right}
use Rattle.csvw_records.proofs.IgnoredRows.{ignored_same, ends_break}
use Rattle.csvw_records.proofs.RunSteps.{no_end}
use Rattle.csvw_records.specs.PassLaws.{ends_at}
use Rattle.csvw_records.proofs.Complete.{run_fields, has_end, nothing_ends}
use Rattle.csvw_records.proofs.Sound.{sound, start_is_fields, ends_is, no_ends_is}
use Rattle.csvw_records.specs.RowLaws.{ReadsRow, SameRow}

-- a skipped row or a comment
pub line_complete : (f : Bool) (d : Dialect) (text after : List ℕ) → HasNoTerminator d text after → EndsRow f d after → line_of f d (text ++ after) ≡ Some after
line_complete f d [] [] n (inl h) = absurd (nothing_ends d h)
line_complete f d [] [] n (inr (t, e)) = rw t refl
line_complete f d [] (c ∷ cs) n (inl h) = rw (has_end d (c ∷ cs) h) refl
line_complete f d [] (c ∷ cs) n (inr (t, e)) = absurd cc
line_complete f d (c ∷ cs) after n h = rw (no_end d (c ∷ cs ++ after) n.0) (line_complete f d cs after n.1 h)

pub record ReadsLine (f : Bool) (d : Dialect) (text after : List ℕ) : Type 0 where
  pub line : List ℕ
  pub spelled : text ≡ line ++ after
  pub none : HasNoTerminator d line after
  pub ends : EndsRow f d after

line_step : (f : Bool) (d : Dialect) (c : ℕ) (cs after : List ℕ) (b : Bool) → ends_at d (c ∷ cs) ≡ b
    → (if b then Some (c ∷ cs) else line_of f d cs) ≡ Some after
    → (line_of f d cs ≡ Some after → ReadsLine f d cs after) → ReadsLine f d (c ∷ cs) after
line_step f d c cs after true e h ih =
    let same : c ∷ cs ≡ after = cc in
    record { line = []; spelled = same; none = tt; ends = subst (EndsRow f d) same (inl (ends_is d (c ∷ cs) e)) }
line_step f d c cs after false e h ih =
    let r = ih h in
    record {
      line = c ∷ r.line;
      spelled = ap (λ l. c ∷ l) r.spelled;
      none = (subst (λ (x : List ℕ). terminator_len d (c ∷ x) ≡ 0) r.spelled (no_ends_is d (c ∷ cs) e), r.none);
      ends = r.ends;
    }

pub line_sound : (f : Bool) (d : Dialect) (text after : List ℕ) → line_of f d text ≡ Some after → ReadsLine f d text after
line_sound true d [] after h = record { line = []; spelled = cc; none = tt; ends = inr (refl, cc) }
line_sound false d [] after h = absurd cc
line_sound f d (c ∷ cs) after h = line_step f d c cs after (ends_at d (c ∷ cs)) refl h (line_sound f d cs after)

-- a row that is there is found
by_kind : (f : Bool) (d : Dialect) (i : ℕ) (row : Row) (after : List ℕ) (b : Bool) → is_ignored d i (row.text ++ after) ≡ b → IsLawful d
    → MatchBool b ((row.fields ≡ None) × HasNoTerminator d row.text after)
    ((fields : List (List ℕ)) × (row.fields ≡ Some fields) × RowText d row.text fields after)
    → EndsRow f d after → (if b then option_map (λ after. (None, after)) (line_of f d (row.text ++ after)) else found_row d
    (pass f d Start [] [] (row.text ++ after))) ≡ Some (row.fields, after)
by_kind f d i row after true e w (none, line) h = rw (line_complete f d row.text after line h) (ap (λ x. Some (x, after)) (sym none))
by_kind f d i row after false e w (fields, some, (values, are, all)) h =
    rw (run_fields f d [] row.text values after w are h) (ap (λ x. Some (x, after)) (ap Some (sym all) ∙ sym some))

pub row_complete : (f : Bool) (d : Dialect) (i : ℕ) (row : Row) (after : List ℕ) → IsLawful d → IsRow d i row after → EndsRow f d after
    → next_row f d i (row.text ++ after) ≡ Some (row.fields, after)
row_complete f d i row after w r h =
    let same = ignored_same d i row.text after w (ends_break f d after h) in
    ap (λ (b : Bool). if b then option_map (λ l. (None, l)) (line_of f d (row.text ++ after)) else found_row d (pass f d Start [] [] (row.text ++ after))) same
    ∙ by_kind f d i row after (is_ignored d i row.text) same w r h

pub row_unique : (f : Bool) (d : Dialect) (i : ℕ) (a b : Row) (after later : List ℕ) → IsLawful d → a.text ++ after ≡ b.text ++ later
    → IsRow d i a after → EndsRow f d after → IsRow d i b later → EndsRow f d later → SameRow a b after later
row_unique f d i a b after later w e r h s k =
    let found = sym (row_complete f d i a after w r h) ∙ ap (next_row f d i) e ∙ row_complete f d i b later w s k in
    let rest : after ≡ later = ap (λ (o : Option (Option (List (List ℕ)) × List ℕ)). (unwrap_or o (a.fields, after)).1) found in
    let fields : a.fields ≡ b.fields = ap (λ (o : Option (Option (List (List ℕ)) × List ℕ)). (unwrap_or o (a.fields, after)).0) found in
    let text : a.text ≡ b.text = append_cancel_right a.text b.text after (e ∙ ap (λ l. b.text ++ l) (sym rest)) in
    record { row = ap (λ x. record { text = x; fields = a.fields }) text ∙ ap (λ x. record { text = b.text; fields = x }) fields; rest = rest }

-- of two lists of rows of one text, the shorter begins the longer
pub rows_prefix : (d : Dialect) (i : ℕ) (text : List ℕ) (xs ys : List Row) (rest later : List ℕ) → IsLawful d → AreRows d i text xs rest
    → AreRows d i text ys later → length xs ≤ length ys
    → (more : List Row) × (ys ≡ xs ++ more) × AreRows d (i + length xs) rest more later
rows_prefix d i text [] ys rest later w r s h =
    (ys, refl, subst (λ (n : ℕ). AreRows d n rest ys later) (sym (add-zero i)) (subst (λ (x : List ℕ). AreRows d i x ys later) r s))
rows_prefix d i text (a ∷ xs) [] rest later w r s h = absurd (omega arith)
rows_prefix d i text (a ∷ xs) (b ∷ ys) rest later w (after, e, row, ends, rows) (after', e', row', ends', rows') h =
    let same = row_unique false d i a b after after' w (sym e ∙ e') row (inl ends) row' (inl ends') in
    let shorter : length xs ≤ length ys = omega arith in
    let deeper = rows_prefix d (i + 1) (drop (terminator_len d after) after) xs ys rest later w rows
    (subst (λ (x : List ℕ). AreRows d (i + 1) (drop (terminator_len d x) x) ys later) (sym same.rest) rows') shorter in
    let place : i + 1 + length xs ≡ i + length (a ∷ xs) = omega arith in
    (deeper.0, ap (λ x. x ∷ ys) (sym same.row) ∙ ap (λ x. a ∷ x) deeper.1, subst (λ (n : ℕ). AreRows d n rest deeper.0 later) place deeper.2)

pub found_sound : (f : Bool) (d : Dialect) (text : List ℕ) (o : Outcome) (fields : Option (List (List ℕ))) (after : List ℕ)
    → pass f d Start [] [] text ≡ o → found_row d o ≡ Some (fields, after)
    → (values : List (List ℕ)) × (pass f d Start [] [] text ≡ Found values after) × (fields ≡ Some (map (trimmed d.trim) values))
found_sound f d text (Found values rest) fields after e h =
    let r : rest ≡ after = ap (λ (o : Option (Option (List (List ℕ)) × List ℕ)). (unwrap_or o (fields, after)).1) h in
    let s : Some (map (trimmed d.trim) values) ≡ fields = ap (λ (o : Option (Option (List (List ℕ)) × List ℕ)). (unwrap_or o (fields, after)).0) h in
    (values, e ∙ ap (λ l. Found values l) r, sym s)
found_sound f d text (Broken stop rest) fields after e h = absurd cc
found_sound f d text (Unfinished st vs cur) fields after e h = absurd cc

pub line_some : (o : Option (List ℕ)) (fields : Option (List (List ℕ))) (after : List ℕ)
    → ◌≡◌ {A = Option (Option (List (List ℕ)) × List ℕ)} (option_map (λ l. (None, l)) o) (Some (fields, after)) → (o ≡ Some after) × (fields ≡ None)
line_some None fields after h = absurd cc
line_some (Some l) fields after h =
    let r : l ≡ after = ap (λ (o : Option (Option (List (List ℕ)) × List ℕ)). (unwrap_or o (fields, after)).1) h in
    let s : None ≡ fields = ap (λ (o : Option (Option (List (List ℕ)) × List ℕ)). (unwrap_or o (fields, after)).0) h in
    (ap Some r, sym s)

row_sound_by : (f : Bool) (d : Dialect) (i : ℕ) (text : List ℕ) (fields : Option (List (List ℕ))) (after : List ℕ) (b : Bool) → IsLawful d
    → is_ignored d i text ≡ b
    → ◌≡◌ {A = Option (Option (List (List ℕ)) × List ℕ)}
    (if b then option_map (λ l. (None, l)) (line_of f d text) else found_row d (pass f d Start [] [] text)) (Some (fields, after))
    → ReadsRow f d i text fields after
row_sound_by f d i text fields after true w e h =
    let found = line_some (line_of f d text) fields after h in
    let r = line_sound f d text after found.0 in
    let ignored : is_ignored d i r.line ≡ true = sym (ignored_same d i r.line after w (ends_break f d after r.ends))
    ∙ ap (is_ignored d i) (sym r.spelled) ∙ e in
    record { row = r.line; spelled = r.spelled; is_row = rw ignored (found.1, r.none); ends = r.ends }
row_sound_by f d i text fields after false w e h =
    let found = found_sound f d text (pass f d Start [] [] text) fields after refl h in
    let r = sound f d Start [] [] text found.0 after found.1 in
    let not_ignored : is_ignored d i r.row ≡ false = sym (ignored_same d i r.row after w (ends_break f d after r.ends))
    ∙ ap (is_ignored d i) (sym r.spelled) ∙ e in
    let are : AreFields d r.row found.0 after =
    subst (λ (l : List (List ℕ)). AreFields d r.row l after) (sym r.all) (start_is_fields d r.row r.new after r.fields) in
    record { row = r.row; spelled = r.spelled; is_row = rw not_ignored (map (trimmed d.trim) found.0, found.2, (found.0, are, refl)); ends = r.ends }

pub row_sound : (f : Bool) (d : Dialect) (i : ℕ) (text : List ℕ) (fields : Option (List (List ℕ))) (after : List ℕ) → IsLawful d
    → next_row f d i text ≡ Some (fields, after) → ReadsRow f d i text fields after
row_sound f d i text fields after w h = row_sound_by f d i text fields after (is_ignored d i text) w refl h
