-- Each part of a text begins a row, or breaks a rule, or has a row in it.
use Rattle.std.proofs.Common.{◌≡◌, ℕ, ◌<◌, ◌≤◌, Bool, true, false, ◌&&◌, ◌==◌, not, if◌then◌else◌, List, [], ◌∷◌, ◌++◌, map, length, Option, Some}
use Rattle.std.proofs.Common.{None, option_map, refl, sym, ap, ◌∙◌, subst, arith, append_assoc, append-nil, inl, inr, unwrap_or}
use Rattle.csvw_records.specs.declared.dialect.Dialect.{Dialect}
use Rattle.csvw_records.specs.declared.scan.State.{State}
use Rattle.csvw_records.specs.declared.scan.State.TheVariants.{Start, Plain, Inside, Escaped, Closed}
use Rattle.csvw_records.specs.declared.scan.Step.TheVariants.{Keep, Skip}
use Rattle.csvw_records.specs.Grammar.{terminator_len, trimmed}
use Rattle.csvw_records.specs.Lawful.{IsLawful}
use Rattle.csvw_records.specs.Files.{Row, IsRow, EndsRow, is_ignored}
use Rattle.csvw_records.specs.Scan.{Outcome, Found, Broken, Unfinished, quote_is, is_quoted, step_of, run, finish}
use Rattle.csvw_records.specs.NextRow.{settled, unsettled, line_of, found_row, next_row, terminator_of, may_be_comment}
use Rattle.csvw_records.specs.PartOfRow.{Continues, HasRow}
use Rattle.csvw_records.proofs.RunSteps.{differs}
use Rattle.csvw_records.specs.PassLaws.{ends_at, act_run, goes_on}
use Rattle.csvw_records.proofs.Joins.{run_join, line_joins, settled_all, settled_clear}
use Rattle.csvw_records.proofs.IgnoredRows.{never_ignored}
use Rattle.csvw_records.proofs.RowLaws.{row_sound}
use Rattle.csvw_records.proofs.Complete.{start_after, closed_after, plain_found, same_test}
use Rattle.csvw_records.proofs.Broken.{run_tells}
use Rattle.csvw_records.specs.RowLaws.{Tells, Sees}
use Rattle.csvw_records.proofs.Continue.{term_some, unsettled_is, closing, found_within, not_in_unsettled, row_reaches, regroup, settled_len, settled_fits}
use Rattle.csvw_records.proofs.Continue.{found_is_row, other_found, fields_next, ignored_next, take_front, take_long, clear_all}
use Rattle.csvw_records.proofs.Continue.{continues_ignored, continues_maybe}

-- outside quotes the terminator ends the row
ends_unquoted : (d : Dialect) (st : State) (vs : List (List ℕ)) (cur : List ℕ) → IsLawful d → is_quoted st ≡ false
    → finish (run d st vs cur (terminator_of d)) false ≡ Found (vs ++ cur ∷ []) (terminator_of d)
ends_unquoted d Start vs cur w q = start_after false d vs cur (terminator_of d) w (inl (inl (term_some d w)))
    ∙ plain_found false d vs cur (terminator_of d) (inl (term_some d w))
ends_unquoted d Plain vs cur w q = plain_found false d vs cur (terminator_of d) (inl (term_some d w))
ends_unquoted d Closed vs cur w q = closed_after false d vs cur (terminator_of d) w (inl (inl (term_some d w)))
    ∙ plain_found false d vs cur (terminator_of d) (inl (term_some d w))
ends_unquoted d Inside vs cur w q = absurd cc
ends_unquoted d Escaped vs cur w q = absurd cc

-- what a pass over the settled part says of the whole
pub run_on : (d : Dialect) (part more : List ℕ) → run d Start [] [] (part ++ more) ≡ goes_on d (run d Start [] [] (settled d part)) (unsettled d part ++ more)
run_on d part more = ap (run d Start [] []) (regroup d part more)
    ∙ run_join d Start [] [] (settled d part) (unsettled d part ++ more) (settled_clear d part more)

unfinished_on : (d : Dialect) (part more : List ℕ) (st : State) (vs : List (List ℕ)) (cur : List ℕ) → run d Start [] [] (settled d part) ≡ Unfinished st vs cur
    → run d Start [] [] (part ++ more) ≡ run d st vs cur (unsettled d part ++ more)
unfinished_on d part more st vs cur e = run_on d part more ∙ ap (λ o. goes_on d o (unsettled d part ++ more)) e

found_is : (d : Dialect) (o : Outcome) (fields : Option (List (List ℕ))) (after : List ℕ) → found_row d o ≡ Some (fields, after)
    → (values : List (List ℕ)) × (o ≡ Found values after)
found_is d (Found values rest) fields after h = let same : rest ≡ after =
    ap (λ (o : Option (Option (List (List ℕ)) × List ℕ)). (unwrap_or o (fields, after)).1) h in (values, ap (λ l. Found values l) same)
found_is d (Broken stop rest) fields after h = absurd cc
found_is d (Unfinished st vs cur) fields after h = absurd cc

-- a row that is completed ends behind what the pass has read
reaches : (d : Dialect) (st : State) (vs : List (List ℕ)) (cur rest after : List ℕ) (fields : Option (List (List ℕ)))
    → found_row d (finish (run d st vs cur rest) false) ≡ Some (fields, after) → length after ≤ length rest
reaches d st vs cur rest after fields h = let f = found_is d (finish (run d st vs cur rest) false) fields after h in found_within d st vs cur rest f.0 after f.1

pub continues_unquoted : (d : Dialect) (i : ℕ) (part : List ℕ) (st : State) (vs : List (List ℕ)) (cur : List ℕ) → IsLawful d
    → is_ignored d i part ≡ false → may_be_comment d part ≡ false
    → run d Start [] [] (settled d part) ≡ Unfinished st vs cur → is_quoted st ≡ false → Continues d i part (length (settled d part))
continues_unquoted d i part st vs cur w n m e q = record {
  within = omega (arith, settled_len d part);
  row = record { text = s; fields = Some (map (trimmed d.trim) (vs ++ cur ∷ [])) };
  more = more;
  spelled = spelled;
  is_row = found_is_row d i s (terminator_of d) (Some (map (trimmed d.trim) (vs ++ cur ∷ []))) w found;
  fits = settled_fits d part;
  sure = sure;
  incomplete = fields_next false d i part n ∙ ap (λ l. found_row d (finish (run d Start [] [] l) false)) (sym (append-nil part))
      ∙ ap (λ o. found_row d (finish o false)) (unfinished_on d part [] st vs cur e ∙ ap (run d st vs cur) (append-nil (unsettled d part)))
      ∙ not_in_unsettled d st vs cur part;
}
  where
    s : List ℕ
    s = settled d part

    more : List ℕ
    more = (closing d part).0

    closed : unsettled d part ++ more ≡ terminator_of d
    closed = (closing d part).1

    spelled : part ++ more ≡ s ++ terminator_of d
    spelled = regroup d part more ∙ ap (λ l. s ++ l) closed

    found : next_row false d i (s ++ terminator_of d) ≡ Some (Some (map (trimmed d.trim) (vs ++ cur ∷ [])), terminator_of d)
    found = ap (next_row false d i) (sym spelled) ∙ fields_next false d i (part ++ more) (never_ignored d i part more n m)
        ∙ ap (λ o. found_row d (finish o false)) (unfinished_on d part more st vs cur e ∙ ap (run d st vs cur) closed)
        ∙ ap (found_row d) (ends_unquoted d st vs cur w q)

    sure : (other : Row) (rest after : List ℕ) → part ++ rest ≡ other.text ++ after → IsRow d i other after → 0 < terminator_len d after
        → length s ≤ length other.text
    sure other rest after e' r h =
        let f = sym (ap (λ o. found_row d (finish o false)) (unfinished_on d part rest st vs cur e))
        ∙ sym (fields_next false d i (part ++ rest) (never_ignored d i part rest n m)) ∙ other_found d i part rest after other w e' r h in
        row_reaches s (unsettled d part ++ rest) other.text after (sym (regroup d part rest) ∙ e')
        (reaches d st vs cur (unsettled d part ++ rest) after other.fields f)

-- a CR inside quotes is text
pub record Quoted (d : Dialect) (part : List ℕ) (st : State) (vs : List (List ℕ)) (cur : List ℕ) : Type 0 where
  pub to : State
  pub kept : List ℕ
  pub quoted : is_quoted to ≡ true
  pub goes : (more : List ℕ) → run d st vs cur (unsettled d part ++ more) ≡ run d to vs kept more

inside_keeps : (d : Dialect) (q : ℕ) → IsLawful d → d.quote_char ≡ Some q → (e : Bool) → step_of d Inside 13 e ≡ Keep Inside
inside_keeps d q w h e =
    let n : quote_is d.quote_char 13 ≡ false = rw h (differs 13 q (λ k. w.quote_cr (h ∙ ap Some (sym k)))) in
    tests (quote_is d.quote_char 13) (not d.double_quote) n
  where
    tests : (a b : Bool) → a ≡ false → (if a then Skip Closed else (if b && false then Skip Escaped else Keep Inside)) ≡ Keep Inside
    tests true b n = absurd cc
    tests false true n = refl
    tests false false n = refl

quoted_on : (d : Dialect) (q : ℕ) (part : List ℕ) (st : State) (vs : List (List ℕ)) (cur : List ℕ) → IsLawful d → d.quote_char ≡ Some q
    → is_quoted st ≡ true → Quoted d part st vs cur
quoted_on d q part st vs cur w h t = elim (unsettled_is d part) [
  | inl e ↦ record { to = st; kept = cur; quoted = t; goes = λ more. ap (λ l. run d st vs cur (l ++ more)) e }
  | inr p ↦ by_state st t p.0
]
  where
    by_state : (st : State) → is_quoted st ≡ true → unsettled d part ≡ 13 ∷ [] → Quoted d part st vs cur
    by_state Inside t e = record {
      to = Inside;
      kept = cur ++ 13 ∷ [];
      quoted = refl;
      goes = λ more. ap (λ l. run d Inside vs cur (l ++ more)) e ∙ ap (act_run d vs cur 13 more) (inside_keeps d q w h (ends_at d (13 ∷ more)));
    }
    by_state Escaped t e = record { to = Inside; kept = cur ++ 13 ∷ []; quoted = refl; goes = λ more. ap (λ l. run d Escaped vs cur (l ++ more)) e }
    by_state Start t e = absurd cc
    by_state Plain t e = absurd cc
    by_state Closed t e = absurd cc

-- inside quotes a quote and the terminator end the row
pub record Ending (d : Dialect) (st : State) (vs : List (List ℕ)) (cur : List ℕ) : Type 0 where
  pub close : List ℕ
  pub values : List (List ℕ)
  pub found : finish (run d st vs cur (close ++ terminator_of d)) false ≡ Found values (terminator_of d)

inside_closes : (d : Dialect) (q : ℕ) (vs : List (List ℕ)) (cur more : List ℕ) → d.quote_char ≡ Some q
    → run d Inside vs cur (q ∷ more) ≡ run d Closed vs cur more
inside_closes d q vs cur more h =
    let is : quote_is d.quote_char q ≡ true = rw h (same_test q) in
    ap (λ (b : Bool). act_run d vs cur q more (if b then Skip Closed else (if not d.double_quote && (q == 92) then Skip Escaped else Keep Inside))) is

ending : (d : Dialect) (q : ℕ) (st : State) (vs : List (List ℕ)) (cur : List ℕ) → IsLawful d → d.quote_char ≡ Some q → is_quoted st ≡ true → Ending d st vs cur
ending d q Inside vs cur w h t = record {
  close = q ∷ [];
  values = vs ++ cur ∷ [];
  found = ap (λ o. finish o false) (inside_closes d q vs cur (terminator_of d) h) ∙ ends_unquoted d Closed vs cur w refl;
}
ending d q Escaped vs cur w h t = record {
  close = q ∷ q ∷ [];
  values = vs ++ (cur ++ q ∷ []) ∷ [];
  found = ap (λ o. finish o false) (inside_closes d q vs (cur ++ q ∷ []) (terminator_of d) h) ∙ ends_unquoted d Closed vs (cur ++ q ∷ []) w refl;
}
ending d q Start vs cur w h t = absurd cc
ending d q Plain vs cur w h t = absurd cc
ending d q Closed vs cur w h t = absurd cc

-- inside quotes there is a quote
has_quote : (d : Dialect) (text : List ℕ) (st : State) (vs : List (List ℕ)) (cur : List ℕ) → run d Start [] [] text ≡ Unfinished st vs cur
    → is_quoted st ≡ true → (q : ℕ) × (d.quote_char ≡ Some q)
has_quote d text st vs cur e t = by_state st t (subst (Tells d text) e (run_tells d text))
  where
    by_state : (st : State) → is_quoted st ≡ true → Tells d text (Unfinished st vs cur) → (q : ℕ) × (d.quote_char ≡ Some q)
    by_state Inside t (values, src, a, o) = (o.quote, o.is_quote)
    by_state Escaped t (values, src, a, (opened, o, e, f)) = (o.quote, o.is_quote)
    by_state Start t x = absurd cc
    by_state Plain t x = absurd cc
    by_state Closed t x = absurd cc

pub continues_quoted : (d : Dialect) (i : ℕ) (part : List ℕ) (st : State) (vs : List (List ℕ)) (cur : List ℕ) → IsLawful d → is_ignored d i part ≡ false
    → may_be_comment d part ≡ false
    → run d Start [] [] (settled d part) ≡ Unfinished st vs cur → is_quoted st ≡ true → Continues d i part (length part)
continues_quoted d i part st vs cur w n m e t = record {
  within = omega arith;
  row = record { text = part ++ last.close; fields = Some (map (trimmed d.trim) last.values) };
  more = last.close ++ terminator_of d;
  spelled = sym (append_assoc part last.close (terminator_of d));
  is_row = found_is_row d i (part ++ last.close) (terminator_of d) (Some (map (trimmed d.trim) last.values)) w found;
  fits = take_front part last.close ∙ sym (take_long (length part) part (omega arith));
  sure = sure;
  incomplete = fields_next false d i part n ∙ ap (λ l. found_row d (finish (run d Start [] [] l) false)) (sym (append-nil part))
      ∙ ap (λ o. found_row d (finish o false)) (unfinished_on d part [] st vs cur e ∙ ap (run d st vs cur) (append-nil (unsettled d part)))
      ∙ not_in_unsettled d st vs cur part;
}
  where
    quote : (q : ℕ) × (d.quote_char ≡ Some q)
    quote = has_quote d (settled d part) st vs cur e t

    on : Quoted d part st vs cur
    on = quoted_on d quote.0 part st vs cur w quote.1 t

    last : Ending d on.to vs on.kept
    last = ending d quote.0 on.to vs on.kept w quote.1 on.quoted

    passes : (more : List ℕ) → run d Start [] [] (part ++ more) ≡ run d on.to vs on.kept more
    passes more = unfinished_on d part more st vs cur e ∙ on.goes more

    found : next_row false d i ((part ++ last.close) ++ terminator_of d) ≡ Some (Some (map (trimmed d.trim) last.values), terminator_of d)
    found = ap (next_row false d i) (append_assoc part last.close (terminator_of d))
        ∙ fields_next false d i (part ++ (last.close ++ terminator_of d)) (never_ignored d i part (last.close ++ terminator_of d) n m)
        ∙ ap (λ o. found_row d (finish o false)) (passes (last.close ++ terminator_of d)) ∙ ap (found_row d) last.found

    sure : (other : Row) (rest after : List ℕ) → part ++ rest ≡ other.text ++ after → IsRow d i other after → 0 < terminator_len d after
        → length part ≤ length other.text
    sure other rest after e' r h =
        let f = sym (ap (λ o. found_row d (finish o false)) (passes rest)) ∙ sym (fields_next false d i (part ++ rest) (never_ignored d i part rest n m))
        ∙ other_found d i part rest after other w e' r h in
        row_reaches part rest other.text after e' (reaches d on.to vs on.kept rest after other.fields f)

has_end : (d : Dialect) (after : List ℕ) → EndsRow false d after → 0 < terminator_len d after
has_end d after (inl h) = h
has_end d after (inr (t, e)) = absurd (grind arith)

pub row_seen : (d : Dialect) (i : ℕ) (part after : List ℕ) (fields : Option (List (List ℕ))) → IsLawful d
    → next_row false d i part ≡ Some (fields, after) → HasRow d i part
row_seen d i part after fields w h =
    let r = row_sound false d i part fields after w h in
    record { row = record { text = r.row; fields = fields }; after = after; spelled = r.spelled; is_row = r.is_row; ends = has_end d after r.ends }

sees_ignored : (d : Dialect) (i : ℕ) (part : List ℕ) (o : Option (List ℕ)) → IsLawful d → is_ignored d i part ≡ true → line_of false d (settled d part) ≡ o
    → Sees d i part
sees_ignored d i part None w n e = inr (inl (length (settled d part), continues_ignored d i part w n e))
sees_ignored d i part (Some after) w n e =
    let found = ap (line_of false d) (sym (settled_all d part)) ∙ line_joins d false (settled d part) (unsettled d part) after (clear_all d part) e in
    inl (row_seen d i part (after ++ unsettled d part) None w (ignored_next d i part n ∙ ap (option_map (λ l. (None, l))) found))

sees_fields : (d : Dialect) (i : ℕ) (part : List ℕ) (o : Outcome) → IsLawful d → is_ignored d i part ≡ false → may_be_comment d part ≡ false
    → run d Start [] [] (settled d part) ≡ o → Sees d i part
sees_fields d i part (Found values after) w n m e =
    let found = ap (run d Start [] []) (sym (append-nil part)) ∙ run_on d part [] ∙ ap (λ o. goes_on d o (unsettled d part ++ [])) e in
    inl (row_seen d i part (after ++ (unsettled d part ++ [])) (Some (map (trimmed d.trim) values)) w
    (fields_next false d i part n ∙ ap (λ o. found_row d (finish o false)) found))
sees_fields d i part (Broken stop rest) w n m e = inr (inr (stop, record { rest = rest; not_ignored = n; may_not = m; broken = e }))
sees_fields d i part (Unfinished st vs cur) w n m e = by_quotes (is_quoted st) refl
  where
    by_quotes : (b : Bool) → is_quoted st ≡ b → Sees d i part
    by_quotes true t = inr (inl (length part, continues_quoted d i part st vs cur w n m e t))
    by_quotes false t = inr (inl (length (settled d part), continues_unquoted d i part st vs cur w n m e t))

pub sees : (d : Dialect) (i : ℕ) (part : List ℕ) → IsLawful d → Sees d i part
sees d i part w = by_ignored (is_ignored d i part) refl
  where
    by_maybe : (b : Bool) → may_be_comment d part ≡ b → is_ignored d i part ≡ false → Sees d i part
    by_maybe true m n = inr (inl (length part, continues_maybe d i part w n m))
    by_maybe false m n = sees_fields d i part (run d Start [] [] (settled d part)) w n m refl

    by_ignored : (b : Bool) → is_ignored d i part ≡ b → Sees d i part
    by_ignored true n = sees_ignored d i part (line_of false d (settled d part)) w n refl
    by_ignored false n = by_maybe (may_be_comment d part) refl n
