-- What is at the front, from the line there.
use Rattle.std.proofs.Common.{◌≡◌, ◌≢◌, ℕ, zero, suc, ◌+◌, ◌<◌, ◌≤◌, Bool, true, false, List, [], ◌∷◌, ◌++◌, length, take, drop, Option, None, refl, sym, ap}
use Rattle.std.proofs.Common.{◌∙◌, subst, arith, append_assoc, append-nil, length-append, length-drop, ◌⊎◌, inl, inr, ◌==◌}
use Rattle.std.proofs.lemmas.Bool.Decides.{nat_tests}
use Rattle.std.proofs.lemmas.Bool.{cases_lt}
use Rattle.std.proofs.lemmas.List.{take-append-drop, append_cancel_right, drop-drop}
use Rattle.csvw_records.specs.declared.dialect.Dialect.{Dialect}
use Rattle.csvw_records.specs.declared.stop.RowStop.{RowStop}
use Rattle.csvw_records.specs.declared.stop.RowStop.TheVariants.{Memory, NotUtf8, RowTooLong, BadQuote, TextAfterQuote, UnclosedQuote, TooManyRows}
use Rattle.csvw_records.specs.declared.scan.State.TheVariants.{Start}
use Rattle.csvw_rows.specs.declared.next.After.{After}
use Rattle.csvw_rows.specs.declared.next.After.TheVariants.{More, Nothing, NoText}
use Rattle.csvw_records.specs.Grammar.{terminator_len}
use Rattle.csvw_records.specs.Lawful.{IsLawful}
use Rattle.csvw_records.specs.Lengths.{byte_len, row_limit}
use Rattle.csvw_records.specs.Files.{Row, IsRow, EndsRow}
use Rattle.csvw_records.specs.Scan.{run}
use Rattle.csvw_records.specs.NextRow.{settled, unsettled, next_row, terminator_of}
use Rattle.csvw_records.specs.PartOfRow.{Continues, Breaks, HasRow, Goes, Ends, NoRow, NoLast, FirstEnd}
use Rattle.csvw_records.specs.Stops.{IsBroken, IsNamed}
use Rattle.csvw_records.specs.AtFront.{IsFound, IsWrong}
use Rattle.csvw_rows.specs.NextRows.{TakesRow, StopsHere, StopGives, is_last}
use Rattle.csvw_records.specs.PassLaws.{goes_on}
use Rattle.csvw_records.specs.RowLaws.{Tells, IsRule, Sees}
use Rattle.csvw_rows.proofs.TextLemmas.{take_all, same_front}
use Rattle.csvw_rows.proofs.ByteLens.{byte_len_take}
use Rattle.csvw_records.specs.RecordLaws.{RecordLaws}

module _ (laws : RecordLaws) where
  -- a pass over a whole text goes on from what is settled of it
  run_whole : (d : Dialect) (text : List ℕ) → run d Start [] [] text ≡ goes_on d (run d Start [] [] (settled d text)) (unsettled d text)
  run_whole d text = ap (run d Start [] []) (sym (laws.passes.settled_all d text))
      ∙ laws.passes.run_join d Start [] [] (settled d text) (unsettled d text) (laws.passes.clear_all d text)

cases_le : (a b : ℕ) → (a ≤ b) ⊎ (b < a)
cases_le a b = elim (cases_lt b a) [ inl h ↦ inr h | inr h ↦ inl h ]

module _ (laws : RecordLaws) where
  -- which rule
  breaks_named : (d : Dialect) (i : ℕ) (part : List ℕ) (stop : RowStop) → Breaks d i part stop → IsBroken d i part false stop
  breaks_named d i part stop b = by_stop stop (subst (Tells d part) (run_whole laws d part ∙ ap (λ o. goes_on d o (unsettled d part)) b.broken)
      (laws.rows.run_tells d part))
    where
      by_stop : (s : RowStop) → IsRule d part s → IsBroken d i part false s
      by_stop BadQuote r = (b.not_ignored, r)
      by_stop TextAfterQuote r = (b.not_ignored, r)
      by_stop other r = absurd r

named_of : (d : Dialect) (max i : ℕ) (part : List ℕ) (ended : Bool) (stop : RowStop) → byte_len part ≤ row_limit → IsBroken d i part ended stop
    → IsNamed d max i part ended stop
named_of d max i part ended BadQuote h b = (h, b)
named_of d max i part ended TextAfterQuote h b = (h, b)
named_of d max i part ended UnclosedQuote h b = (h, b)
named_of d max i part ended other h b = absurd b

module _ (laws : RecordLaws) where
  -- a row in a front of a text is in the text
  abbrev row_in : (d : Dialect) (i : ℕ) (text : List ℕ) (k : ℕ) → HasRow d i (take k text) → HasRow d i text
  row_in d i text k r = record {
    row = r.row;
    after = r.after ++ drop k text;
    spelled = sym (take-append-drop k text) ∙ ap (λ l. l ++ drop k text) r.spelled ∙ append_assoc r.row.text r.after (drop k text);
    is_row = laws.rows.row_stays d i r.row r.after (drop k text) r.is_row r.ends;
    ends = (let h = r.ends in omega (arith, laws.terminators.term_stays d r.after (drop k text) r.ends));
  }

  -- at the first end of a row it is too long, or a rule is broken
  end_named : (d : Dialect) (max i : ℕ) (text : List ℕ) (k : ℕ) → IsLawful d → i < max → NoRow d max i text → Ends d max i (take k text)
      → (row_limit < byte_len (take k text)) ⊎ ((stop : RowStop) × Breaks d i (take k text) stop)
  end_named d max i text k w few none e = by_length (cases_le (byte_len (take k text)) row_limit)
    where
      by_seen : byte_len (take k text) ≤ row_limit → Sees d i (take k text)
          → (row_limit < byte_len (take k text)) ⊎ ((stop : RowStop) × Breaks d i (take k text) stop)
      by_seen h (inl r) =
          let whole = row_in d i text k r in
          let fits : byte_len r.row.text ≤ byte_len (take k text) = (let n = byte_len_take (length r.row.text) (take k text) in
          omega (
            arith,
            n,
            ap byte_len (same_front (take k text) [] r.row.text r.after (length r.row.text) (append-nil (take k text) ∙ r.spelled)
                (omega (arith, ap length r.spelled, length-append r.row.text r.after)) (omega arith)),
            ap byte_len (take_all (length r.row.text) r.row.text (omega arith)),
          )) in
          absurd (none few whole.row whole.after whole.spelled whole.is_row whole.ends (omega (arith, fits, h)))
      by_seen h (inr (inl (len, c))) =
          let n = byte_len_take len (take k text) in
          absurd (laws.stops.not_both d max i (take k text) w (inr
          (few, record { row = c.row; more = c.more; spelled = c.spelled; is_row = c.is_row; short = omega (arith, h, n, ap byte_len c.fits) })) e)
      by_seen h (inr (inr b)) = inr b

      by_length : (byte_len (take k text) ≤ row_limit) ⊎ (row_limit < byte_len (take k text))
          → (row_limit < byte_len (take k text)) ⊎ ((stop : RowStop) × Breaks d i (take k text) stop)
      by_length (inr h) = inl h
      by_length (inl h) = by_seen h (laws.rows.sees d i (take k text) w)

  -- whether a whole text goes on
  whole_goes : (d : Dialect) (max i : ℕ) (text : List ℕ) → IsLawful d → NoRow d max i text → Goes d max i text ⊎ Ends d max i (take (length text) text)
  whole_goes d max i text w none = elim (laws.stops.decide_part d max i text [] w (subst (NoRow d max i) (sym (append-nil text)) none)) [
    | inl g ↦ inl g
    | inr e ↦ inr (subst (Ends d max i) (sym (take_all (length text) text (omega arith))) e)
  ]

  -- no row is found
  none_complete : (d : Dialect) (max i : ℕ) (text : List ℕ) → IsLawful d → next_row false d i text ≡ None → NoRow d max i text
  none_complete d max i text w e few row after spelled r h short =
      let found = sym e ∙ ap (next_row false d i) spelled ∙ laws.rows.row_complete false d i row after w r (inl h) in absurd cc

  none_last : (d : Dialect) (max i : ℕ) (text : List ℕ) → IsLawful d → next_row true d i text ≡ None → NoLast d max i text
  none_last d max i text w e few row spelled r short =
      let found = sym e ∙ ap (next_row true d i) (spelled ∙ sym (append-nil row.text))
      ∙ laws.rows.row_complete true d i row [] w r (inr (refl, refl)) in absurd cc

  -- a broken rule
  pub wrong_stops : (whole : Bool) (d : Dialect) (max i : ℕ) (text : List ℕ) (len : ℕ) (stop : RowStop) → IsLawful d → i < max → text ≢ []
      → IsWrong whole d i text len stop
      → byte_len (take len text) ≤ row_limit → StopsHere whole d max i text stop
  wrong_stops whole d max i text len stop w few some g short = record {
    some = some;
    no_row = none;
    no_last = λ t. none_last d max i text w (ap (λ b. next_row b d i text) (sym t) ∙ g.no_row.0);
    stands = by_end (whole_goes d max i text w none);
  }
    where
      none : NoRow d max i text
      none = none_complete d max i text w g.no_row.1

      in_text : (f : FirstEnd d max i text (length text)) → f.at ≤ len → IsNamed d max i (take f.at text) false stop
      in_text f h = by_name (end_named d max i text f.at w few none f.ends)
        where
          less : byte_len (take f.at text) ≤ row_limit
          less = (let n = laws.texts.byte_len_less f.at len text h in omega (arith, n, short))

          by_name : (row_limit < byte_len (take f.at text)) ⊎ ((s : RowStop) × Breaks d i (take f.at text) s) → IsNamed d max i (take f.at text) false stop
          by_name (inl long) = absurd (omega (arith, long, less))
          by_name (inr (s, b)) =
              let same = (g.first f.at s (let h = f.within in omega (arith, h)) b).1 in
              named_of d max i (take f.at text) false stop less (subst (IsBroken d i (take f.at text) false) same (breaks_named laws d i (take f.at text) s b))

      at_len : Breaks d i (take len text) stop → Ends d max i (take len text)
      at_len b = record {
        some = λ e. empty e;
        none = λ _ row more after e r h short. laws.rows.breaks_none d i (take len text) stop w b row more after e r h;
      }
        where
          empty : take len text ≡ [] → ⊥
          empty e = let z = ap (λ l. run d Start [] [] (settled d l)) (sym e) ∙ b.broken in cc

      by_end : Goes d max i text ⊎ Ends d max i (take (length text) text)
          → ((f : FirstEnd d max i text (length text)) × IsNamed d max i (take f.at text) false stop) ⊎
          ((whole ≡ true) × Goes d max i text × IsNamed d max i text true stop)
      by_end (inl goes) = by_stands g.stands
        where
          by_stands : Breaks d i (take len text) stop ⊎ ((whole ≡ true) × (len ≡ length text))
              → ((f : FirstEnd d max i text (length text)) × IsNamed d max i (take f.at text) false stop) ⊎
              ((whole ≡ true) × Goes d max i text × IsNamed d max i text true stop)
          by_stands (inl b) =
              let f = laws.stops.first_end d max i text len w none (at_len b) in
              let within = f.within in
              let inside = g.within in
              let full : FirstEnd d max i text (length text) = record { at = f.at; within = omega (arith, within, inside); ends = f.ends; before = f.before } in
              inl (full, in_text full within)
          by_stands (inr (t, e)) = inr
              (t, goes, named_of d max i text true stop (omega (arith, short, ap byte_len (take_all len text (omega (arith, e))))) (g.is_broken t))
      by_end (inr ends) = by_stands g.stands
        where
          by_stands : Breaks d i (take len text) stop ⊎ ((whole ≡ true) × (len ≡ length text))
              → ((f : FirstEnd d max i text (length text)) × IsNamed d max i (take f.at text) false stop) ⊎
              ((whole ≡ true) × Goes d max i text × IsNamed d max i text true stop)
          by_stands (inl b) =
              let f = laws.stops.first_end d max i text len w none (at_len b) in
              let within = f.within in
              let inside = g.within in
              let full : FirstEnd d max i text (length text) = record { at = f.at; within = omega (arith, within, inside); ends = f.ends; before = f.before } in
              inl (full, in_text full within)
          by_stands (inr (t, e)) = let f = laws.stops.first_end d max i text (length text) w none ends in let within = f.within in
              inl (f, in_text f (omega (arith, within, e)))

-- too many rows
pub many_stops : (whole : Bool) (d : Dialect) (max i : ℕ) (text : List ℕ) → i ≡ max → text ≢ [] → StopsHere whole d max i text TooManyRows
many_stops whole d max i [] e some = absurd (some refl)
many_stops whole d max i (c ∷ cs) e some = record {
  some = some;
  no_row = λ few row after s r h short. omega (arith, few, e);
  no_last = λ t few row s r short. omega (arith, few, e);
  stands = inl (
    record {
      at = 1;
      within = omega arith;
      ends = record { some = λ f. cc; none = λ few row more after s r h short. omega (arith, few, e) };
      before = λ k h. inl (ap (λ n. take n (c ∷ cs)) (let z : k ≡ 0 = omega (arith, h) in z));
    },
    (refl, e),
  );
}

-- a row that is found
pub record Seen (whole : Bool) (d : Dialect) (i : ℕ) (text : List ℕ) (len : ℕ) (fields : Option (List (List ℕ))) : Type 0 where
  pub row : Row
  pub rest : List ℕ
  pub fields_are : row.fields ≡ fields
  pub text_is : row.text ≡ take len text
  pub rest_is : rest ≡ drop len text
  pub spelled : text ≡ row.text ++ rest
  pub is_row : IsRow d i row rest
  pub ends : EndsRow whole d rest

module _ (laws : RecordLaws) where
  pub seen_of : (whole : Bool) (d : Dialect) (i : ℕ) (text : List ℕ) (len : ℕ) (fields : Option (List (List ℕ))) → IsLawful d
      → IsFound whole d i text len fields → Seen whole d i text len fields
  seen_of whole d i text len fields w f =
      let r = laws.rows.row_sound whole d i text fields (drop len text) w f.found in
      record {
        row = record { text = r.row; fields = fields };
        rest = drop len text;
        fields_are = refl;
        text_is = append_cancel_right r.row (take len text) (drop len text) (sym r.spelled ∙ sym (take-append-drop len text));
        rest_is = refl;
        spelled = r.spelled;
        is_row = r.is_row;
        ends = r.ends;
      }

as_true : (whole : Bool) (d : Dialect) (rest : List ℕ) → EndsRow whole d rest → EndsRow true d rest
as_true whole d rest (inl h) = inl h
as_true whole d rest (inr (t, e)) = inr (refl, e)

module _ (laws : RecordLaws) where
  -- a row that is found is the only one
  seen_same : (whole : Bool) (d : Dialect) (i : ℕ) (text : List ℕ) (len : ℕ) (fields : Option (List (List ℕ))) → IsLawful d
      → (s : Seen whole d i text len fields)
      → (row : Row) (after : List ℕ) → text ≡ row.text ++ after → IsRow d i row after → EndsRow true d after → row.text ≡ take len text
  seen_same whole d i text len fields w s row after e r h =
      let same = laws.rows.row_unique true d i row s.row after s.rest w (sym e ∙ s.spelled) r h s.is_row (as_true whole d s.rest s.ends) in
      ap (λ (x : Row). x.text) same.row ∙ s.text_is

-- a row that is too long
module _ (laws : RecordLaws) (whole : Bool) (d : Dialect) (max i : ℕ) (text : List ℕ) (len : ℕ) (w : IsLawful d) (few : i < max) (some : text ≢ [])
    (long : row_limit < byte_len (take len text)) where
  InText : Type 0
  InText = (f : FirstEnd d max i text (length text)) × IsNamed d max i (take f.at text) false RowTooLong

  long_text : NoRow d max i text → ((k : ℕ) (stop : RowStop) → k ≤ length text → Breaks d i (take k text) stop → row_limit < byte_len (take k text))
      → Ends d max i (take (length text) text) → InText
  unfolding InText
  long_text none breaks e =
      let f = laws.stops.first_end d max i text (length text) w none e in
      (f, elim (end_named laws d max i text f.at w few none f.ends) [ inl h ↦ h | inr b ↦ breaks f.at b.0 (let h = f.within in omega (arith, h)) b.1 ])

  pub found_stops : (fields : Option (List (List ℕ))) → Seen whole d i text len fields → IsFound whole d i text len fields
      → StopsHere whole d max i text RowTooLong
  unfolding InText
  found_stops fields s f = record { some = some; no_row = none; no_last = λ t. last; stands = by_end (whole_goes laws d max i text w none) }
    where
      none : NoRow d max i text
      none few row after e r h short = omega (arith, long, short, ap byte_len (seen_same laws whole d i text len fields w s row after e r (inl h)))

      last : NoLast d max i text
      last few row e r short = omega
          (arith, long, short, ap byte_len (seen_same laws whole d i text len fields w s row [] (e ∙ sym (append-nil row.text)) r (inr (refl, refl))))

      breaks : (k : ℕ) (stop : RowStop) → k ≤ length text → Breaks d i (take k text) stop → row_limit < byte_len (take k text)
      breaks k stop h b = let z = sym (laws.rows.breaks_next whole d i text k stop b) ∙ f.found in absurd cc

      by_rest : Goes d max i text → EndsRow whole d s.rest → (whole ≡ true) × (row_limit < byte_len text)
      by_rest g (inl h) = absurd (complete g)
        where
          complete : Goes d max i text → ⊥
          complete (inl e) = some e
          complete (inr (few, t)) =
              let same = laws.rows.row_unique false d i s.row t.row (s.rest ++ t.more) (terminator_of d) w
              (sym (append_assoc s.row.text s.rest t.more) ∙ ap (λ l. l ++ t.more) (sym s.spelled) ∙ t.spelled)
              (laws.rows.row_stays d i s.row s.rest t.more s.is_row h) (inl (let k = h in omega
              (arith, k, laws.terminators.term_stays d s.rest t.more h))) t.is_row
              (inl (laws.terminators.term_some d w)) in
              let whole_row : take (length text) t.row.text ≡ t.row.text =
              take_all (length text) t.row.text
              (omega (arith, ap length s.spelled, length-append s.row.text s.rest, ap (λ (x : Row). length x.text) same.row)) in
              let short = t.short in
              omega (arith, long, short, ap byte_len whole_row, ap (λ (x : Row). byte_len x.text) same.row, ap byte_len s.text_is)
      by_rest g (inr (t, e)) = (
        t,
        (let z : row_limit < byte_len text =
            omega (arith, long, ap byte_len (sym s.text_is), ap byte_len (s.spelled ∙ ap (λ l. s.row.text ++ l) e ∙ append-nil s.row.text)) in z),
      )

      by_end : Goes d max i text ⊎ Ends d max i (take (length text) text) → InText ⊎ ((whole ≡ true) × Goes d max i text × IsNamed d max i text true RowTooLong)
      by_end (inl g) = let r = by_rest g s.ends in inr (r.0, g, r.1)
      by_end (inr e) = inl (long_text none breaks e)

  pub open_stops : whole ≡ false → Continues d i text len → StopsHere whole d max i text RowTooLong
  unfolding InText
  open_stops o c = record { some = some; no_row = none; no_last = λ t. absurd cc; stands = by_end (whole_goes laws d max i text w none) }
    where
      none : NoRow d max i text
      none = none_complete laws d max i text w c.incomplete

      breaks : (k : ℕ) (stop : RowStop) → k ≤ length text → Breaks d i (take k text) stop → row_limit < byte_len (take k text)
      breaks k stop h b = absurd (laws.rows.breaks_none d i (take k text) stop w b c.row (drop k text ++ c.more) (terminator_of d)
          (sym (append_assoc (take k text) (drop k text) c.more) ∙ ap (λ l. l ++ c.more) (take-append-drop k text) ∙ c.spelled) c.is_row
          (laws.terminators.term_some d w))

      too_long : Goes d max i text → ⊥
      too_long (inl e) = some e
      too_long (inr (few, f)) =
          let sure = c.sure f.row f.more (terminator_of d) f.spelled f.is_row (laws.terminators.term_some d w) in
          let within = c.within in
          let short = f.short in
          let k = laws.texts.byte_len_less len (length text) f.row.text within in
          omega (arith, long, short, k, ap byte_len (same_front text f.more f.row.text (terminator_of d) len f.spelled within sure))

      by_end : Goes d max i text ⊎ Ends d max i (take (length text) text) → InText ⊎ ((whole ≡ true) × Goes d max i text × IsNamed d max i text true RowTooLong)
      by_end (inl g) = absurd (too_long g)
      by_end (inr e) = inl (long_text none breaks e)

  pub wrong_long : (stop : RowStop) → IsWrong whole d i text len stop → StopsHere whole d max i text RowTooLong
  unfolding InText
  wrong_long stop g = record {
    some = some;
    no_row = none;
    no_last =
        λ t. none_last laws d max i text w (ap (λ b. next_row b d i text) (sym t) ∙ g.no_row.0);
    stands = by_end (whole_goes laws d max i text w none);
  }
    where
      none : NoRow d max i text
      none = none_complete laws d max i text w g.no_row.1

      breaks : (k : ℕ) (stop : RowStop) → k ≤ length text → Breaks d i (take k text) stop → row_limit < byte_len (take k text)
      breaks k stop h b = let l = (g.first k stop h b).0 in let n = laws.texts.byte_len_less len k text l in omega (arith, n, long)

      by_stands : Goes d max i text → Breaks d i (take len text) stop ⊎ ((whole ≡ true) × (len ≡ length text)) → (whole ≡ true) × (row_limit < byte_len text)
      by_stands (inl e) b = absurd (some e)
      by_stands (inr (few, f)) (inl b) = absurd (laws.rows.breaks_none d i (take len text) stop w b f.row (drop len text ++ f.more) (terminator_of d)
          (sym (append_assoc (take len text) (drop len text) f.more) ∙ ap (λ l. l ++ f.more) (take-append-drop len text) ∙ f.spelled) f.is_row
          (laws.terminators.term_some d w))
      by_stands g (inr (t, e)) = (t, (let z : row_limit < byte_len text = omega (arith, long, ap byte_len (take_all len text (omega (arith, e)))) in z))

      by_end : Goes d max i text ⊎ Ends d max i (take (length text) text) → InText ⊎ ((whole ≡ true) × Goes d max i text × IsNamed d max i text true RowTooLong)
      by_end (inl goes) = let r = by_stands goes g.stands in inr (r.0, goes, r.1)
      by_end (inr e) = inl (long_text none breaks e)

module _ (laws : RecordLaws) where
  -- a row that is taken
  pub found_takes : (whole : Bool) (d : Dialect) (max i : ℕ) (text behind : List ℕ) (len t : ℕ) (fields : Option (List (List ℕ))) → IsLawful d → i < max
      → text ≢ [] → IsFound whole d i text len fields
      → byte_len (take len text) ≤ row_limit → behind ≡ drop len text → t ≡ terminator_len d behind → t ≤ length behind
      → TakesRow whole d max i text (length (take len text) + t) fields
  found_takes whole d max i text behind len t fields w few some f short eb et within = by_ends s.ends
    where
      s : Seen whole d i text len fields
      s = seen_of laws whole d i text len fields w f

      count : length (take len text) ≡ len
      count = let h = f.within in
          omega (arith, h, ap length s.text_is, ap length s.spelled, length-append s.row.text s.rest, ap length s.rest_is, length-drop len text)

      tl : t ≡ terminator_len d s.rest
      tl = et ∙ ap (terminator_len d) (eb ∙ sym s.rest_is)

      inside : length (take len text) + t ≤ length text
      inside = let h = f.within in omega (arith, count, within, h, ap length eb, length-drop len text)

      passed : drop (length (take len text) + t) text ≡ drop (terminator_len d s.rest) s.rest
      passed = ap (λ n. drop (n + t) text) count ∙ sym (drop-drop t len text) ∙ ap (drop t) (sym s.rest_is) ∙ ap (λ n. drop n s.rest) tl

      row_short : byte_len s.row.text ≤ row_limit
      row_short = omega (arith, short, ap byte_len s.text_is)

      by_ends : EndsRow whole d s.rest → TakesRow whole d max i text (length (take len text) + t) fields
      by_ends (inl h) = record {
        some = omega (arith, h, tl);
        within = inside;
        few = few;
        row = s.row;
        fields_are = s.fields_are;
        short = row_short;
        stands = inl (s.rest, s.spelled, s.is_row, h, passed);
      }
      by_ends (inr (o, e)) = record {
        some = long_enough;
        within = inside;
        few = few;
        row = s.row;
        fields_are = s.fields_are;
        short = row_short;
        stands = inr (o, all, subst (IsRow d i s.row) e s.is_row, passed ∙ ap (λ l. drop (terminator_len d l) l) e ∙ drop_none (terminator_len d []), goes);
      }
        where
          all : text ≡ s.row.text
          all = s.spelled ∙ ap (λ l. s.row.text ++ l) e ∙ append-nil s.row.text

          drop_none : (n : ℕ) → drop n (let e : List ℕ = [] in e) ≡ []
          drop_none zero = refl
          drop_none (suc n) = refl

          length_some : (l : List ℕ) → l ≢ [] → 0 < length l
          length_some [] n = absurd (n refl)
          length_some (x ∷ xs) n = omega arith

          long_enough : 0 < length (take len text) + t
          long_enough = let k = length_some text some in omega (arith, k, ap length all, ap length s.text_is)

          goes : Goes d max i text
          goes = subst (Goes d max i) (sym all) (laws.stops.last_goes d max i s.row w few (subst (IsRow d i s.row) e s.is_row) row_short)

  pub open_waits : (d : Dialect) (max i : ℕ) (text : List ℕ) (len : ℕ) → IsLawful d → i < max → Continues d i text len
      → byte_len (take len text) ≤ row_limit → Goes d max i text × NoRow d max i text
  open_waits d max i text len w few c short = (
    inr (few, record { row = c.row; more = c.more; spelled = c.spelled; is_row = c.is_row; short = omega (arith, short, ap byte_len c.fits) }),
    none_complete laws d max i text w c.incomplete,
  )

  pub nothing_complete : (d : Dialect) (max i : ℕ) (text : List ℕ) → text ≡ [] → NoRow d max i text
  nothing_complete d max i text e few row after spelled r h short =
      laws.terminators.nothing_ends d (let P : List ℕ → Type 0 = λ x. 0 < terminator_len d x in subst P (back row.text after (sym e ∙ spelled)) h)
    where
      back : (a b : List ℕ) → [] ≡ a ++ b → b ≡ []
      back [] b e = sym e
      back (c ∷ cs) b e = absurd cc

stop_gives : (after : After) (d : Dialect) (max i : ℕ) (text : List ℕ) (stop : RowStop) → ((stop ≡ NotUtf8) → ⊥)
    → StopsHere (is_last after) d max i text stop → StopGives after d max i text stop
stop_gives after d max i text Memory n s = tt
stop_gives after d max i text NotUtf8 n s = absurd (n refl)
stop_gives after d max i text other n s = s

never_bytes : (d : Dialect) (i : ℕ) (text : List ℕ) (b : Bool) (stop : RowStop) → IsBroken d i text b stop → stop ≡ NotUtf8 → ⊥
never_bytes d i text b stop k e = subst (IsBroken d i text b) e k

module _ (laws : RecordLaws) where
  pub wrong_gives : (after : After) (d : Dialect) (max i : ℕ) (text : List ℕ) (len : ℕ) (stop : RowStop) → IsLawful d → i < max → text ≢ []
      → IsWrong (is_last after) d i text len stop
      → byte_len (take len text) ≤ row_limit → StopGives after d max i text stop
  wrong_gives after d max i text len stop w few some g short =
      stop_gives after d max i text stop (by_stands g.stands) (wrong_stops laws (is_last after) d max i text len stop w few some g short)
    where
      by_stands : Breaks d i (take len text) stop ⊎ ((is_last after ≡ true) × (len ≡ length text)) → stop ≡ NotUtf8 → ⊥
      by_stands (inl b) = never_bytes d i (take len text) false stop (breaks_named laws d i (take len text) stop b)
      by_stands (inr (t, e)) = never_bytes d i text true stop (g.is_broken t)

pub empty_of : (l : List ℕ) → (length l == 0) ≡ true → l ≡ []
empty_of [] e = refl
empty_of (x ∷ xs) e = absurd (let z : length (x ∷ xs) ≡ 0 = grind (arith, nat_tests) in omega (arith, z))

pub some_of : (l : List ℕ) → (length l == 0) ≡ false → l ≢ []
some_of l e h = let z : (0 == 0) ≡ false = ap (λ (x : List ℕ). length x == 0) (sym h) ∙ e in absurd cc

pub not_nothing : (after : After) (text : List ℕ) → is_last after ≡ false → after ≡ Nothing → text ≡ []
not_nothing More text e h = absurd cc
not_nothing Nothing text e h = absurd cc
not_nothing NoText text e h = absurd cc
