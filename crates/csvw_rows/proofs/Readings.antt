-- A reader's next step, and all bytes so far.
use Rattle.std.proofs.Common.{◌≡◌, ℕ, ◌+◌, ◌<◌, ◌≤◌, Bool, true, false, List, [], ◌∷◌, ◌++◌, length, take, drop, Option, Some, None, refl, sym, ap}
use Rattle.std.proofs.Common.{◌∙◌, subst, arith, length-append, ◌⊎◌, inl, inr, zero-add}
use Rattle.std.specs.Prelude.{is_some, IsSome}
use Rattle.std.specs.Str.Lossy.{utf8_valid_len, utf8_error_len}
use Rattle.std.proofs.lemmas.List.Elements.{All-push}
use Rattle.csvw_records.specs.declared.dialect.Dialect.{Dialect}
use Rattle.csvw_records.specs.declared.stop.RowStop.{RowStop}
use Rattle.csvw_records.specs.declared.stop.RowStop.TheVariants.{NotUtf8}
use Rattle.csvw_records.specs.Grammar.{terminator_len}
use Rattle.csvw_records.specs.Lawful.{IsLawful}
use Rattle.csvw_records.specs.Files.{Row, IsRow, AreRows, AreAllRows, EndsOpen, KeepsLimits, File, IsWhole, Front, content, is_text}
use Rattle.csvw_records.specs.PartOfRow.{Goes, NoRow, FirstEnd}
use Rattle.csvw_records.specs.Stops.{Begins, StopOf, StopsInText, StopsInBytes, StopsAtEnd, IsNamed}
use Rattle.csvw_rows.specs.NextRows.{TakesRow, StandsThere, StopsHere}
use Rattle.csvw_rows.specs.RowsState.{HasRead}
use Rattle.csvw_rows.proofs.ByteLens.{IsShort}
use Rattle.csvw_records.specs.RowLaws.{Again}
use Rattle.csvw_records.specs.RecordLaws.{RecordLaws}

-- a row at the end of rows
rows_snoc : (d : Dialect) (i : ℕ) (text : List ℕ) (xs : List Row) (rest after : List ℕ) (row : Row) → AreRows d i text xs rest → rest ≡ row.text ++ after
    → IsRow d (i + length xs) row after → 0 < terminator_len d after → AreRows d i text (xs ++ row ∷ []) (drop (terminator_len d after) after)
rows_snoc d i text [] rest after row r e is_row ends = (
  after,
  r ∙ e,
  subst (λ (n : ℕ). IsRow d n row after) (let z : i + length (let e : List Row = [] in e) ≡ i = omega arith in z) is_row,
  ends,
  refl,
)
rows_snoc d i text (x ∷ xs) rest after row (later, e', r, h, rows) e is_row ends =
    let place : i + length (x ∷ xs) ≡ i + 1 + length xs = omega arith in (
      later,
      e',
      r,
      h,
      rows_snoc d (i + 1) (drop (terminator_len d later) later) xs rest after row rows e
          (subst (λ (n : ℕ). IsRow d n row after) place is_row) ends,
    )

module _ (laws : RecordLaws) where
  -- one row more
  pub takes_reads : (d : Dialect) (max : ℕ) (bytes : List ℕ) (ended whole : Bool) (rest : List ℕ) (rows : List Row) (len i : ℕ)
      (fields : Option (List (List ℕ))) → IsLawful d
      → (whole ≡ true → (ended ≡ true) × (is_text bytes ≡ true)) → HasRead d max bytes ended rest rows → i ≡ length rows
      → (t : TakesRow whole d max i rest len fields)
      → HasRead d max bytes ended (drop len rest) (rows ++ t.row ∷ [])
  takes_reads d max bytes ended whole rest rows len i fields w known h place t = record { limits = limits; reached = by_reached h.reached }
    where
      limits : KeepsLimits max (rows ++ t.row ∷ [])
      limits = (
        let few = t.few in let c : length (rows ++ t.row ∷ []) ≤ max = omega (arith, few, place, length-append rows (t.row ∷ [])) in c,
        All-push IsShort rows t.row h.limits.1 t.short,
      )

      by_stands : AreRows d 0 (content bytes) rows rest → StandsThere whole d max i rest len t.row
          → AreRows d 0 (content bytes) (rows ++ t.row ∷ []) (drop len rest) ⊎
          ((ended ≡ true) × (is_text bytes ≡ true) × EndsOpen d (content bytes) (rows ++ t.row ∷ []) × (drop len rest ≡ []) × Begins d max (content bytes))
      by_stands are (inl (after, e, r, k, behind)) =
          inl (subst (AreRows d 0 (content bytes) (rows ++ t.row ∷ [])) (sym behind)
          (rows_snoc d 0 (content bytes) rows rest after t.row are e (subst (λ (n : ℕ). IsRow d n t.row after) (place ∙ sym (zero-add (length rows))) r) k))
      by_stands are (inr (o, e, r, behind, g)) =
          let some = t.some in
          let within = t.within in
          inr (
            (known o).0,
            (known o).1,
            record {
              front = rows;
              last = t.row;
              all = refl;
              before = subst (AreRows d 0 (content bytes) rows) e are;
              is_row = subst (λ (n : ℕ). IsRow d n t.row []) place r;
              not_empty = λ z. omega (arith, some, within, ap length (e ∙ z));
            },
            behind,
            laws.stops.goes_on_begins d max (content bytes) rows rest w are h.limits (subst (λ (n : ℕ). Goes d max n rest) place g),
          )

      by_reached : AreRows d 0 (content bytes) rows rest ⊎
          ((ended ≡ true) × (is_text bytes ≡ true) × EndsOpen d (content bytes) rows × (rest ≡ []) × Begins d max (content bytes))
          → AreRows d 0 (content bytes) (rows ++ t.row ∷ []) (drop len rest) ⊎
          ((ended ≡ true) × (is_text bytes ≡ true) × EndsOpen d (content bytes) (rows ++ t.row ∷ []) × (drop len rest ≡ []) × Begins d max (content bytes))
      by_reached (inl are) = by_stands are t.stands
      by_reached (inr (a, b, o, e, g)) = absurd (let some = t.some in let within = t.within in omega (arith, some, within, ap length e))

-- nothing is left, or no row is complete
pub record Done (d : Dialect) (max : ℕ) (bytes : List ℕ) (ended : Bool) (rows : List Row) : Type 0 where
  pub is_front : Front d max bytes ended rows
  pub none : (stop : RowStop) (row : ℕ) → StopOf d max bytes ended stop row → ⊥
  pub whole : ended ≡ true → IsWhole d max bytes

module _ (laws : RecordLaws) where
  pub waits_done : (d : Dialect) (max : ℕ) (bytes : List ℕ) (ended : Bool) (rest : List ℕ) (rows : List Row) → IsLawful d → HasRead d max bytes ended rest rows
      → Goes d max (length rows) rest → NoRow d max (length rows) rest → (ended ≡ true → (is_text bytes ≡ true) × (rest ≡ []))
      → (is_text bytes ≡ false → (ended ≡ false) × (is_some (utf8_error_len (drop (utf8_valid_len bytes) bytes)) ≡ false)) → Done d max bytes ended rows
  waits_done d max bytes ended rest rows w h g none at_end text = by_reached h.reached
    where
      file_of : ended ≡ true → AreAllRows d (content bytes) rows → File d max bytes rows
      file_of e all = record { is_utf8 = (at_end e).0; are_rows = all; limits = h.limits }

      whole_of : AreRows d 0 (content bytes) rows rest → ended ≡ true → IsWhole d max bytes
      whole_of are e = (rows, file_of e (inl (subst (AreRows d 0 (content bytes) rows) (at_end e).1 are)))

      by_ended : (b : Bool) → ended ≡ b → AreRows d 0 (content bytes) rows rest → Front d max bytes ended rows
      by_ended true e are = inl (e, file_of e (inl (subst (AreRows d 0 (content bytes) rows) (at_end e).1 are)))
      by_ended false e are = inr ((λ t others f. let z = sym t ∙ e in absurd cc), laws.stops.are_longest d max (content bytes) rows rest w are h.limits none)

      by_reached : AreRows d 0 (content bytes) rows rest ⊎ ((ended ≡ true) × (is_text bytes ≡ true) × EndsOpen d (content bytes) rows × (rest ≡ [])
          × Begins d max (content bytes)) → Done d max bytes ended rows
      by_reached (inl are) = record {
        is_front = by_ended ended refl are;
        none = laws.stops.no_stop d max bytes ended (laws.stops.goes_on_begins d max (content bytes) rows rest w are h.limits g) text (whole_of are);
        whole = whole_of are;
      }
      by_reached (inr (a, b, o, e, k)) = let whole : ended ≡ true → IsWhole d max bytes = λ e. (rows, file_of e (inr o)) in
          record { is_front = inl (a, file_of a (inr o)); none = laws.stops.no_stop d max bytes ended k text whole; whole = whole }

-- a stop
pub record Stopped (d : Dialect) (max : ℕ) (bytes : List ℕ) (ended : Bool) (rows : List Row) (stop : RowStop) : Type 0 where
  pub is_front : Front d max bytes ended rows
  pub stands : StopOf d max bytes ended stop (length rows + 1)

module _ (laws : RecordLaws) where
  pub here_stopped : (d : Dialect) (max : ℕ) (bytes : List ℕ) (ended whole : Bool) (rest : List ℕ) (rows : List Row) (stop : RowStop) → IsLawful d
      → (whole ≡ true → (ended ≡ true) × (is_text bytes ≡ true)) → (ended ≡ true → is_text bytes ≡ true → whole ≡ true) → HasRead d max bytes ended rest rows
      → StopsHere whole d max (length rows) rest stop → Stopped d max bytes ended rows stop
  here_stopped d max bytes ended whole rest rows stop w known back h s = by_reached h.reached
    where
      by_are : AreRows d 0 (content bytes) rows rest → Stopped d max bytes ended rows stop
      by_are are = record { is_front = is_front; stands = record { front = rows; is_front = is_front; number = refl; stands = by_stands s.stands } }
        where
          again : Again d 0 (content bytes) rows rest
          again = laws.rows.rows_again d 0 (content bytes) rows rest are

          no_file : ended ≡ true → (others : List Row) → File d max bytes others → ⊥
          no_file e others f = laws.stops.not_all d max (content bytes) rows rest w are h.limits s.no_row
              (s.no_last (back e f.is_utf8)) s.some others f.are_rows f.limits

          is_front : Front d max bytes ended rows
          is_front = inr (no_file, laws.stops.are_longest d max (content bytes) rows rest w are h.limits s.no_row)

          by_stands : ((f : FirstEnd d max (length rows) rest (length rest)) × IsNamed d max (length rows) (take f.at rest) false stop) ⊎
              ((whole ≡ true) × Goes d max (length rows) rest × IsNamed d max (length rows) rest true stop)
              → StopsInText d max bytes rows stop ⊎ (StopsInBytes d max bytes ended stop ⊎ StopsAtEnd d max bytes ended rows stop)
          by_stands (inl (f, name)) = inl (record {
            n = length again.front + f.at;
            part = take f.at rest;
            stops = laws.stops.stops_at d max (content bytes) rows rest (length rest) w again h.limits f (omega arith);
            behind = laws.stops.rows_before d (content bytes) rows rest f.at again;
            is_named = name;
          })
          by_stands (inr (o, g, name)) = inr (inr (record {
            part = rest;
            is_ended = (known o).0;
            begins = laws.stops.goes_on_begins d max (content bytes) rows rest w are h.limits g;
            is_utf8 = (known o).1;
            no_file = no_file (known o).0;
            behind = are;
            is_named = name;
          }))

      by_reached : AreRows d 0 (content bytes) rows rest ⊎ ((ended ≡ true) × (is_text bytes ≡ true) × EndsOpen d (content bytes) rows × (rest ≡ [])
          × Begins d max (content bytes)) → Stopped d max bytes ended rows stop
      by_reached (inl are) = by_are are
      by_reached (inr (a, b, o, e, k)) = absurd (s.some e)

  pub bytes_stopped : (d : Dialect) (max : ℕ) (bytes : List ℕ) (ended : Bool) (rest : List ℕ) (rows : List Row) → IsLawful d
      → HasRead d max bytes ended rest rows
      → Goes d max (length rows) rest → NoRow d max (length rows) rest → is_text bytes ≡ false
      → (ended ≡ true) ⊎ (is_some (utf8_error_len (drop (utf8_valid_len bytes) bytes)) ≡ true) → Stopped d max bytes ended rows NotUtf8
  bytes_stopped d max bytes ended rest rows w h g none text bad = by_reached h.reached
    where
      some_of : (o : Option ℕ) → is_some o ≡ true → IsSome o
      some_of None e = absurd cc
      some_of (Some x) e = refl

      by_are : AreRows d 0 (content bytes) rows rest → Stopped d max bytes ended rows NotUtf8
      by_are are = record {
        is_front = is_front;
        stands = record {
          front = rows;
          is_front = is_front;
          number = refl;
          stands = inr (inl (record {
            begins = laws.stops.goes_on_begins d max (content bytes) rows rest w are h.limits g;
            no_text = text;
            is_bad = elim bad [ inl e ↦ inl e | inr e ↦ inr (some_of (utf8_error_len (drop (utf8_valid_len bytes) bytes)) e) ];
            is_name = refl;
          }));
        };
      }
        where
          is_front : Front d max bytes ended rows
          is_front = inr ((λ t others f. let z = sym f.is_utf8 ∙ text in absurd cc), laws.stops.are_longest d max (content bytes) rows rest w are h.limits none)

      by_reached : AreRows d 0 (content bytes) rows rest ⊎ ((ended ≡ true) × (is_text bytes ≡ true) × EndsOpen d (content bytes) rows × (rest ≡ [])
          × Begins d max (content bytes)) → Stopped d max bytes ended rows NotUtf8
      by_reached (inl are) = by_are are
      by_reached (inr (a, b, o, e, k)) = let z = sym b ∙ text in absurd cc
