-- Texts that begin a file have no stop.
use Rattle.std.proofs.Common.{◌≡◌, ℕ, ◌<◌, ◌≤◌, Bool, true, false, List, [], ◌++◌, length, take, drop, Option, Some, None, refl, sym, ap, ◌∙◌, subst}
use Rattle.std.proofs.Common.{arith, append-nil, ◌⊎◌, inl, inr, IsTrue}
use Rattle.std.specs.Prelude.{is_some, IsSome}
use Rattle.std.specs.Str.Lossy.{utf8_valid_len, utf8_error_len}
use Rattle.std.proofs.lemmas.Grind.{common_steps}
use Rattle.std.proofs.lemmas.List.{take-append-drop}
use Rattle.csvw_records.specs.declared.dialect.Dialect.{Dialect}
use Rattle.csvw_records.specs.Lawful.{IsLawful}
use Rattle.csvw_records.specs.declared.stop.RowStop.{RowStop}
use Rattle.csvw_records.specs.declared.scan.State.TheVariants.{Start}
use Rattle.csvw_records.specs.Grammar.{terminator_len}
use Rattle.csvw_records.specs.Lengths.{byte_len, row_limit}
use Rattle.csvw_records.specs.Files.{Row, IsRow, AreRows, KeepsLimits, IsWhole, content, is_text, is_ignored}
use Rattle.csvw_records.specs.Scan.{run, finish}
use Rattle.csvw_records.specs.NextRow.{unsettled, next_row, found_row}
use Rattle.csvw_records.specs.PartOfRow.{Breaks, Goes}
use Rattle.csvw_records.specs.Stops.{Begins, StopOf, StopsInText, StopsInBytes, StopsAtEnd}
use Rattle.csvw_records.proofs.Complete.{nothing_ends}
use Rattle.csvw_records.proofs.Continue.{fields_next}
use Rattle.csvw_records.specs.PassLaws.{goes_on}
use Rattle.csvw_records.proofs.Lookahead.{rows_again}
use Rattle.csvw_records.proofs.IgnoredRows.{never_ignored}
use Rattle.csvw_records.proofs.RowLaws.{row_complete, row_unique}
use Rattle.csvw_records.proofs.Sees.{sees, run_on}
use Rattle.csvw_records.specs.RowLaws.{Sees}
use Rattle.csvw_records.proofs.Stands.{goes_begins, begins_front}
use Rattle.csvw_records.proofs.Texts.{byte_len_take}

-- the content begins a file where what is left goes on
pub goes_on_begins : (d : Dialect) (max : ℕ) (text : List ℕ) (rows : List Row) (rest : List ℕ) → IsLawful d → AreRows d 0 text rows rest
    → KeepsLimits max rows → Goes d max (length rows) rest → Begins d max text
goes_on_begins d max text rows rest w are k g =
    let a = rows_again d 0 text rows rest are in
    subst (Begins d max) (sym a.spelled) (goes_begins d max text rows rest rest w a k g)

not_some : (o : Option ℕ) → is_some o ≡ false → IsSome o → ⊥
not_some None e s = absurd cc
not_some (Some x) e s = cc

pub no_stop : (d : Dialect) (max : ℕ) (bytes : List ℕ) (ended : Bool) → Begins d max (content bytes)
    → (is_text bytes ≡ false → (ended ≡ false) × (is_some (utf8_error_len (drop (utf8_valid_len bytes) bytes)) ≡ false))
    → (ended ≡ true → IsWhole d max bytes) → (stop : RowStop) (row : ℕ) → StopOf d max bytes ended stop row → ⊥
no_stop d max bytes ended b text file stop row s = by_place s.stands
  where
    by_place : StopsInText d max bytes s.front stop ⊎ (StopsInBytes d max bytes ended stop ⊎ StopsAtEnd d max bytes ended s.front stop) → ⊥
    by_place (inl t) = t.stops.none (begins_front d max (content bytes) t.n b)
    by_place (inr (inl t)) = by_bad t.is_bad
      where
        by_bad : IsTrue ended ⊎ IsSome (utf8_error_len (drop (utf8_valid_len bytes) bytes)) → ⊥
        by_bad (inl e) = let z = sym e ∙ (text t.no_text).0 in absurd cc
        by_bad (inr e) = not_some (utf8_error_len (drop (utf8_valid_len bytes) bytes)) (text t.no_text).1 e
    by_place (inr (inr t)) = t.no_file (file t.is_ended).0 (file t.is_ended).1

pub take_all : (n : ℕ) (l : List ℕ) → length l ≤ n → take n l ≡ l
take_all n l h = grind (arith, common_steps)

-- a rule that is broken in a front leaves no row in the text
pub breaks_next : (f : Bool) (d : Dialect) (i : ℕ) (text : List ℕ) (k : ℕ) (stop : RowStop) → Breaks d i (take k text) stop → next_row f d i text ≡ None
breaks_next f d i text k stop b =
    let not_ignored = ap (is_ignored d i) (sym (take-append-drop k text)) ∙ never_ignored d i (take k text) (drop k text) b.not_ignored b.may_not in
    let passed = ap (run d Start [] []) (sym (take-append-drop k text)) ∙ run_on d (take k text) (drop k text)
    ∙ ap (λ o. goes_on d o (unsettled d (take k text) ++ drop k text)) b.broken in
    fields_next f d i text not_ignored ∙ ap (λ o. found_row d (finish o f)) passed

-- a last row that isn't too long goes on to one with its terminator
pub last_goes : (d : Dialect) (max i : ℕ) (row : Row) → IsLawful d → i < max → IsRow d i row [] → byte_len row.text ≤ row_limit → Goes d max i row.text
last_goes d max i row w few is_row fits = by_seen (sees d i row.text w)
  where
    found : next_row true d i row.text ≡ Some (row.fields, [])
    found = ap (next_row true d i) (sym (append-nil row.text)) ∙ row_complete true d i row [] w is_row (inr (refl, refl))

    by_seen : Sees d i row.text → Goes d max i row.text
    by_seen (inl r) =
        let same = row_unique true d i r.row row r.after [] w (sym r.spelled ∙ sym (append-nil row.text)) r.is_row (inl r.ends) is_row (inr (refl, refl)) in
        absurd (nothing_ends d (let P : List ℕ → Type 0 = λ x. 0 < terminator_len d x in subst P same.rest r.ends))
    by_seen (inr (inl (n, c))) =
        let k = byte_len_take n row.text in
        inr (few, record { row = c.row; more = c.more; spelled = c.spelled; is_row = c.is_row; short = omega (arith, k, fits, ap byte_len c.fits) })
    by_seen (inr (inr (stop, b))) =
        let whole = take_all (length row.text) row.text (omega arith) in
        let z = sym (breaks_next true d i row.text (length row.text) stop (subst (λ l. Breaks d i l stop) (sym whole) b)) ∙ found in cc
