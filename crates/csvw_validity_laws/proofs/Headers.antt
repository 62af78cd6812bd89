-- Headers without a fault.
use Rattle.std.proofs.Common.{◌≡◌, ◌≤◌, ◌<◌, ◌+◌, ◌==◌, ℕ, zero, suc, Bool, true, false, List, [], ◌∷◌, ◌++◌, refl, sym, ap, ◌∙◌, subst, arith, All, length}
use Rattle.std.proofs.Common.{if◌then◌else◌, nat_lt, ⊎_elim}
use Rattle.std.proofs.lemmas.Bool.{eqb-true, false≢true, true≢false}
use Rattle.std.proofs.lemmas.Bool.Decides.{leb_tells, eqb_tells}
use Rattle.std.proofs.lemmas.List.Elements.{All-cons, All-head, All-nil, All-tail}
use Rattle.csvw_fault.specs.declared.fault.Code.TheVariants.{HeaderMissing, HeaderCount, HeaderMismatch}
use Rattle.csvw_fault.specs.declared.fault.Fault.{Fault}
use Rattle.csvw_columns_core.specs.Columns.{field_count}
use Rattle.csvw_columns_core.specs.HeaderFits.{count_faults, error_at, fits, header_faults, last_source, mismatches, mismatches_from}
use Rattle.csvw_columns_core.specs.declared.column.Column.{Column}
use Rattle.csvw_columns_core.specs.declared.header.HeaderRow.{HeaderRow}
use Rattle.csvw_validity_laws.specs.Validity.{EachFits, FitsHeader, HasHeader}
use Rattle.csvw_validity_laws.proofs.Quiet.{Quiet, quiet_join, quiet_parts}

module _ (table : ℕ) where
  module _ (count : ℕ) where
    abbrev IsWide : HeaderRow → Type 0
    IsWide row = length row.cells ≡ count

    abbrev told : HeaderRow → Bool → List Fault
    told row b = if b then [] else error_at table row.source 0 HeaderCount ∷ []

    wide_by : (row : HeaderRow) (b : Bool) → (length row.cells == count) ≡ b → Quiet (told row b) → IsWide row
    wide_by row true e q = eqb-true (length row.cells) count e
    wide_by row false e q = absurd (false≢true q)

    none_told : (row : HeaderRow) → IsWide row → (length row.cells == count) ≡ true
    none_told row wide = ⊎_elim (λ yes. yes.0) (λ no. absurd (no.1 wide)) (eqb_tells (length row.cells) count)

    all_wide : (rows : List HeaderRow) → Quiet (count_faults table count rows) → All IsWide rows
    all_wide [] q = All-nil IsWide
    all_wide (row ∷ rows) q =
        let both = quiet_parts (told row (length row.cells == count)) (count_faults table count rows) q in
        All-cons IsWide row rows (wide_by row _ refl both.0) (all_wide rows both.1)

    no_faults : (rows : List HeaderRow) → All IsWide rows → count_faults table count rows ≡ []
    no_faults [] all = refl
    no_faults (row ∷ rows) all =
        ap (λ b. told row b ++ count_faults table count rows) (none_told row (All-head IsWide row rows all))
        ∙ no_faults rows (All-tail IsWide row rows all)

  module _ (source : ℕ) (rows : List HeaderRow) where
    abbrev mismatch : Column → Bool → List Fault
    mismatch c b = if b then [] else error_at table source c.number HeaderMismatch ∷ []

    fits_by : (c : Column) (b : Bool) → Quiet (mismatch c b) → b ≡ true
    fits_by c true q = refl
    fits_by c false q = absurd (false≢true q)

    each_fits : (i : ℕ) (columns : List Column) → Quiet (mismatches_from table source rows i columns) → EachFits rows i columns
    each_fits i [] q = tt
    each_fits i (c ∷ cs) q =
        let both = quiet_parts (mismatch c (fits c rows i)) (mismatches_from table source rows (i + 1) cs) q in
        (fits_by c (fits c rows i) both.0, each_fits (i + 1) cs both.1)

    none_mismatch : (i : ℕ) (columns : List Column) → EachFits rows i columns → Quiet (mismatches_from table source rows i columns)
    none_mismatch i [] each = refl
    none_mismatch i (c ∷ cs) each =
        quiet_join (mismatch c (fits c rows i)) (mismatches_from table source rows (i + 1) cs)
        (subst (λ b. Quiet (mismatch c b)) (sym each.0) refl) (none_mismatch (i + 1) cs each.1)

  counts_quiet : (rows : List HeaderRow) (columns : List Column) (faults : List Fault) → Quiet (mismatches table rows columns faults) → Quiet faults
  counts_quiet rows columns [] q = refl
  counts_quiet rows columns (f ∷ fs) q = q

  module _ (columns : List Column) (rows : List HeaderRow) where
    abbrev counted : List Fault
    counted = count_faults table (field_count columns) rows

    fit_of : All (IsWide (field_count columns)) rows → Quiet (mismatches table rows columns counted) → EachFits rows 0 columns
    fit_of wide q =
        each_fits (last_source rows) rows 0 columns
        (subst (λ faults. Quiet (mismatches table rows columns faults)) (no_faults (field_count columns) rows wide) q)

    quiet_of : All (IsWide (field_count columns)) rows → EachFits rows 0 columns → Quiet (mismatches table rows columns counted)
    quiet_of wide each =
        subst (λ faults. Quiet (mismatches table rows columns faults)) (sym (no_faults (field_count columns) rows wide))
        (none_mismatch (last_source rows) rows 0 columns each)

    abbrev by_number : ℕ → Bool → List Fault
    by_number wanted b = if b then error_at table 0 0 HeaderMissing ∷ [] else mismatches table rows columns counted

    fits_so : (wanted : ℕ) (b : Bool) → nat_lt (length rows) wanted ≡ b → Quiet (by_number wanted b) → FitsHeader wanted columns rows
    fits_so wanted true e q = absurd (false≢true q)
    fits_so wanted false e q =
        let wide = all_wide (field_count columns) rows (counts_quiet rows columns counted q) in
        record {
          there = ⊎_elim (λ yes. absurd (true≢false (sym yes.0 ∙ e))) (λ no. below no.1) (leb_tells (suc (length rows)) wanted);
          wide = wide;
          fit = fit_of wide q;
        }
      where
        below : wanted < suc (length rows) → wanted ≤ length rows
        below lt = omega (arith, lt)

    not_below : (wanted : ℕ) → wanted ≤ length rows → nat_lt (length rows) wanted ≡ false
    not_below wanted there = ⊎_elim (λ yes. absurd (omega (arith, there, yes.1))) (λ no. no.0) (leb_tells (suc (length rows)) wanted)

    some_wanted : (n : ℕ) → (suc n == 0) ≡ false
    some_wanted n = ⊎_elim (λ yes. absurd (omega (arith, yes.1))) (λ no. no.0) (eqb_tells (suc n) 0)

    abbrev where_wanted : ℕ → Bool → List Fault
    where_wanted n b = if b then [] else by_number (suc n) (nat_lt (length rows) (suc n))

    pub has_header : (wanted : ℕ) → Quiet (header_faults table wanted columns rows) → HasHeader wanted columns rows
    has_header zero q = tt
    has_header (suc n) q = fits_so (suc n) _ refl (subst (λ b. Quiet (where_wanted n b)) (some_wanted n) q)

    pub quiet_header : (wanted : ℕ) → HasHeader wanted columns rows → Quiet (header_faults table wanted columns rows)
    quiet_header zero has = refl
    quiet_header (suc n) has =
        subst (λ b. Quiet (where_wanted n b)) (sym (some_wanted n))
        (subst (λ b. Quiet (by_number (suc n) b)) (sym (not_below (suc n) has.there)) (quiet_of has.wide has.fit))
