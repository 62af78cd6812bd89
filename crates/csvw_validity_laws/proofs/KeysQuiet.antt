-- Keys without a fault.
use Rattle.std.proofs.Common.{◌≡◌, ℕ, zero, suc, Bool, true, false, List, [], ◌∷◌, ◌++◌, refl, sym, ◌∙◌, subst, All, flat_map, map, ◌||◌}
use Rattle.std.proofs.Common.{if◌then◌else◌, inl, inr}
use Rattle.std.specs.List.{list_any}
use Rattle.std.proofs.lemmas.Bool.{false≢true, true≢false}
use Rattle.std.proofs.lemmas.List.Elements.{All-cons, All-head, All-nil, All-tail}
use Rattle.csvw_fault.specs.declared.fault.Code.TheVariants.{DuplicateKey}
use Rattle.csvw_fault.specs.declared.fault.Fault.{Fault}
use Rattle.csvw_annotate.specs.declared.row.Row.{Row}
use Rattle.csvw_keys.specs.Duplicates.{is_among, duplicate, duplicates_behind}
use Rattle.csvw_keys.specs.EqualKeys.{equal_keys}
use Rattle.csvw_keys.specs.Key.{is_null_key, key_of}
use Rattle.csvw_keys.specs.KeyRules.{KeyRule, Unique, Refers, Recorded, rule_faults, key_faults}
use Rattle.csvw_keys.specs.Places.{fault_of}
use Rattle.csvw_keys.specs.References.{ReferringRow, fault_by_count, reference_fault, referring_of}
use Rattle.csvw_keys.specs.declared.key.KeyCell.{KeyCell}
use Rattle.csvw_validity_laws.specs.Validity.{AreApart, Keeps, RefersToOne}
use Rattle.csvw_validity_laws.proofs.Quiet.{Quiet, quiet_join, quiet_parts}

none_of : (a b : Bool) → (a || b) ≡ false → (a ≡ false) × (b ≡ false)
none_of true b e = absurd (true≢false e)
none_of false b e = (refl, e)

neither : (a b : Bool) → a ≡ false → b ≡ false → (a || b) ≡ false
neither true b e f = absurd (true≢false e)
neither false b e f = f

module _ {X : Type 0} (p : X → Bool) where
  none_before : (xs : List X) (y : X) → list_any p (xs ++ y ∷ []) ≡ false → (list_any p xs ≡ false) × (p y ≡ false)
  none_before [] y e = (refl, (none_of (p y) false e).0)
  none_before (x ∷ xs) y e =
      let both = none_of (p x) (list_any p (xs ++ y ∷ [])) e in
      let rest = none_before xs y both.1 in
      (neither (p x) (list_any p xs) both.0 rest.0, rest.1)

  none_more : (xs : List X) (y : X) → list_any p xs ≡ false → p y ≡ false → list_any p (xs ++ y ∷ []) ≡ false
  none_more [] y e f = neither (p y) false f refl
  none_more (x ∷ xs) y e f =
      let both = none_of (p x) (list_any p xs) e in
      neither (p x) (list_any p (xs ++ y ∷ [])) both.0 (none_more xs y both.1 f)

module _ (table : ℕ) (columns : List ℕ) where
  abbrev Key : Type 0
  Key = List KeyCell

  abbrev IsNew : List Key → Row → Type 0
  IsNew before row = is_among (key_of columns row) before ≡ false

  abbrev Differs : Key → Key → Type 0
  Differs key other = equal_keys other key ≡ false

  abbrev told : Row → Bool → List Fault
  told row b = if b then fault_of DuplicateKey table columns row.source ∷ [] else []

  new_by : (row : Row) (before : List Key) (b : Bool) → is_among (key_of columns row) before ≡ b → Quiet (duplicate table columns before row) → b ≡ false
  new_by row before false e q = refl
  new_by row before true e q = absurd (false≢true (subst (λ t. Quiet (told row t)) e q))

  quiet_by : (row : Row) (before : List Key) → IsNew before row → Quiet (duplicate table columns before row)
  quiet_by row before e = subst (λ t. Quiet (told row t)) (sym e) refl

  split : (before : List Key) (key : Key) (rows : List Row) → All (IsNew (before ++ key ∷ [])) rows
      → All (IsNew before) rows × All (Differs key) (map (key_of columns) rows)
  split before key [] all = (All-nil (IsNew before), All-nil (Differs key))
  split before key (row ∷ rows) all =
      let here = none_before (equal_keys (key_of columns row)) before key (All-head (IsNew (before ++ key ∷ [])) row rows all) in
      let rest = split before key rows (All-tail (IsNew (before ++ key ∷ [])) row rows all) in (
        All-cons (IsNew before) row rows here.0 rest.0,
        All-cons (Differs key) (key_of columns row) (map (key_of columns) rows) here.1 rest.1,
      )

  joined : (before : List Key) (key : Key) (rows : List Row) → All (IsNew before) rows → All (Differs key) (map (key_of columns) rows)
      → All (IsNew (before ++ key ∷ [])) rows
  joined before key [] all apart = All-nil (IsNew (before ++ key ∷ []))
  joined before key (row ∷ rows) all apart =
      All-cons (IsNew (before ++ key ∷ [])) row rows
      (none_more (equal_keys (key_of columns row)) before key (All-head (IsNew before) row rows all)
      (All-head (Differs key) (key_of columns row) (map (key_of columns) rows) apart))
      (joined before key rows (All-tail (IsNew before) row rows all)
      (All-tail (Differs key) (key_of columns row) (map (key_of columns) rows) apart))

  apart_from_quiet : (before : List Key) (rows : List Row) → Quiet (duplicates_behind table columns before rows)
      → All (IsNew before) rows × AreApart (map (key_of columns) rows)
  apart_from_quiet before [] q = (All-nil (IsNew before), tt)
  apart_from_quiet before (row ∷ rows) q =
      let key = key_of columns row in
      let both = quiet_parts (duplicate table columns before row) (duplicates_behind table columns (before ++ key ∷ []) rows) q in
      let rest = apart_from_quiet (before ++ key ∷ []) rows both.1 in
      let parts = split before key rows rest.0 in
      (All-cons (IsNew before) row rows (new_by row before _ refl both.0) parts.0, (parts.1, rest.1))

  quiet_from_apart : (before : List Key) (rows : List Row) → All (IsNew before) rows → AreApart (map (key_of columns) rows)
      → Quiet (duplicates_behind table columns before rows)
  quiet_from_apart before [] all apart = refl
  quiet_from_apart before (row ∷ rows) all apart =
      let key = key_of columns row in
      quiet_join (duplicate table columns before row) (duplicates_behind table columns (before ++ key ∷ []) rows)
      (quiet_by row before (All-head (IsNew before) row rows all))
      (quiet_from_apart (before ++ key ∷ []) rows (joined before key rows (All-tail (IsNew before) row rows all) apart.0) apart.1)

  all_new : (rows : List Row) → All (IsNew []) rows
  all_new [] = All-nil (IsNew [])
  all_new (row ∷ rows) = All-cons (IsNew []) row rows refl (all_new rows)

  module _ (keys : List Key) where
    one_by : (source : ℕ) (n : ℕ) → Quiet (fault_by_count table columns source n) → n ≡ 1
    one_by source zero q = absurd (false≢true q)
    one_by source (suc zero) q = refl
    one_by source (suc (suc n)) q = absurd (false≢true q)

    quiet_by_one : (source : ℕ) (n : ℕ) → n ≡ 1 → Quiet (fault_by_count table columns source n)
    quiet_by_one source n e = subst (λ m. Quiet (fault_by_count table columns source m)) (sym e) refl

    abbrev IsFine : Row → Type 0
    IsFine row = RefersToOne keys (key_of columns row)

    abbrev refers : Row → ReferringRow
    refers row = record { key = key_of columns row; source = row.source }

    abbrev own : Row → Bool → List ReferringRow
    own row b = if b then [] else refers row ∷ []

    abbrev fault_of_row : Row → List Fault
    fault_of_row row = reference_fault table columns keys (refers row)

    abbrev faults_by : Row → Bool → List Fault
    faults_by row b = flat_map (reference_fault table columns keys) (own row b)

    abbrev faults_in : List Row → List Fault
    faults_in rows = flat_map (reference_fault table columns keys) (referring_of columns rows)

    abbrev faults_before : Row → Bool → List Row → List Fault
    faults_before row b rows = flat_map (reference_fault table columns keys) (own row b ++ referring_of columns rows)

    fine_by : (row : Row) (b : Bool) → is_null_key (key_of columns row) ≡ b → Quiet (faults_by row b) → IsFine row
    fine_by row true e q = inl e
    fine_by row false e q = inr (one_by row.source _ (quiet_parts (fault_of_row row) [] q).0)

    quiet_of_fine : (row : Row) (b : Bool) → is_null_key (key_of columns row) ≡ b → IsFine row → Quiet (faults_by row b)
    quiet_of_fine row true e fine = refl
    quiet_of_fine row false e (inl null) = absurd (true≢false (sym null ∙ e))
    quiet_of_fine row false e (inr one) = quiet_join (fault_of_row row) [] (quiet_by_one row.source _ one) refl

    parted : (row : Row) (rows : List Row) (b : Bool) → Quiet (faults_before row b rows) → Quiet (faults_by row b) × Quiet (faults_in rows)
    parted row rows true q = (refl, q)
    parted row rows false q =
        let both = quiet_parts (fault_of_row row) (faults_in rows) q in
        (quiet_join (fault_of_row row) [] both.0 refl, both.1)

    together : (row : Row) (rows : List Row) (b : Bool) → Quiet (faults_by row b) → Quiet (faults_in rows) → Quiet (faults_before row b rows)
    together row rows true a rest = rest
    together row rows false a rest = quiet_join (fault_of_row row) (faults_in rows) (quiet_parts (fault_of_row row) [] a).0 rest

    fine_from_quiet : (rows : List Row) → Quiet (faults_in rows) → All IsFine rows
    fine_from_quiet [] q = All-nil IsFine
    fine_from_quiet (row ∷ rows) q =
        let both = parted row rows (is_null_key (key_of columns row)) q in
        All-cons IsFine row rows (fine_by row _ refl both.0) (fine_from_quiet rows both.1)

    quiet_from_fine : (rows : List Row) → All IsFine rows → Quiet (faults_in rows)
    quiet_from_fine [] all = refl
    quiet_from_fine (row ∷ rows) all =
        together row rows (is_null_key (key_of columns row)) (quiet_of_fine row _ refl (All-head IsFine row rows all))
        (quiet_from_fine rows (All-tail IsFine row rows all))

module _ (tables : ℕ → List Row) where
  kept : (rule : KeyRule) → Quiet (rule_faults tables rule) → Keeps tables rule
  kept (Unique table columns) q = (apart_from_quiet table columns [] (tables table) q).1
  kept (Refers table columns other referenced) q = fine_from_quiet table columns (map (key_of referenced) (tables other)) (tables table) q
  kept (Recorded table columns) q = tt

  quiet : (rule : KeyRule) → Keeps tables rule → Quiet (rule_faults tables rule)
  quiet (Unique table columns) k = quiet_from_apart table columns [] (tables table) (all_new table columns (tables table)) k
  quiet (Refers table columns other referenced) k = quiet_from_fine table columns (map (key_of referenced) (tables other)) (tables table) k
  quiet (Recorded table columns) k = refl

  pub all_kept : (rules : List KeyRule) → Quiet (key_faults rules tables) → All (Keeps tables) rules
  all_kept [] q = All-nil (Keeps tables)
  all_kept (rule ∷ rules) q =
      let both = quiet_parts (rule_faults tables rule) (key_faults rules tables) q in
      All-cons (Keeps tables) rule rules (kept rule both.0) (all_kept rules both.1)

  pub all_quiet : (rules : List KeyRule) → All (Keeps tables) rules → Quiet (key_faults rules tables)
  all_quiet [] all = refl
  all_quiet (rule ∷ rules) all =
      quiet_join (rule_faults tables rule) (key_faults rules tables) (quiet rule (All-head (Keeps tables) rule rules all))
      (all_quiet rules (All-tail (Keeps tables) rule rules all))
