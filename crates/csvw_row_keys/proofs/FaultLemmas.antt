-- The faults of the records of whole tables are the faults of their keys.
use Rattle.std.proofs.Common.{◌≡◌, ◌≢◌, ◌∙◌, ℕ, zero, suc, ◌+◌, ◌<◌, ◌≤◌, List, [], ◌∷◌, ◌++◌, ◌||◌, ◌&&◌, Bool, true, false, refl, sym, ap}
use Rattle.std.proofs.Common.{append_assoc, arith, flat_map, map, nat_eq, nat_lt, bytes_eq, count_by, cond, All, if◌then◌else◌}
use Rattle.std.specs.Cmp.Lexicographic.{bytes_decides}
use Rattle.std.specs.List.{list_any}
use Rattle.std.proofs.lemmas.Bool.{and_parts, eq-eqb, eqb-true, false≢true}
use Rattle.std.proofs.lemmas.Grind.{flat_map-append}
use Rattle.std.proofs.lemmas.List.{map-append}
use Rattle.std.proofs.lemmas.List.Elements.{All-append, All-cons, All-head, All-nil, All-push, All-tail, All-weaker}
use Rattle.std.proofs.lemmas.List.Folds.{list_any-append}
use Rattle.std.proofs.lemmas.List.Sums.{sum_by-append, sum_by-cons}
use Rattle.csvw_annotate.specs.declared.row.Row.{Row}
use Rattle.csvw_fault.specs.declared.fault.Code.TheVariants.{DuplicateKey}
use Rattle.csvw_key_records.specs.declared.record.KeyRecord.{KeyRecord}
use Rattle.csvw_key_records.specs.declared.record.Role.{Role}
use Rattle.csvw_key_records.specs.declared.record.Role.TheVariants as role
use Rattle.csvw_key_records.specs.RecordFaults.{fault_at, faults_among, faults_by_role, is_earlier, is_referred, record_faults, same_key}
use Rattle.csvw_key_records.specs.RecordFaults as records
use Rattle.csvw_keys.specs.declared.key.KeyCell.{KeyCell}
use Rattle.csvw_keys.specs.Duplicates.{duplicate, duplicates_behind}
use Rattle.csvw_keys.specs.EqualKeys.{equal_keys}
use Rattle.csvw_keys.specs.Key.{is_null_key, key_of}
use Rattle.csvw_keys.specs.KeyRules.{KeyRule, Unique, Refers, Recorded, key_faults, rule_faults}
use Rattle.csvw_keys.specs.Places.{fault_of}
use Rattle.csvw_keys.specs.References.{fault_by_count, reference_fault, referring, referring_of}
use Rattle.csvw_row_keys.specs.RecordLaws.{Ascends}
use Rattle.csvw_row_keys.specs.RowRecords.{record_of, records_from, records_of, refers_records, rule_records}
use Rattle.csvw_row_keys.specs.Spelling.{spelling}
use Rattle.csvw_row_keys.proofs.SpellingLemmas.{key_itself, keys_apart, same_keys}

-- ---- tests

never : (test : Bool) → (test ≡ true → ⊥) → test ≡ false
never false h = refl
never true h = absurd (h refl)

agree : (s t : Bool) → (s ≡ true → t ≡ true) → (t ≡ true → s ≡ true) → s ≡ t
agree true t there back = sym (there refl)
agree false true there back = back refl
agree false false there back = refl

-- two spellings are the same exactly if the keys are equal
spelled_same : (a b : List KeyCell) → bytes_eq (spelling a) (spelling b) ≡ equal_keys a b
spelled_same a b =
    agree _ _
    (λ same. key_itself a b (keys_apart a b ((bytes_decides (spelling a) (spelling b)).0 same)))
    (λ equal. (bytes_decides (spelling a) (spelling b)).1 (ap spelling (same_keys a b equal)))

less : (m n : ℕ) → m < n → nat_lt m n ≡ true
less m n lt = grind arith

not_less : (m n : ℕ) → n ≤ m → nat_lt m n ≡ false
not_less m n le = grind arith

none_more : (a b : Bool) → a ≡ false → (a || b) ≡ b
none_more true b e = absurd (false≢true (sym e))
none_more false b e = refl

or_none : (a b : Bool) → b ≡ false → (a || b) ≡ a
or_none true b e = refl
or_none false b e = e

module _ {X : Type 0} (p : X → Bool) where
  none_passes : (xs : List X) → All (λ x. p x ≡ false) xs → list_any p xs ≡ false
  none_passes [] all = refl
  none_passes (x ∷ xs) all =
      none_more (p x) _ (All-head (λ x. p x ≡ false) x xs all) ∙ none_passes xs (All-tail (λ x. p x ≡ false) x xs all)

  count_cons : (x : X) (xs : List X) → count_by p (x ∷ xs) ≡ cond (p x) 1 0 + count_by p xs
  count_cons x xs = sum_by-cons (λ y. cond (p y) 1 0) x xs

  count_append : (xs ys : List X) → count_by p (xs ++ ys) ≡ count_by p xs + count_by p ys
  count_append xs ys = sum_by-append (λ y. cond (p y) 1 0) xs ys

  none_counted : (xs : List X) → All (λ x. p x ≡ false) xs → count_by p xs ≡ 0
  none_counted [] all = refl
  none_counted (x ∷ xs) all =
      let first = count_cons x xs ∙ ap (λ b. cond b 1 0 + count_by p xs) (All-head (λ x. p x ≡ false) x xs all) in
      let rest = none_counted xs (All-tail (λ x. p x ≡ false) x xs all) in
      omega (arith, first, rest)

module _ {X : Type 0} (P Q R : X → Type 0) (goes : (x : X) → P x → Q x → R x) where
  all_both : (xs : List X) → All P xs → All Q xs → All R xs
  all_both [] p q = All-nil R
  all_both (x ∷ xs) p q = All-cons R x xs (goes x (All-head P x xs p) (All-head Q x xs q)) (all_both xs (All-tail P x xs p) (All-tail Q x xs q))

all_mapped : {X Y : Type 0} (P : Y → Type 0) (f : X → Y) → ((x : X) → P (f x)) → (xs : List X) → All P (map f xs)
all_mapped P f each [] = All-nil P
all_mapped P f each (x ∷ xs) = All-cons P (f x) (map f xs) (each x) (all_mapped P f each xs)

all_flat : {X Y : Type 0} (P : Y → Type 0) (f : X → List Y) → ((x : X) → All P (f x)) → (xs : List X) → All P (flat_map f xs)
all_flat P f each [] = All-nil P
all_flat P f each (x ∷ xs) = All-append P (f x) (flat_map f xs) (each x) (all_flat P f each xs)

same_flat : {X Y : Type 0} (P : X → Type 0) (f g : X → List Y) → ((x : X) → P x → f x ≡ g x) → (xs : List X) → All P xs → flat_map f xs ≡ flat_map g xs
same_flat P f g each [] all = refl
same_flat P f g each (x ∷ xs) all =
    ap (λ ys. ys ++ flat_map f xs) (each x (All-head P x xs all)) ∙ ap (λ ys. g x ++ ys) (same_flat P f g each xs (All-tail P x xs all))

-- ---- records of other keys

module _ (r : KeyRecord) where
  abbrev IsOther : KeyRecord → Type 0
  IsOther q = r.rule ≢ q.rule

  other_key : (q : KeyRecord) → IsOther q → same_key r q ≡ true → ⊥
  other_key q other same = other (eqb-true _ _ (and_parts _ _ same).0)

  other_earlier : (q : KeyRecord) → IsOther q → is_earlier r q ≡ false
  other_earlier q other = never _ (λ h. other_key q other (and_parts _ _ (and_parts _ _ h).0).1)

  other_referred : (q : KeyRecord) → IsOther q → is_referred r q ≡ false
  other_referred q other = never _ (λ h. other_key q other (and_parts _ _ h).1)

  by_role : (xs ys : List KeyRecord) → list_any (is_earlier r) xs ≡ list_any (is_earlier r) ys
      → count_by (is_referred r) xs ≡ count_by (is_referred r) ys → (part : Role) → faults_by_role xs r part ≡ faults_by_role ys r part
  by_role xs ys any count role.Unique = ap (λ b. if b then fault_at DuplicateKey r.place ∷ [] else []) any
  by_role xs ys any count role.Referenced = refl
  by_role xs ys any count role.Refers = ap (records.fault_by_count r.place) count

  -- records of other keys before and after change nothing
  among_own : (before own after : List KeyRecord) → All IsOther before → All IsOther after
      → faults_among (before ++ (own ++ after)) r ≡ faults_among own r
  among_own before own after first last =
      let earlier = λ (q : KeyRecord). is_earlier r q ≡ false in
      let referred = λ (q : KeyRecord). is_referred r q ≡ false in
      by_role (before ++ (own ++ after)) own
      (list_any-append (is_earlier r) before (own ++ after)
      ∙ none_more _ _ (none_passes (is_earlier r) before (All-weaker IsOther earlier other_earlier before first))
      ∙ list_any-append (is_earlier r) own after
      ∙ or_none _ _ (none_passes (is_earlier r) after (All-weaker IsOther earlier other_earlier after last)))
      (let x = count_append (is_referred r) before (own ++ after) in
      let y = count_append (is_referred r) own after in
      let u = none_counted (is_referred r) before (All-weaker IsOther referred other_referred before first) in
      let v = none_counted (is_referred r) after (All-weaker IsOther referred other_referred after last) in
      omega (arith, x, y, u, v))
      r.role

-- ---- a primary key

own_key : (n : ℕ) (a b : List KeyCell) → (nat_eq n n && bytes_eq (spelling a) (spelling b)) ≡ equal_keys a b
own_key n a b = ap (λ t. t && bytes_eq (spelling a) (spelling b)) (eq-eqb n n refl) ∙ spelled_same a b

and_true : (a b : Bool) → b ≡ true → (a && b) ≡ a
and_true true b e = e
and_true false b e = refl

module _ (n table : ℕ) (columns : List ℕ) where
  abbrev unique : Row → KeyRecord
  unique = record_of n role.Unique table columns

  before_is : (row d : Row) → d.source < row.source → is_earlier (unique row) (unique d) ≡ equal_keys (key_of columns row) (key_of columns d)
  before_is row d lt = and_true _ _ (less d.source row.source lt) ∙ own_key n (key_of columns row) (key_of columns d)

  after_is : (row d : Row) → row.source ≤ d.source → is_earlier (unique row) (unique d) ≡ false
  after_is row d le =
      never _ (λ h. false≢true (sym (not_less d.source row.source le) ∙ (and_parts _ _ h).1))

  before_all : (row : Row) (done : List Row) → All (λ d. d.source < row.source) done
      → list_any (is_earlier (unique row)) (map unique done) ≡ list_any (equal_keys (key_of columns row)) (map (key_of columns) done)
  before_all row [] all = refl
  before_all row (d ∷ done) all =
      ap (λ b. b || list_any (is_earlier (unique row)) (map unique done)) (before_is row d (All-head (λ d. d.source < row.source) d done all))
      ∙ ap (λ b. equal_keys (key_of columns row) (key_of columns d) || b) (before_all row done (All-tail (λ d. d.source < row.source) d done all))

  after_all : (row : Row) (rows : List Row) → All (λ d. row.source ≤ d.source) rows → list_any (is_earlier (unique row)) (map unique rows) ≡ false
  after_all row [] all = refl
  after_all row (d ∷ rows) all =
      none_more _ _ (after_is row d (All-head (λ d. row.source ≤ d.source) d rows all)) ∙ after_all row rows (All-tail (λ d. row.source ≤ d.source) d rows all)

  one_fault : (done : List Row) (row : Row) (rows : List Row) → All (λ d. d.source < row.source) done → All (λ r. row.source < r.source) rows
      → faults_among (map unique (done ++ row ∷ rows)) (unique row) ≡ duplicate table columns (map (key_of columns) done) row
  one_fault done row rows before after =
      ap (λ b. if b then fault_of DuplicateKey table columns row.source ∷ [] else [])
      (ap (list_any (is_earlier (unique row))) (map-append unique done (row ∷ rows))
      ∙ list_any-append (is_earlier (unique row)) (map unique done) (map unique (row ∷ rows))
      ∙ or_none _ _ (after_all row (row ∷ rows)
      (All-cons (λ d. row.source ≤ d.source) row rows (omega arith)
      (All-weaker (λ r. row.source < r.source) (λ d. row.source ≤ d.source) (λ r lt. omega (arith, lt)) rows after)))
      ∙ before_all row done before)

  duplicates_are : (done rows : List Row) → All (λ r. All (λ d. d.source < r.source) done) rows → Ascends rows
      → flat_map (faults_among (map unique (done ++ rows))) (map unique rows) ≡ duplicates_behind table columns (map (key_of columns) done) rows
  duplicates_are done [] before ascend = refl
  duplicates_are done (row ∷ rows) before ascend =
      let Before = λ (r : Row). All (λ (d : Row). d.source < r.source) done in
      let more = done ++ row ∷ [] in
      let After = λ (r : Row). All (λ (d : Row). d.source < r.source) more in
      let shifted : done ++ row ∷ rows ≡ more ++ rows = sym (append_assoc done (row ∷ []) rows) in
      let rest = duplicates_are more rows
      (all_both Before (λ r. row.source < r.source) After (λ r p lt. All-push (λ d. d.source < r.source) done row p lt) rows
      (All-tail Before row rows before) ascend.0) ascend.1 in
      ap (λ fs. fs ++ flat_map (faults_among (map unique (done ++ row ∷ rows))) (map unique rows))
      (one_fault done row rows (All-head Before row rows before) ascend.0)
      ∙ ap (λ fs. duplicate table columns (map (key_of columns) done) row ++ fs)
      (ap (λ all. flat_map (faults_among (map unique all)) (map unique rows)) shifted ∙ rest
      ∙ ap (λ keys. duplicates_behind table columns keys rows) (map-append (key_of columns) done (row ∷ [])))

  none_before : (rows : List Row) → All (λ r. All (λ (d : Row). d.source < r.source) []) rows
  none_before [] = All-nil (λ (r : Row). All (λ (d : Row). d.source < r.source) [])
  none_before (row ∷ rows) =
      All-cons (λ (r : Row). All (λ (d : Row). d.source < r.source) []) row rows (All-nil (λ (d : Row). d.source < row.source)) (none_before rows)

-- ---- a foreign key

module _ (n table : ℕ) (columns : List ℕ) (other : ℕ) (others : List ℕ) where
  abbrev referenced : Row → KeyRecord
  referenced = record_of n role.Referenced other others

  abbrev refers : Row → KeyRecord
  refers = record_of n role.Refers table columns

  counted : (row : Row) (rows : List Row)
      → count_by (is_referred (refers row)) (map referenced rows) ≡ count_by (equal_keys (key_of columns row)) (map (key_of others) rows)
  counted row [] = refl
  counted row (d ∷ rows) =
      count_cons (is_referred (refers row)) (referenced d) (map referenced rows)
      ∙ ap (λ b. cond b 1 0 + count_by (is_referred (refers row)) (map referenced rows)) (own_key n (key_of columns row) (key_of others d))
      ∙ ap (λ k. cond (equal_keys (key_of columns row) (key_of others d)) 1 0 + k) (counted row rows)
      ∙ sym (count_cons (equal_keys (key_of columns row)) (key_of others d) (map (key_of others) rows))

  abbrev IsNone : Row → KeyRecord → Type 0
  IsNone row q = is_referred (refers row) q ≡ false

  none_by : (row d : Row) (null : Bool) → All (IsNone row) (if null then [] else refers d ∷ [])
  none_by row d true = All-nil (IsNone row)
  none_by row d false = All-cons (IsNone row) (refers d) [] refl (All-nil (IsNone row))

  same_count : (row : Row) (rows all : List Row)
      → count_by (is_referred (refers row)) (map referenced rows ++ flat_map (refers_records n table columns) all)
      ≡ count_by (equal_keys (key_of columns row)) (map (key_of others) rows)
  same_count row rows all =
      let x = count_append (is_referred (refers row)) (map referenced rows) (flat_map (refers_records n table columns) all) in
      let y = none_counted (is_referred (refers row)) (flat_map (refers_records n table columns) all)
      (all_flat (IsNone row) (refers_records n table columns) (λ d. none_by row d (is_null_key (key_of columns d))) all) in
      let z = counted row rows in
      omega (arith, x, y, z)

  by_count : (row : Row) (k : ℕ) → records.fault_by_count (refers row).place k ≡ fault_by_count table columns row.source k
  by_count row zero = refl
  by_count row (suc zero) = refl
  by_count row (suc (suc k)) = refl

  module _ (rows all : List Row) where
    abbrev own : List KeyRecord
    own = map referenced rows ++ flat_map (refers_records n table columns) all

    abbrev keys : List (List KeyCell)
    keys = map (key_of others) rows

    row_fault : (row : Row) → faults_among own (refers row) ≡ reference_fault table columns keys (record { key = key_of columns row; source = row.source })
    row_fault row =
        by_count row (count_by (is_referred (refers row)) own) ∙ ap (fault_by_count table columns row.source) (same_count row rows all)

    by_null : (row : Row) (null : Bool)
        → flat_map (faults_among own) (if null then [] else refers row ∷ [])
        ≡ flat_map (reference_fault table columns keys) (if null then [] else record { key = key_of columns row; source = row.source } ∷ [])
    by_null row true = refl
    by_null row false = ap (λ fs. fs ++ []) (row_fault row)

    each_row : (some : List Row)
        → flat_map (faults_among own) (flat_map (refers_records n table columns) some) ≡ flat_map (reference_fault table columns keys) (referring_of columns some)
    each_row [] = refl
    each_row (row ∷ some) =
        flat_map-append (faults_among own) (refers_records n table columns row) (flat_map (refers_records n table columns) some)
        ∙ ap (λ fs. fs ++ flat_map (faults_among own) (flat_map (refers_records n table columns) some)) (by_null row (is_null_key (key_of columns row)))
        ∙ ap (λ fs. flat_map (reference_fault table columns keys) (referring (key_of columns row) row.source) ++ fs) (each_row some)
        ∙ sym (flat_map-append (reference_fault table columns keys) (referring (key_of columns row) row.source) (referring_of columns some))

    no_faults : (some : List Row) → flat_map (faults_among own) (map referenced some) ≡ []
    no_faults [] = refl
    no_faults (row ∷ some) = no_faults some

    references_are : flat_map (faults_among own) own ≡ flat_map (reference_fault table columns keys) (referring_of columns all)
    references_are =
        flat_map-append (faults_among own) (map referenced rows) (flat_map (refers_records n table columns) all)
        ∙ ap (λ fs. fs ++ flat_map (faults_among own) (flat_map (refers_records n table columns) all)) (no_faults rows)
        ∙ each_row all

-- ---- all keys

module _ (tables : ℕ → List Row) (ascend : (n : ℕ) → Ascends (tables n)) where
  own_faults : (n : ℕ) (rule : KeyRule) → flat_map (faults_among (rule_records tables n rule)) (rule_records tables n rule) ≡ rule_faults tables rule
  own_faults n (Unique table columns) = duplicates_are n table columns [] (tables table) (none_before n table columns (tables table)) (ascend table)
  own_faults n (Refers table columns other others) = references_are n table columns other others (tables other) (tables table)
  own_faults n (Recorded table columns) = refl

  abbrev IsOf : ℕ → KeyRecord → Type 0
  IsOf n r = r.rule ≡ n

  of_row : (n table : ℕ) (columns : List ℕ) (row : Row) (null : Bool) → All (IsOf n) (if null then [] else record_of n role.Refers table columns row ∷ [])
  of_row n table columns row true = All-nil (IsOf n)
  of_row n table columns row false = All-cons (IsOf n) (record_of n role.Refers table columns row) [] refl (All-nil (IsOf n))

  of_rule : (n : ℕ) (rule : KeyRule) → All (IsOf n) (rule_records tables n rule)
  of_rule n (Unique table columns) = all_mapped (IsOf n) (record_of n role.Unique table columns) (λ row. refl) (tables table)
  of_rule n (Refers table columns other others) =
      All-append (IsOf n) (map (record_of n role.Referenced other others) (tables other)) (flat_map (refers_records n table columns) (tables table))
      (all_mapped (IsOf n) (record_of n role.Referenced other others) (λ row. refl) (tables other))
      (all_flat (IsOf n) (refers_records n table columns) (λ row. of_row n table columns row (is_null_key (key_of columns row))) (tables table))
  of_rule n (Recorded table columns) = All-nil (IsOf n)

  abbrev IsFrom : ℕ → KeyRecord → Type 0
  IsFrom n r = n ≤ r.rule

  from : (n : ℕ) (rules : List KeyRule) → All (IsFrom n) (records_from tables n rules)
  from n [] = All-nil (IsFrom n)
  from n (rule ∷ rules) =
      All-append (IsFrom n) (rule_records tables n rule) (records_from tables (suc n) rules)
      (All-weaker (IsOf n) (IsFrom n) (λ r is. omega (arith, is)) _ (of_rule n rule))
      (All-weaker (IsFrom (suc n)) (IsFrom n) (λ r le. omega (arith, le)) _ (from (suc n) rules))

  abbrev IsUpTo : ℕ → KeyRecord → Type 0
  IsUpTo n r = r.rule < n

  faults_from : (n : ℕ) (rules : List KeyRule) (before : List KeyRecord) → All (IsUpTo n) before
      → flat_map (faults_among (before ++ records_from tables n rules)) (records_from tables n rules) ≡ key_faults rules tables
  faults_from n [] before all = refl
  faults_from n (rule ∷ rules) before all =
      let own = rule_records tables n rule in
      let after = records_from tables (suc n) rules in
      let among = faults_among (before ++ (own ++ after)) in
      let others = λ (r : KeyRecord) (is : r.rule ≡ n). among_own r before own after
      (All-weaker (IsUpTo n) (IsOther r) (λ q lt e. omega (arith, is, lt, e)) before all)
      (All-weaker (IsFrom (suc n)) (IsOther r) (λ q le e. omega (arith, is, le, e)) after (from (suc n) rules)) in
      let more = All-append (IsUpTo (suc n)) before own (All-weaker (IsUpTo n) (IsUpTo (suc n)) (λ r lt. omega (arith, lt)) before all)
      (All-weaker (IsOf n) (IsUpTo (suc n)) (λ r is. omega (arith, is)) own (of_rule n rule)) in
      flat_map-append among own after
      ∙ ap (λ fs. fs ++ flat_map among after) (same_flat (IsOf n) among (faults_among own) others own (of_rule n rule) ∙ own_faults n rule)
      ∙ ap (λ fs. rule_faults tables rule ++ fs)
      (ap (λ all. flat_map (faults_among all) after) (sym (append_assoc before own after)) ∙ faults_from (suc n) rules (before ++ own) more)

  pub all_faults : (rules : List KeyRule) → record_faults (records_of rules tables) ≡ key_faults rules tables
  all_faults rules = faults_from 1 rules [] (All-nil (IsUpTo 1))
