-- The faults that books report are those of the rows that they keep.
use Rattle.std.proofs.Common.{◌≡◌, ℕ, List, [], ◌∷◌, ◌++◌, ◌||◌, Bool, true, false, Option, Some, refl, sym, ap, ◌∙◌, All}
use Rattle.std.proofs.Common.{flat_map, map, nat_eq, if◌then◌else◌}
use Rattle.std.specs.Cmp.Lexicographic.{bytes_decides}
use Rattle.std.specs.List.{list_any}
use Rattle.std.proofs.lemmas.Bool.{and_parts, eqb-true, false≢true}
use Rattle.std.proofs.lemmas.Grind.{flat_map-append}
use Rattle.std.proofs.lemmas.List.{append-nil}
use Rattle.std.proofs.lemmas.List.Elements.{All-cons, All-head, All-nil, All-tail}
use Rattle.csvw_annotate.specs.declared.row.Row.{Row}
use Rattle.csvw_keys.specs.contracts.held.HeldKeyOrd.TheImpl as derived
use Rattle.csvw_keys.specs.declared.book.Book.{Book}
use Rattle.csvw_keys.specs.declared.book.Book.TheVariants.{Primary, Referenced, Referring, Foreign, Recording}
use Rattle.csvw_keys.specs.declared.foreign_key.ForeignKey.{ForeignKey}
use Rattle.csvw_keys.specs.declared.held.HeldKey.{HeldKey}
use Rattle.csvw_keys.specs.declared.referring.Referring.{Referring as KeptRow}
use Rattle.csvw_keys.specs.Books.{KeepsBook, Purpose, book_rows, book_times, counts_in, first_in, first_told, is_served, lists_in, purpose_of}
use Rattle.csvw_keys.specs.Books.{book_records, purposes_of, records_in, rules_for, rules_in, times_in, told, told_by, told_reference}
use Rattle.csvw_keys.specs.Duplicates.{duplicate_faults}
use Rattle.csvw_keys.specs.Held.{held_keys}
use Rattle.csvw_keys.specs.KeyRules.{KeyRule, Refers, duplicates_of, key_faults, rule_faults}
use Rattle.csvw_keys.specs.RecordingBooks.{keyed_rows}
use Rattle.csvw_keys.specs.ReferenceBooks.{held_row}
use Rattle.csvw_keys.specs.References.{reference_faults, referring_of}
use Rattle.csvw_keys.specs.Tallies.{count_of}
use Rattle.csvw_keys.specs.Times.{times}
use Rattle.csvw_fault.specs.declared.fault.Fault.{Fault}
use Rattle.csvw_keys.proofs.ReferenceLemmas.{all_faults}

module _ {X : Type 0} (P : X → Type 0) where
  front : (xs ys : List X) → All P (xs ++ ys) → All P xs
  front [] ys all = All-nil P
  front (x ∷ xs) ys all = All-cons P x xs (All-head P x (xs ++ ys) all) (front xs ys (All-tail P x (xs ++ ys) all))

  back : (xs ys : List X) → All P (xs ++ ys) → All P ys
  back [] ys all = all
  back (x ∷ xs) ys all = back xs ys (All-tail P x (xs ++ ys) all)

module _ (tables : ℕ → List Row) where
  abbrev times_of : ℕ → List ℕ → HeldKey → ℕ
  times_of table columns key = count_of derived.ghosts.cmp key (held_keys columns (tables table))

  moved : (a b : ℕ) (cs ds : List ℕ) (key : HeldKey) → a ≡ b → cs ≡ ds → times (times_of a cs key) ≡ times (times_of b ds key)
  moved a b cs ds key tables_are columns_are =
      ap (λ n. times (times_of n cs key)) tables_are ∙ ap (λ columns. times (times_of b columns key)) columns_are

  counts_are : (b : Book) (table : ℕ) (columns : List ℕ) → KeepsBook b tables → counts_in table columns (purpose_of b) ≡ true
      → (key : HeldKey) → book_times b key ≡ times (times_of table columns key)
  counts_are (Primary book) table columns keeps same key =
      let parts = and_parts _ _ same in
      keeps.tallies.each key ∙ moved book.table table book.columns columns key (eqb-true _ _ parts.0) ((bytes_decides _ _).0 parts.1)
  counts_are (Referenced book) table columns keeps same key =
      let parts = and_parts _ _ same in
      keeps.each key ∙ moved book.table table book.columns columns key (eqb-true _ _ parts.0) ((bytes_decides _ _).0 parts.1)
  counts_are (Referring book) table columns keeps same key = absurd (false≢true same)
  counts_are (Foreign foreign) table columns keeps same key = absurd (false≢true same)
  counts_are (Recording book) table columns keeps same key = absurd (false≢true same)

  abbrev rows_of : ℕ → List ℕ → List KeptRow
  rows_of table columns = map held_row (referring_of columns (tables table))

  rows_are : (table : ℕ) (columns : List ℕ) (b : Book) → KeepsBook b tables → lists_in table columns (purpose_of b) ≡ true
      → Some (book_rows b) ≡ Some (rows_of table columns)
  rows_are table columns (Primary book) keeps same = absurd (false≢true same)
  rows_are table columns (Referenced book) keeps same = absurd (false≢true same)
  rows_are table columns (Referring book) keeps same =
      let parts = and_parts _ _ same in
      ap Some keeps
      ∙ ap (λ n. Some (rows_of n book.columns)) (eqb-true book.table table parts.0)
      ∙ ap (λ cs. Some (rows_of table cs)) ((bytes_decides book.columns columns).0 parts.1)
  rows_are table columns (Foreign foreign) keeps same = absurd (false≢true same)
  rows_are table columns (Recording book) keeps same = absurd (false≢true same)

  records_are : (table : ℕ) (columns : List ℕ) (b : Book) → KeepsBook b tables → records_in table columns (purpose_of b) ≡ true
      → Some (book_records b) ≡ Some (keyed_rows columns (tables table))
  records_are table columns (Primary book) keeps same = absurd (false≢true same)
  records_are table columns (Referenced book) keeps same = absurd (false≢true same)
  records_are table columns (Referring book) keeps same = absurd (false≢true same)
  records_are table columns (Foreign foreign) keeps same = absurd (false≢true same)
  records_are table columns (Recording book) keeps same =
      let parts = and_parts _ _ same in
      ap Some keeps
      ∙ ap (λ n. Some (keyed_rows book.columns (tables n))) (eqb-true book.table table parts.0)
      ∙ ap (λ cs. Some (keyed_rows cs (tables table))) ((bytes_decides book.columns columns).0 parts.1)

  -- what each book with a purpose knows is known by the first of them
  module _ {X : Type 0} (is_wanted : Purpose → Bool) (known_by : Book → X) (Is : Option X → Type 0)
      (each : (b : Book) → KeepsBook b tables → is_wanted (purpose_of b) ≡ true → Is (Some (known_by b))) where
    by_test : (b : Book) (bs : List Book) (test : Bool) → is_wanted (purpose_of b) ≡ test → KeepsBook b tables
        → (list_any is_wanted (purposes_of bs) ≡ true → Is (first_in is_wanted known_by bs))
        → (test || list_any is_wanted (purposes_of bs)) ≡ true
        → Is (if test then Some (known_by b) else first_in is_wanted known_by bs)
    by_test b bs true test keeps rest any = each b keeps test
    by_test b bs false test keeps rest any = rest any

    first_is : (bs : List Book) → All (λ b. KeepsBook b tables) bs → list_any is_wanted (purposes_of bs) ≡ true
        → Is (first_in is_wanted known_by bs)
    first_is [] keeps any = absurd (false≢true any)
    first_is (b ∷ bs) keeps any =
        by_test b bs (is_wanted (purpose_of b)) refl (All-head (λ x. KeepsBook x tables) b bs keeps)
        (first_is bs (All-tail (λ x. KeepsBook x tables) b bs keeps)) any

  -- what is recorded of a table is its rows
  pub recorded_is : (table : ℕ) (columns : List ℕ) (bs : List Book) → All (λ b. KeepsBook b tables) bs
      → list_any (records_in table columns) (purposes_of bs) ≡ true
      → first_in (records_in table columns) book_records bs ≡ Some (keyed_rows columns (tables table))
  recorded_is table columns bs keeps any =
      first_is (records_in table columns) book_records (λ found. found ≡ Some (keyed_rows columns (tables table))) (records_are table columns) bs keeps any

  module _ (foreign : ForeignKey) where
    abbrev faults : List Fault
    faults = reference_faults foreign.table foreign.columns (tables foreign.table) foreign.referenced (tables foreign.referenced_table)

    abbrev rows : List KeptRow
    rows = rows_of foreign.table foreign.columns

    by_counts : (b : Book) → KeepsBook b tables → counts_in foreign.referenced_table foreign.referenced (purpose_of b) ≡ true
        → told_by foreign (Some rows) (Some (book_times b)) ≡ faults
    by_counts b keeps counts =
        all_faults foreign tables (book_times b) (counts_are b foreign.referenced_table foreign.referenced keeps counts)

    pub reference_told : (bs : List Book) → All (λ b. KeepsBook b tables) bs
        → is_served (purposes_of bs) (Refers foreign.table foreign.columns foreign.referenced_table foreign.referenced) ≡ true
        → told_reference bs foreign ≡ faults
    reference_told bs keeps served =
        let parts = and_parts _ _ served in
        ap (λ found. told_by foreign found (times_in foreign.referenced_table foreign.referenced bs))
        (first_is (lists_in foreign.table foreign.columns) book_rows (λ found. found ≡ Some rows) (rows_are foreign.table foreign.columns)
        bs keeps parts.0)
        ∙ first_is (counts_in foreign.referenced_table foreign.referenced) book_times (λ times. told_by foreign (Some rows) times ≡ faults) by_counts
        bs keeps parts.1

  module _ (books : List Book) (keeps : All (λ b. KeepsBook b tables) books) where
    abbrev IsServed : KeyRule → Type 0
    IsServed rule = is_served (purposes_of books) rule ≡ true

    told_is : (b : Book) → KeepsBook b tables → All IsServed (rules_for (purpose_of b)) → told books b ≡ key_faults (rules_for (purpose_of b)) tables
    told_is (Primary book) kept served = kept.faults ∙ sym (append-nil (duplicate_faults book.table book.columns (tables book.table)))
    told_is (Referenced book) kept served = refl
    told_is (Referring book) kept served = refl
    told_is (Recording book) kept served = refl
    told_is (Foreign foreign) kept served =
        reference_told foreign books keeps (All-head IsServed _ [] served) ∙ sym (append-nil (faults foreign))

    pub all_told_are : (bs : List Book) → All (λ b. KeepsBook b tables) bs → All IsServed (rules_in bs)
        → flat_map (told books) bs ≡ key_faults (rules_in bs) tables
    all_told_are [] kept served = refl
    all_told_are (b ∷ bs) kept served =
        let own = rules_for (purpose_of b) in
        ap (λ fs. fs ++ flat_map (told books) bs)
        (told_is b (All-head (λ x. KeepsBook x tables) b bs kept) (front IsServed own (rules_in bs) served))
        ∙ ap (λ fs. key_faults own tables ++ fs)
        (all_told_are bs (All-tail (λ x. KeepsBook x tables) b bs kept) (back IsServed own (rules_in bs) served))
        ∙ sym (flat_map-append (rule_faults tables) own (rules_in bs))

  pub first_told_is : (n : ℕ) (bs : List Book) → All (λ b. KeepsBook b tables) bs → first_told n bs ≡ duplicates_of n tables (rules_in bs)
  first_told_is n [] keeps = refl
  first_told_is n (Primary book ∷ bs) keeps =
      let first : KeepsBook (Primary book) tables = All-head (λ x. KeepsBook x tables) (Primary book) bs keeps in
      let rest = All-tail (λ x. KeepsBook x tables) (Primary book) bs keeps in
      ap (λ fs. if nat_eq book.table n then fs else first_told n bs) first.faults
      ∙ ap (λ fs. if nat_eq book.table n then duplicate_faults book.table book.columns (tables book.table) else fs) (first_told_is n bs rest)
  first_told_is n (Referenced book ∷ bs) keeps = first_told_is n bs (All-tail (λ x. KeepsBook x tables) (Referenced book) bs keeps)
  first_told_is n (Referring book ∷ bs) keeps = first_told_is n bs (All-tail (λ x. KeepsBook x tables) (Referring book) bs keeps)
  first_told_is n (Foreign foreign ∷ bs) keeps = first_told_is n bs (All-tail (λ x. KeepsBook x tables) (Foreign foreign) bs keeps)
  first_told_is n (Recording book ∷ bs) keeps = first_told_is n bs (All-tail (λ x. KeepsBook x tables) (Recording book) bs keeps)
