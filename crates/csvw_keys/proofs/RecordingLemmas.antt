-- The keys among rules, and what is recorded for them.
use Rattle.std.proofs.Common.{◌≡◌, ℕ, List, [], ◌∷◌, ◌++◌, ◌||◌, ◌&&◌, Bool, true, false, Option, Some, None, refl, sym, ap, ◌∙◌, subst}
use Rattle.std.proofs.Common.{All, MatchOption, flat_map, get_or, is_some, length, map, nat_eq, arith, bytes_eq, take, if◌then◌else◌, ◌+◌, ◌<◌, ◌==◌}
use Rattle.std.specs.Cmp.Lexicographic.{bytes_decides}
use Rattle.std.specs.List.{list_any}
use Rattle.std.proofs.lemmas.Bool.{and_parts, eqb-true, false≢true}
use Rattle.std.proofs.lemmas.Grind.{flat_map-append}
use Rattle.std.proofs.lemmas.List.{map-append}
use Rattle.std.proofs.lemmas.List.Elements.{All-cons, All-head, All-nil, All-tail}
use Rattle.std.proofs.lemmas.List.Folds.{flat_map-map}
use Rattle.csvw_annotate.specs.declared.row.Row.{Row}
use Rattle.csvw_columns.specs.declared.plan.ForeignKeyPlan.{ForeignKeyPlan}
use Rattle.csvw_columns.specs.declared.plan.TablePlan.{TablePlan}
use Rattle.csvw_keys.specs.declared.book.Book.{Book}
use Rattle.csvw_keys.specs.declared.key.KeyCell.{KeyCell}
use Rattle.csvw_keys.specs.declared.recording.KeyedRow.{KeyedRow}
use Rattle.csvw_keys.specs.Books.{KeepsBook, Purpose, book_records, is_served, purposes_of, records_in, recorded_in}
use Rattle.csvw_keys.specs.Duplicates.{duplicate_faults}
use Rattle.csvw_keys.specs.KeyRules.{KeyRule, Unique, Refers, Recorded, duplicates_of, is_recorded, key_faults, key_in, keys_in}
use Rattle.csvw_keys.specs.KeyRules.{primary_rules, recorded_for, recorded_rules, reference_rule, rule_faults, table_rules}
use Rattle.csvw_keys.specs.RecordingBooks.{keyed_row, keyed_rows}
use Rattle.csvw_keys.proofs.BookLemmas.{recorded_is}
use Rattle.csvw_keys.proofs.ReferenceLemmas.{one_row_more}
use Rattle.csvw_keys.proofs.ServingLemmas.{found_in, some_in}

-- ---- the faults of rules are those of the keys among them

module _ (tables : ℕ → List Row) where
  pub same_faults : (rules : List KeyRule) → key_faults (keys_in rules) tables ≡ key_faults rules tables
  same_faults [] = refl
  same_faults (Unique table columns ∷ rules) = ap (λ fs. rule_faults tables (Unique table columns) ++ fs) (same_faults rules)
  same_faults (Refers table columns referenced_table referenced ∷ rules) =
      ap (λ fs. rule_faults tables (Refers table columns referenced_table referenced) ++ fs) (same_faults rules)
  same_faults (Recorded table columns ∷ rules) = same_faults rules

  pub same_duplicates : (n : ℕ) (rules : List KeyRule) → duplicates_of n tables (keys_in rules) ≡ duplicates_of n tables rules
  same_duplicates n [] = refl
  same_duplicates n (Unique table columns ∷ rules) =
      ap (λ fs. if nat_eq table n then duplicate_faults table columns (tables table) else fs) (same_duplicates n rules)
  same_duplicates n (Refers table columns referenced_table referenced ∷ rules) = same_duplicates n rules
  same_duplicates n (Recorded table columns ∷ rules) = same_duplicates n rules

pub all_keys : (P : KeyRule → Type 0) (rules : List KeyRule) → All P rules → All P (keys_in rules)
all_keys P [] all = all
all_keys P (Unique table columns ∷ rules) all =
    let rule = Unique table columns in
    All-cons P rule (keys_in rules) (All-head P rule rules all) (all_keys P rules (All-tail P rule rules all))
all_keys P (Refers table columns referenced_table referenced ∷ rules) all =
    let rule = Refers table columns referenced_table referenced in
    All-cons P rule (keys_in rules) (All-head P rule rules all) (all_keys P rules (All-tail P rule rules all))
all_keys P (Recorded table columns ∷ rules) all = all_keys P rules (All-tail P (Recorded table columns) rules all)

-- ---- the rules of a plan are keys

primary_keys : (table : ℕ) (columns : List ℕ) → keys_in (primary_rules table columns) ≡ primary_rules table columns
primary_keys table [] = refl
primary_keys table (c ∷ cs) = refl

reference_keys : (table : ℕ) (keys : List ForeignKeyPlan) → keys_in (map (reference_rule table) keys) ≡ map (reference_rule table) keys
reference_keys table [] = refl
reference_keys table (key ∷ keys) = ap (λ rules. reference_rule table key ∷ rules) (reference_keys table keys)

table_keys : (plan : TablePlan) → keys_in (table_rules plan) ≡ table_rules plan
table_keys plan =
    let primary = primary_rules plan.number plan.primary_key in
    let references = map (reference_rule plan.number) plan.foreign_keys in
    flat_map-append key_in primary references
    ∙ ap (λ rules. rules ++ keys_in references) (primary_keys plan.number plan.primary_key)
    ∙ ap (λ rules. primary ++ rules) (reference_keys plan.number plan.foreign_keys)

pub plan_keys : (plans : List TablePlan) → keys_in (flat_map table_rules plans) ≡ flat_map table_rules plans
plan_keys [] = refl
plan_keys (plan ∷ plans) =
    flat_map-append key_in (table_rules plan) (flat_map table_rules plans)
    ∙ ap (λ rules. rules ++ keys_in (flat_map table_rules plans)) (table_keys plan)
    ∙ ap (λ rules. table_rules plan ++ rules) (plan_keys plans)

-- ---- what is recorded is no key

pub no_keys : (rules : List KeyRule) → keys_in (recorded_rules rules) ≡ []
no_keys [] = refl
no_keys (Unique table columns ∷ rules) = no_keys rules
no_keys (Refers table columns referenced_table referenced ∷ rules) = no_keys rules
no_keys (Recorded table columns ∷ rules) = no_keys rules

-- ---- what keys need

module _ (P : KeyRule → Type 0) (table : ℕ) where
  pub no_primary : (columns : List ℕ) → (length columns == 0) ≡ true → All P (recorded_rules (primary_rules table columns))
  no_primary [] e = All-nil P
  no_primary (c ∷ cs) e = let h = eqb-true (length (c ∷ cs)) 0 e in absurd (omega (arith, h))

  pub primary_recorded : (columns : List ℕ) → P (Recorded table columns) → All P (recorded_rules (primary_rules table columns))
  primary_recorded [] p = All-nil P
  primary_recorded (c ∷ cs) p = All-cons P (Recorded table (c ∷ cs)) [] p (All-nil P)

pub one_key_recorded : {X : Type 0} (rule : X → KeyRule) (keys : List X) (i : ℕ) (key : X) → i < length keys → key ≡ get_or keys i key
    → recorded_rules (map rule (take (i + 1) keys)) ≡ recorded_rules (map rule (take i keys)) ++ recorded_for (rule key)
one_key_recorded rule keys i key lt is =
    flat_map-map recorded_for rule (take (i + 1) keys)
    ∙ one_row_more (λ k. recorded_for (rule k)) keys i key lt is
    ∙ ap (λ rules. rules ++ recorded_for (rule key)) (sym (flat_map-map recorded_for rule (take i keys)))

-- ---- the rows that are recorded

module _ (purposes : List Purpose) (table : ℕ) (columns : List ℕ) where
  abbrev IsServed : KeyRule → Type 0
  IsServed rule = is_served purposes rule ≡ true

  by_place : (t : ℕ) (cs : List ℕ) (test : Bool) → (nat_eq t table && bytes_eq cs columns) ≡ test → IsServed (Recorded t cs) → (rest : Bool)
      → (rest ≡ true → list_any (records_in table columns) purposes ≡ true) → (test || rest) ≡ true
      → list_any (records_in table columns) purposes ≡ true
  by_place t cs true same served rest goes any =
      let parts = and_parts _ _ same in
      subst (λ n. list_any (records_in n columns) purposes ≡ true) (eqb-true t table parts.0)
      (subst (λ ns. list_any (records_in t ns) purposes ≡ true) ((bytes_decides cs columns).0 parts.1) served)
  by_place t cs false same served rest goes any = goes any

  served_records : (rules : List KeyRule) → All IsServed rules → is_recorded table columns rules ≡ true
      → list_any (records_in table columns) purposes ≡ true
  served_records [] all any = absurd (false≢true any)
  served_records (Unique t cs ∷ rules) all any = served_records rules (All-tail IsServed (Unique t cs) rules all) any
  served_records (Refers t cs u ds ∷ rules) all any = served_records rules (All-tail IsServed (Refers t cs u ds) rules all) any
  served_records (Recorded t cs ∷ rules) all any =
      by_place t cs (nat_eq t table && bytes_eq cs columns) refl (All-head IsServed (Recorded t cs) rules all) (is_recorded table columns rules)
      (served_records rules (All-tail IsServed (Recorded t cs) rules all)) any

never : (test : Bool) → (test ≡ true → ⊥) → test ≡ false
never false h = refl
never true h = absurd (h refl)

module _ (books : List Book) (rules : List KeyRule) (table : ℕ) (columns : List ℕ) where
  pub not_recorded : All (λ rule. is_served (purposes_of books) rule ≡ true) rules → recorded_in table columns books ≡ None
      → is_recorded table columns rules ≡ false
  not_recorded served none = never _ (λ any. false≢true (sym (ap is_some none)
      ∙ some_in (records_in table columns) book_records books (served_records (purposes_of books) table columns rules served any)))

some_same : (a b : List KeyedRow) → Some a ≡ Some b → a ≡ b
some_same a b h = cc

pub rows_recorded : (tables : ℕ → List Row) (books : List Book) (table : ℕ) (columns : List ℕ) (rows : List KeyedRow)
    → All (λ b. KeepsBook b tables) books → recorded_in table columns books ≡ Some rows → rows ≡ keyed_rows columns (tables table)
rows_recorded tables books table columns rows keeps is =
    some_same _ _ (sym is ∙ recorded_is tables table columns books keeps (found_in (records_in table columns) book_records books rows is))

pub on_either : {A P R : Type 0} {Q S : A → Type 0} (o : Option A) → MatchOption o P Q → (P → R) → ((a : A) → Q a → S a) → MatchOption o R S
on_either None h none some = none h
on_either (Some a) h none some = some a h

-- ---- one row more

pub one_row_keyed : (columns : List ℕ) (rows : List Row) (row : Row) (so_far : List KeyedRow) → so_far ≡ keyed_rows columns rows
    → so_far ++ keyed_row columns row ∷ [] ≡ keyed_rows columns (rows ++ row ∷ [])
one_row_keyed columns rows row so_far is =
    ap (λ rs. rs ++ keyed_row columns row ∷ []) is ∙ sym (map-append (keyed_row columns) rows (row ∷ []))

pub same_key : (a b : List KeyCell) → Some a ≡ Some b → a ≡ b
same_key a b h = cc
