-- The rows of all parts are those of the tables, whose source numbers ascend, so the joined records have the faults of their keys.
use Rattle.std.proofs.Common.{◌≡◌, ◌∙◌, ℕ, zero, suc, ◌+◌, ◌<◌, ◌==◌, ◌&&◌, Bool, true, false, List, [], ◌∷◌, ◌++◌, Option, Some, None, refl, sym, ap, ap₂, subst, arith, inl, inr, append-nil, flat_map, length, map}
use mathlib.Core.Path.{fun_ext}
use Rattle.std.specs.Prelude.{if◌then◌else◌, slice_get}
use Rattle.std.specs.List.{zip}
use Rattle.std.specs.List.Sorted.{IsPermutation}
use Rattle.std.proofs.lemmas.Bool.Decides.{nat_tests}
use Rattle.std.proofs.lemmas.Option.{slice_get_cases, slice_get_within}
use Rattle.std.proofs.lemmas.List.Folds.{flat_map-map}
use Rattle.std.proofs.lemmas.List.Sorted.{IsPermutation-append_right, IsPermutation-trans}
use Rattle.csvw_annotate.specs.declared.row.Row.{Row}
use Rattle.csvw_columns.specs.Numbered.{are_numbered}
use Rattle.csvw_columns.specs.declared.plan.Plan.{Plan}
use Rattle.csvw_columns.specs.declared.plan.TablePlan.{TablePlan}
use Rattle.csvw_columns_core.specs.declared.columns.Columns.{Columns}
use Rattle.csvw_engine_core.specs.Annotated.{AreAnnotated as RowsAreAnnotated, header_count}
use Rattle.csvw_group_laws.specs.Annotated.{AreAnnotated, Table}
use Rattle.csvw_group_laws.specs.Violations.{rows_at, rows_of}
use Rattle.csvw_key_records.specs.RecordFaults.{record_faults}
use Rattle.csvw_key_records.specs.declared.record.KeyRecord.{KeyRecord}
use Rattle.csvw_keys.specs.KeyRules.{key_faults, rules_of}
use Rattle.csvw_records.specs.RowValue.{Given}
use Rattle.csvw_row_keys.specs.RecordLaws.{Ascends, FindsFaultsOfParts, SourcesAscend, all_of}
use Rattle.csvw_row_keys.specs.RowRecords.{records_of}
use Rattle.csvw_join_laws.specs.Joining.{AreCutInto, Planned, TablePiece, pieces_of}
use Rattle.csvw_join_laws.specs.Keys.{KeysJoin, rows_if, rows_in}
use Rattle.csvw_join_laws.proofs.Joins.{by_parts, of_tables, parts_join}

none_if : (b : Bool) → (let none : List Row = [] in if b then none else none) ≡ []
none_if true = refl
none_if false = refl

more_if : (b : Bool) (xs ys : List Row) → (if b then (xs ++ ys) else []) ≡ (if b then xs else []) ++ (if b then ys else [])
more_if true xs ys = refl
more_if false xs ys = refl

abbrev chosen : ℕ → TablePlan → Columns → List Row → List Row
chosen n p c rows = if p.number == n then rows else []

-- the rows of the tables of a number
abbrev rows_numbered : ℕ → List Planned → List Row
rows_numbered n planned = flat_map (λ t. chosen n t.0 t.1.columns t.1.rows) planned

if_true : (b : Bool) (rows : List Row) → b ≡ true → (if b then rows else []) ≡ rows
if_true true rows is = refl
if_true false rows is = cc

if_false : (b : Bool) (rows : List Row) → b ≡ false → (if b then rows else []) ≡ []
if_false true rows is = cc
if_false false rows is = refl

both_true : (a b : Bool) → (a && b) ≡ true → (a ≡ true) × (b ≡ true)
both_true true b is = (refl, is)
both_true false b is = cc

-- no table has a smaller number
none_before : (k n : ℕ) (plans : List TablePlan) (tables : List Table) → are_numbered k plans ≡ true → n < k → rows_numbered n (zip plans tables) ≡ []
none_before k n [] tables numbered less = refl
none_before k n (p ∷ ps) [] numbered less = refl
none_before k n (p ∷ ps) (t ∷ ts) numbered less =
    let both = both_true (p.number == k) (are_numbered (k + 1) ps) numbered in
    let here = both.0 in
    ap₂ (λ a b. a ++ b) (if_false (p.number == n) t.rows (grind (arith, nat_tests))) (none_before (k + 1) n ps ts both.1 (omega arith))

-- the table at a place has the number of that place
table_at : (k n i : ℕ) (plans : List TablePlan) (tables : List Table) → are_numbered k plans ≡ true → length tables ≡ length plans → n ≡ k + i
    → rows_numbered n (zip plans tables) ≡ rows_at (slice_get tables i)
table_at k n i [] [] numbered many at = refl
table_at k n i [] (t ∷ ts) numbered many at = cc
table_at k n i (p ∷ ps) [] numbered many at = cc
table_at k n zero (p ∷ ps) (t ∷ ts) numbered many at =
    let both = both_true (p.number == k) (are_numbered (k + 1) ps) numbered in
    let here = both.0 in
    ap₂ (λ a b. a ++ b) (if_true (p.number == n) t.rows (grind (arith, nat_tests))) (none_before (k + 1) n ps ts both.1 (omega arith)) ∙ append-nil t.rows
table_at k n (suc i) (p ∷ ps) (t ∷ ts) numbered many at =
    let both = both_true (p.number == k) (are_numbered (k + 1) ps) numbered in
    let here = both.0 in
    ap₂ (λ a b. a ++ b) (if_false (p.number == n) t.rows (grind (arith, nat_tests)))
    (table_at (k + 1) n i ps ts both.1 (omega (arith, many)) (omega (arith, at)))

numbered_rows : (plans : List TablePlan) (tables : List Table) → are_numbered 1 plans ≡ true → length tables ≡ length plans → (n : ℕ)
    → rows_numbered n (zip plans tables) ≡ rows_of tables n
numbered_rows plans tables numbered many zero = none_before 1 zero plans tables numbered (omega arith)
numbered_rows plans tables numbered many (suc i) = table_at 1 (suc i) i plans tables numbered many (omega arith)

-- the rows of all parts are those of the tables
pub rows_joined : (plan : Plan) (tables : List Table) (parts : List (List TablePiece)) → length tables ≡ length plan.tables
    → AreCutInto (zip plan.tables tables) (pieces_of parts) → (n : ℕ) → all_of (map rows_in parts) n ≡ rows_of tables n
rows_joined plan tables parts many cut n =
    flat_map-map (λ (part : ℕ → List Row). part n) rows_in parts ∙ by_parts (rows_if n) parts
    ∙ of_tables (chosen n) (λ p c. none_if (p.number == n)) (λ p c rows others. more_if (p.number == n) rows others) (zip plan.tables tables)
    (pieces_of parts) cut
    ∙ numbered_rows plan.tables tables plan.numbered many n

same_sources : (columns : Columns) (raws : List Given) (rows : List Row) → RowsAreAnnotated columns raws rows
    → map (λ row. row.source) rows ≡ map (λ raw. raw.source) raws
same_sources columns [] rows are = ap (map (λ row. row.source)) are
same_sources columns (raw ∷ raws) rows (row, rest, all, is, more) =
    ap (map (λ r. r.source)) all ∙ ap₂ (λ a b. a ∷ b) is.source (same_sources columns raws rest more)

module _ (ascend : SourcesAscend) (find_faults : FindsFaultsOfParts) where
  rows_ascend : (plan : Plan) (texts : ℕ → List ℕ) (tables : List Table) → AreAnnotated plan.tables texts tables → (i : ℕ) (found : Option Table)
      → slice_get tables i ≡ found → Ascends (rows_at found)
  rows_ascend plan texts tables are i None is = tt
  rows_ascend plan texts tables are i (Some table) is =
      let within = slice_get_within tables i table is in
      let many = are.many in
      elim (slice_get_cases plan.tables i).1 [
        | inl planned ↦
            let one = are.each i planned.0 table planned.2 is in
            ascend planned.0.dialect one.file (header_count planned.0) table.rows (same_sources table.columns _ table.rows one.whole.has)
        | inr past ↦ absurd (omega (arith, within, many, past))
      ]

  all_ascend : (plan : Plan) (texts : ℕ → List ℕ) (tables : List Table) → AreAnnotated plan.tables texts tables → (n : ℕ) → Ascends (rows_of tables n)
  all_ascend plan texts tables are zero = tt
  all_ascend plan texts tables are (suc i) = rows_ascend plan texts tables are i (slice_get tables i) refl

  pub keys_join : KeysJoin
  keys_join plan texts tables parts records faults are cut found =
      let joined = parts_join plan tables parts cut in
      let each = rows_joined plan tables parts are.many cut in
      let all : all_of (map rows_in parts) ≡ rows_of tables = fun_ext each in
      let rules = rules_of plan in
      let same = flat_map-map (records_of rules) rows_in parts in
      let by_records = find_faults rules (map rows_in parts) records (λ n. subst Ascends (sym (each n)) (all_ascend plan texts tables are n))
      (subst (λ (l : List KeyRecord). IsPermutation l records) (sym same) found.recorded) in
      let keys = subst (λ (t : ℕ → List Row). IsPermutation (key_faults rules t) (record_faults records)) all by_records in
      IsPermutation-trans _ _ _ joined.faults (IsPermutation-trans _ _ _ (IsPermutation-append_right _ _ _ keys) found.joined)
