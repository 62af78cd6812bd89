-- The source numbers of the rows of a file ascend.
use Rattle.std.proofs.Common.{◌≡◌, ◌+◌, ◌<◌, ◌≤◌, ℕ, zero, suc, List, [], ◌∷◌, ◌&&◌, Bool, true, false, Option, Some, None, refl, sym, ap, subst}
use Rattle.std.proofs.Common.{All, arith, drop, map, if◌then◌else◌}
use Rattle.std.specs.List.{cons_option, enumerate_from, list_all}
use Rattle.std.proofs.lemmas.List.Elements.{All-cons, All-head, All-nil, All-tail, All-weaker}
use Rattle.csvw_annotate.specs.declared.row.Row.{Row}
use Rattle.csvw_records.specs.declared.dialect.Dialect.{Dialect}
use Rattle.csvw_records.specs.Files.{Row as FileRow, Body, given, is_empty, remaining, remaining_fields}
use Rattle.csvw_records.specs.RowValue.{Given}
use Rattle.csvw_row_keys.specs.RecordLaws.{Ascends}

abbrev Ascending : List ℕ → Type 0
Ascending [] = Unit {0}
Ascending (n ∷ ns) = All (λ m. n < m) ns × Ascending ns

abbrev Fields : Type 0
Fields = List (List ℕ)

abbrev sources : List (ℕ × Fields) → List ℕ
sources rows = map (λ r. r.0) rows

-- numbers ascend, from this one on
abbrev From : ℕ → List (ℕ × Fields) → Type 0
From n rows = All (λ m. n ≤ m) (sources rows) × Ascending (sources rows)

module _ (n : ℕ) (rest : List (ℕ × Fields)) (after : From (n + 1) rest) where
  without : From n rest
  without = (All-weaker (λ m. n + 1 ≤ m) (λ m. n ≤ m) (λ m le. omega (arith, le)) (sources rest) after.0, after.1)

  with : (fields : Fields) → From n ((n, fields) ∷ rest)
  with fields = (
    All-cons (λ m. n ≤ m) n (sources rest) (omega arith) without.0,
    (All-weaker (λ m. n + 1 ≤ m) (λ m. n < m) (λ m le. omega (arith, le)) (sources rest) after.0, after.1),
  )

abbrev consed : Option (ℕ × Fields) → List (ℕ × Fields) → List (ℕ × Fields)
consed None rows = rows
consed (Some row) rows = row ∷ rows

module _ (d : Dialect) where
  by_test : (n : ℕ) (rest : List (ℕ × Fields)) → From (n + 1) rest → (fields : Fields) (blank : Bool)
      → From n (consed (if blank then None else Some (n, fields)) rest)
  by_test n rest after fields true = without n rest after
  by_test n rest after fields false = with n rest after fields

  by_fields : (n : ℕ) (rest : List (ℕ × Fields)) → From (n + 1) rest → (fields : Option Fields) → From n (consed (remaining_fields d n fields) rest)
  by_fields n rest after None = without n rest after
  by_fields n rest after (Some fields) = by_test n rest after fields (d.skip_blank_rows && list_all is_empty fields)

  same_cons : (o : Option (ℕ × Fields)) (rest : List (ℕ × Fields)) → consed o rest ≡ cons_option o rest
  same_cons None rest = refl
  same_cons (Some row) rest = refl

  from : (n : ℕ) (rows : List FileRow) → From n (remaining d n rows)
  from n [] = (All-nil (λ m. n ≤ m), tt)
  from n (row ∷ rows) =
      let rest = remaining d (n + 1) rows in
      subst (From n) (same_cons (remaining_fields d n row.fields) rest) (by_fields n rest (from (n + 1) rows) row.fields)

  same_sources : (place : ℕ) (rows : List (ℕ × Fields)) → sources rows ≡ map (λ raw. raw.source) (map (given d) (enumerate_from place rows))
  same_sources place [] = refl
  same_sources place (row ∷ rows) = ap (λ ns. row.0 ∷ ns) (same_sources (place + 1) rows)

later : (n : ℕ) (raws : List Given) → Ascending (map (λ raw. raw.source) raws) → Ascending (map (λ raw. raw.source) (drop n raws))
later zero raws ascending = ascending
later (suc n) [] ascending = tt
later (suc n) (raw ∷ raws) ascending = later n raws ascending.1

all_rows : (n : ℕ) (rows : List Row) → All (λ m. n < m) (map (λ row. row.source) rows) → All (λ row. n < row.source) rows
all_rows n [] all = All-nil (λ (row : Row). n < row.source)
all_rows n (row ∷ rows) all =
    let after = λ (m : ℕ). n < m in
    All-cons (λ (row : Row). n < row.source) row rows (All-head after row.source (map (λ (r : Row). r.source) rows) all)
    (all_rows n rows (All-tail after row.source (map (λ (r : Row). r.source) rows) all))

ascends : (rows : List Row) → Ascending (map (λ row. row.source) rows) → Ascends rows
ascends [] ascending = tt
ascends (row ∷ rows) ascending = (all_rows row.source rows ascending.0, ascends rows ascending.1)

pub rows_ascend : (d : Dialect) (file : List FileRow) (headers : ℕ) (rows : List Row)
    → map (λ row. row.source) rows ≡ map (λ raw. raw.source) (drop headers (Body d file)) → Ascends rows
rows_ascend d file headers rows same =
    let body : Ascending (map (λ raw. raw.source) (Body d file)) = subst Ascending (same_sources d 0 (remaining d 1 file)) (from d 1 file).1 in
    ascends rows (subst Ascending (sym same) (later headers (Body d file) body))
