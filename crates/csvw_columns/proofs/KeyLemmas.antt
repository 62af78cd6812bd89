-- The numbers of names and tables are small.
use Rattle.std.proofs.Common.{◌≡◌, ◌≤◌, ℕ, ◌+◌, suc, List, [], ◌∷◌, length, refl, sym, ap, subst, arith, Bool, true, false, cond, inl, inr}
use Rattle.std.specs.Prelude.{Option, Some, None, All, bytes_eq}
use Rattle.std.specs.List.{position_from}
use Rattle.std.proofs.lemmas.Bool.{cases_lt}
use Rattle.std.proofs.lemmas.List.{get_or_past}
use Rattle.csvw_description.specs.declared.column.ColumnDescription.{ColumnDescription}
use Rattle.csvw_description.specs.Plannable.{column_limit}
use Rattle.csvw_description.specs.Name.{numbered_names}
use Rattle.csvw_columns.specs.Keys.{place_of, number_at, names_at}

found_from : (test : List ℕ → Bool) (i : ℕ) (texts : List (List ℕ)) → number_at (position_from test i texts) ≤ i + length texts
found_from test i [] = omega arith
found_from test i (t ∷ ts) =
    let later = found_from test (i + 1) ts in
    elim (test t) as (λ b. number_at (cond b (Some i) (position_from test (i + 1) ts)) ≤ i + length (t ∷ ts)) [
      | true ↦ omega arith
      | false ↦ omega (arith, later)
    ]

pub number_within : (texts : List (List ℕ)) (text : List ℕ) → number_at (place_of texts text) ≤ length texts
number_within texts text = omega (arith, found_from (λ t. bytes_eq t text) 0 texts)

pub names_within : (names : List (List (List ℕ))) (place : Option ℕ) → All (λ ns. length ns ≤ column_limit) names → length (names_at names place) ≤ column_limit
names_within names None all = omega arith
names_within names (Some i) all =
    let P : List (List ℕ) → Type 0 = λ ns. length ns ≤ column_limit in
    elim (cases_lt i (length names)) [ inl h ↦ all i [] h | inr h ↦ subst P (sym (get_or_past names i [] h)) (omega arith) ]

pub length_numbered : (i : ℕ) (cs : List ColumnDescription) → length (numbered_names i cs) ≡ length cs
length_numbered i [] = refl
length_numbered i (c ∷ cs) = ap (λ n. suc n) (length_numbered (i + 1) cs)

pub ruleset within = (number_within, names_within)
