-- A set of names is as large as its list exactly if no two names are equal.
use Rattle.std.proofs.Common.{◌≡◌, ◌∙◌, ℕ, List, length, sym, subst, arith, Bool}
use Rattle.std.specs.Prelude.{IsTrue, ◌↔◌, nat_eq}
use Rattle.std.specs.Bool.{Decides}
use Rattle.std.specs.Ordering.{nat_cmp, eq_by_cmp}
use Rattle.std.specs.Cmp.Lexicographic.{slice_cmp}
use Rattle.std.specs.BTreeSet.{BTreeSet, IsFromIterResult, btree_set_len}
use Rattle.std.specs.Set.{distinct_count}
use Rattle.std.proofs.lemmas.Cmp.{nat_list_cmp_total, eq_by_cmp_equiv}
use Rattle.std.proofs.lemmas.Map.Text.{is_eq-slice_cmp}
use Rattle.std.proofs.lemmas.Map.Views.{btree_set_len-from_list}
use Rattle.std.proofs.lemmas.Map.Made.{IsDistinct-from_count, distinct_count-from_IsDistinct, AllPairs-from_IsDistinct, IsDistinct-from_AllPairs}
use Rattle.std.proofs.lemmas.Slice.Eq.{bytes_eq-Decides}
use Rattle.csvw_columns.specs.Distinct.{AllDistinct}

same : (a b : List ℕ) → Decides (eq_by_cmp (slice_cmp nat_cmp) a b) (a ≡ b)
same a b = let P : Bool → Type 0 = λ t. Decides t (a ≡ b) in subst P (sym (is_eq-slice_cmp a b)) (bytes_eq-Decides a b)

counted : (names : List (List ℕ)) (set : BTreeSet (List ℕ)) → IsFromIterResult (slice_cmp nat_cmp) names set
    → btree_set_len set ≡ distinct_count (eq_by_cmp (slice_cmp nat_cmp)) names
counted names set made = btree_set_len-from_list nat_list_cmp_total names set made

apart : (names : List (List ℕ)) (set : BTreeSet (List ℕ)) → IsFromIterResult (slice_cmp nat_cmp) names set
    → btree_set_len set ≡ length names → AllDistinct names
apart names set made e =
    AllPairs-from_IsDistinct same names (IsDistinct-from_count (eq_by_cmp_equiv nat_list_cmp_total) names (sym (counted names set made) ∙ e))

full : (names : List (List ℕ)) (set : BTreeSet (List ℕ)) → IsFromIterResult (slice_cmp nat_cmp) names set → AllDistinct names → btree_set_len set ≡ length names
full names set made distinct =
    counted names set made ∙ distinct_count-from_IsDistinct (eq_by_cmp_equiv nat_list_cmp_total) names (IsDistinct-from_AllPairs same names distinct)

pub tells : (names : List (List ℕ)) (set : BTreeSet (List ℕ)) (size count : ℕ) → IsFromIterResult (slice_cmp nat_cmp) names set
    → size ≡ btree_set_len set → count ≡ length names
    → IsTrue (nat_eq size count) ↔ AllDistinct names
tells names set size count made e f = (
  (λ h. let same_size : size ≡ count = grind (arith, h) in apart names set made (sym e ∙ same_size ∙ f)),
  (λ d. let same_size : size ≡ count = e ∙ full names set made d ∙ sym f in grind (arith, same_size)),
)
