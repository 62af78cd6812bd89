-- A set of texts with one more text. The set compares a text that is looked up with its own, and the list its own with that text.
use Rattle.std.proofs.Common.{◌≡◌, ◌∙◌, ℕ, ◌+◌, ◌<◌, Bool, true, false, cond, ◌||◌, List, length, take, get_or, refl, ap, sym}
use Rattle.std.proofs.lemmas.List.Folds.{list_any_more}
use Rattle.std.proofs.lemmas.Map.Text.{btree_set_updates_text}
use Rattle.std.specs.BTreeSet.{BTreeSet, UpdatesBy, contains_text}
use Rattle.std.specs.Cmp.Lexicographic.{slice_cmp}
use Rattle.std.specs.List.{list_any}
use Rattle.std.specs.Ordering.{nat_cmp}
use Rattle.std.specs.Str.{bytes_eq}
use Rattle.std.specs.Prelude.{String}
use Rattle.std.specs.String.{string_bytes, string_cmp}
use Rattle.csvw_description.specs.Nulls.{IsSetOf}

either_way : (a b : Bool) → cond a true b ≡ (b || a)
either_way true true = refl
either_way true false = refl
either_way false true = refl
either_way false false = refl

pub one_more : {Y : Type 0} (texts : List (List ℕ)) (i : ℕ) (d bytes : List ℕ) (set more : BTreeSet (String Y)) → i < length texts
    → bytes ≡ get_or texts i d → UpdatesBy string_cmp (λ k. slice_cmp nat_cmp bytes (string_bytes k)) set more true
    → IsSetOf (take i texts) set → IsSetOf (take (i + 1) texts) more
one_more texts i d bytes set more lt same updates so_far = λ text.
    btree_set_updates_text bytes set more true updates text
    ∙ either_way (bytes_eq bytes text) (contains_text set text)
    ∙ ap (λ b. b || bytes_eq bytes text) (so_far text)
    ∙ ap (λ bs. list_any (λ n. bytes_eq n text) (take i texts) || bytes_eq bs text) same
    ∙ sym (list_any_more (λ n. bytes_eq n text) texts i d lt)
