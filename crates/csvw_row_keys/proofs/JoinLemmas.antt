-- The records of rows in parts are those of all rows, in another order.
use Rattle.std.proofs.Common.{◌≡◌, ◌∙◌, ℕ, suc, List, [], ◌∷◌, ◌++◌, refl, sym, ap, subst, append_assoc, flat_map, map}
use Rattle.std.specs.List.Sorted.{IsPermutation}
use Rattle.std.proofs.lemmas.Grind.{flat_map-append}
use Rattle.std.proofs.lemmas.List.{map-append}
use Rattle.std.proofs.lemmas.List.Sorted.{IsPermutation-append_comm, IsPermutation-append_left, IsPermutation-append_right, IsPermutation-refl, IsPermutation-trans}
use Rattle.csvw_annotate.specs.declared.row.Row.{Row}
use Rattle.csvw_key_records.specs.declared.record.Role.TheVariants as role
use Rattle.csvw_keys.specs.KeyRules.{KeyRule, Unique, Refers, Recorded}
use Rattle.csvw_row_keys.specs.RecordLaws.{all_of}
use Rattle.csvw_row_keys.specs.RowRecords.{record_of, records_from, refers_records, rule_records}

same : {X : Type 0} (xs ys : List X) → xs ≡ ys → IsPermutation xs ys
same xs ys e = subst (IsPermutation xs) e (IsPermutation-refl xs)

both : {X : Type 0} (ps qs rs ss : List X) → IsPermutation ps qs → IsPermutation rs ss → IsPermutation (ps ++ rs) (qs ++ ss)
both ps qs rs ss a b = IsPermutation-trans _ _ _ (IsPermutation-append_left rs ps qs a) (IsPermutation-append_right qs rs ss b)

-- the second and the third of four lists change places
middle : {X : Type 0} (ps qs rs ss : List X) → IsPermutation ((ps ++ qs) ++ (rs ++ ss)) ((ps ++ rs) ++ (qs ++ ss))
middle ps qs rs ss =
    let swapped = IsPermutation-append_left ss (qs ++ rs) (rs ++ qs) (IsPermutation-append_comm qs rs) in
    let there = append_assoc ps qs (rs ++ ss) ∙ ap (λ l. ps ++ l) (sym (append_assoc qs rs ss)) in
    let back = ap (λ l. ps ++ l) (append_assoc rs qs ss) ∙ sym (append_assoc ps rs (qs ++ ss)) in
    subst (λ l. IsPermutation l ((ps ++ rs) ++ (qs ++ ss))) (sym there)
    (subst (IsPermutation (ps ++ ((qs ++ rs) ++ ss))) back (IsPermutation-append_right ps _ _ swapped))

module _ (a b : ℕ → List Row) where
  abbrev joined : ℕ → List Row
  joined n = a n ++ b n

  rule_joined : (n : ℕ) (rule : KeyRule) → IsPermutation (rule_records joined n rule) (rule_records a n rule ++ rule_records b n rule)
  rule_joined n (Unique table columns) = same _ _ (map-append (record_of n role.Unique table columns) (a table) (b table))
  rule_joined n (Refers table columns other others) =
      let referenced = record_of n role.Referenced other others in
      let refers = refers_records n table columns in
      IsPermutation-trans _ _ _
      (same _ _ (ap (λ l. l ++ flat_map refers (joined table)) (map-append referenced (a other) (b other))
      ∙ ap (λ l. (map referenced (a other) ++ map referenced (b other)) ++ l) (flat_map-append refers (a table) (b table))))
      (middle (map referenced (a other)) (map referenced (b other)) (flat_map refers (a table)) (flat_map refers (b table)))
  rule_joined n (Recorded table columns) = IsPermutation-refl []

  two_parts : (n : ℕ) (rules : List KeyRule) → IsPermutation (records_from joined n rules) (records_from a n rules ++ records_from b n rules)
  two_parts n [] = IsPermutation-refl []
  two_parts n (rule ∷ rules) =
      IsPermutation-trans _ _ _
      (both _ _ _ _ (rule_joined n rule) (two_parts (suc n) rules))
      (middle (rule_records a n rule) (rule_records b n rule) (records_from a (suc n) rules) (records_from b (suc n) rules))

abbrev none : ℕ → List Row
none n = []

no_records : (n : ℕ) (rules : List KeyRule) → records_from none n rules ≡ []
no_records n [] = refl
no_records n (Unique table columns ∷ rules) = no_records (suc n) rules
no_records n (Refers table columns other others ∷ rules) = no_records (suc n) rules
no_records n (Recorded table columns ∷ rules) = no_records (suc n) rules

pub all_parts : (n : ℕ) (rules : List KeyRule) (parts : List (ℕ → List Row))
    → IsPermutation (records_from (all_of parts) n rules) (flat_map (λ part. records_from part n rules) parts)
all_parts n rules [] = same _ _ (no_records n rules)
all_parts n rules (part ∷ parts) =
    IsPermutation-trans _ _ _ (two_parts part (all_of parts) n rules)
    (IsPermutation-append_right (records_from part n rules) _ _ (all_parts n rules parts))
