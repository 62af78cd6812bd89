-- Equal tables have equal faults, whatever the order in which their rows came.
use Rattle.std.proofs.Common.{◌≡◌, ℕ, List, [], ◌∷◌, ◌++◌, Bool, true, false, refl, sym, ap, ◌∙◌, subst, if◌then◌else◌}
use Rattle.std.specs.List.Sorted.{IsPermutation}
use Rattle.csvw_annotate.specs.declared.row.Row.{Row}
use Rattle.csvw_keys.specs.KeyRules.{KeyRule, Unique, Refers, Recorded, AreKeyFaults, key_faults, rule_faults}
use Rattle.csvw_keys.specs.Duplicates.{duplicate_faults}
use Rattle.csvw_keys.specs.References.{reference_faults}
use Rattle.csvw_report.specs.ReportLaws.{SortsToOne}
use Rattle.csvw_fault.specs.declared.fault.Fault.{Fault}

module _ (tables others : ℕ → List Row) (equal : (n : ℕ) → tables n ≡ others n) where
  equal_rule : (rule : KeyRule) → rule_faults tables rule ≡ rule_faults others rule
  equal_rule (Unique table columns) = ap (duplicate_faults table columns) (equal table)
  equal_rule (Refers table columns referenced_table referenced) =
      ap (λ rows. reference_faults table columns rows referenced (tables referenced_table)) (equal table)
      ∙ ap (λ rows. reference_faults table columns (others table) referenced rows) (equal referenced_table)
  equal_rule (Recorded table columns) = refl

  equal_faults : (rules : List KeyRule) → key_faults rules tables ≡ key_faults rules others
  equal_faults [] = refl
  equal_faults (rule ∷ rules) =
      ap (λ fs. fs ++ key_faults rules tables) (equal_rule rule) ∙ ap (λ fs. rule_faults others rule ++ fs) (equal_faults rules)

  pub one_list : SortsToOne → (rules : List KeyRule) (first second : List Fault) → AreKeyFaults rules tables first
      → AreKeyFaults rules others second → first ≡ second
  one_list sorts rules first second a b =
      sorts (key_faults rules tables) first second a.same a.sorted
      (subst (λ fs. IsPermutation fs second) (sym (equal_faults rules)) b.same) b.sorted

pub either_order : (p q : Bool) (rows : List Row) (r s : Row) → (p ≡ true → q ≡ true → ⊥)
    → (if q then (if p then rows ++ r ∷ [] else rows) ++ s ∷ [] else (if p then rows ++ r ∷ [] else rows))
    ≡ (if p then (if q then rows ++ s ∷ [] else rows) ++ r ∷ [] else (if q then rows ++ s ∷ [] else rows))
either_order true true rows r s apart = absurd (apart refl refl)
either_order true false rows r s apart = refl
either_order false true rows r s apart = refl
either_order false false rows r s apart = refl
