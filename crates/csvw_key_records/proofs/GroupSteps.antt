-- What is known of a key after one record more, and the fault that this record adds.
use Rattle.std.proofs.Common.{◌≡◌, ℕ, zero, suc, ◌<◌, Bool, true, false, ◌&&◌, List, [], ◌∷◌, ◌++◌, refl, sym, ap, ◌∙◌, inl, inr, arith}
use Rattle.std.proofs.Common.{Option, Some, None}
use Rattle.std.specs.Prelude.{nat_eq, nat_lt, if◌then◌else◌}
use Rattle.std.specs.List.{All, count_by}
use Rattle.std.specs.List.Sorted.{IsPermutation}
use Rattle.std.specs.Option.{option_to_list}
use Rattle.std.proofs.lemmas.Bool.Decides.{nat_tests}
use Rattle.std.proofs.lemmas.List.Elements.{All-push, All-weaker}
use Rattle.csvw_fault.specs.declared.fault.Fault.{Fault}
use Rattle.csvw_fault.specs.declared.fault.Place.{Place}
use Rattle.csvw_key_records.specs.declared.group.Group.{Group}
use Rattle.csvw_key_records.specs.declared.record.KeyRecord.{KeyRecord}
use Rattle.csvw_key_records.specs.declared.record.Role.{Role}
use Rattle.csvw_key_records.specs.declared.record.Role.TheVariants.{Unique, Referenced, Refers}
use Rattle.csvw_key_records.specs.Groups.{AreLeast, IsFrom, IsGroup, IsLeast, after, certain, empty_group, has_referenced, has_unique, is_twin, least_after, more, repeats, tally_of}
use Rattle.csvw_key_records.specs.RecordFaults.{is_referenced, is_unique, record_faults, same_key}
use Rattle.csvw_key_records.proofs.Counting.{count_more, count_none, count_same}
use Rattle.csvw_key_records.proofs.Effects.{adds_earlier, adds_first, adds_later, adds_referenced, adds_refers}
use Rattle.csvw_key_records.proofs.SameKeys.{and_true, first_false, same_itself, second_false}

-- of a key that no record has, nothing is known
pub no_group : (r : KeyRecord) (done : List KeyRecord) → All (λ q. same_key r q ≡ false) done → IsGroup empty_group r.rule r.key done
no_group r done none = record {
  tally = sym (ap tally_of (count_none (has_referenced r.rule r.key) done
      (All-weaker (λ q. same_key r q ≡ false) (λ q. has_referenced r.rule r.key q ≡ false) (λ q apart. second_false (is_referenced q.role) (same_key r q) apart) done none)));
  least = All-weaker (λ q. same_key r q ≡ false) (λ q. has_unique r.rule r.key q ≡ false) (λ q apart. second_false (is_unique q.role) (same_key r q) apart) done none;
}

more_is : (n : ℕ) → more (tally_of n) ≡ tally_of (suc n)
more_is zero = refl
more_is (suc zero) = refl
more_is (suc (suc n)) = refl

module _ (done : List KeyRecord) (r : KeyRecord) where
  abbrev with_it : List KeyRecord
  with_it = done ++ r ∷ []

  abbrev is_at : Place → KeyRecord → Bool
  is_at least q = has_unique r.rule r.key q && nat_eq q.place.row least.row

  tally_stays : (group : Group) → IsGroup group r.rule r.key done → is_referenced r.role ≡ false
      → group.referenced ≡ tally_of (count_by (has_referenced r.rule r.key) with_it)
  tally_stays group is role =
      is.tally ∙ ap tally_of (sym (count_same (has_referenced r.rule r.key) done r (first_false (is_referenced r.role) (same_key r r) role)))

  tally_rises : (group : Group) → IsGroup group r.rule r.key done → is_referenced r.role ≡ true
      → more group.referenced ≡ tally_of (count_by (has_referenced r.rule r.key) with_it)
  tally_rises group is role =
      ap more is.tally ∙ (more_is (count_by (has_referenced r.rule r.key) done)
      ∙ ap tally_of (sym (count_more (has_referenced r.rule r.key) done r (and_true (is_referenced r.role) (same_key r r) role (same_itself r)))))

  -- a record that is of no primary key
  least_stays : (least : Option Place) → AreLeast r.rule r.key done least → is_unique r.role ≡ false → AreLeast r.rule r.key with_it least
  least_stays None none role = All-push (λ q. has_unique r.rule r.key q ≡ false) done r none (first_false (is_unique r.role) (same_key r r) role)
  least_stays (Some least) is role =
      let apart : has_unique r.rule r.key r ≡ false = first_false (is_unique r.role) (same_key r r) role in record {
        others = All-push (λ q. has_unique r.rule r.key q ≡ true → IsFrom least q.place) done r is.others (λ has. cc);
        once = count_same (is_at least) done r (first_false (has_unique r.rule r.key r) (nat_eq r.place.row least.row) apart) ∙ is.once;
      }

  -- the new row is the first one
  first_row : All (λ q. has_unique r.rule r.key q ≡ true → r.place.row < q.place.row) done → is_unique r.role ≡ true → IsLeast r.rule r.key with_it r.place
  first_row before role =
      let has : has_unique r.rule r.key r ≡ true = and_true (is_unique r.role) (same_key r r) role (same_itself r) in
      let row : nat_eq r.place.row r.place.row ≡ true = grind (arith, nat_tests) in record {
        others = All-push (λ q. has_unique r.rule r.key q ≡ true → IsFrom r.place q.place) done r
            (All-weaker (λ q. has_unique r.rule r.key q ≡ true → r.place.row < q.place.row) (λ q. has_unique r.rule r.key q ≡ true → IsFrom r.place q.place)
            (λ q less has. inl (less has)) done before) (λ is. inr refl);
        once = count_more (is_at r.place) done r (and_true (has_unique r.rule r.key r) (nat_eq r.place.row r.place.row) has row)
            ∙ ap suc (count_none (is_at r.place) done
            (All-weaker (λ q. has_unique r.rule r.key q ≡ true → r.place.row < q.place.row) (λ q. is_at r.place q ≡ false) (λ q less. apart q less) done before));
      }
    where
      apart : (q : KeyRecord) → (has_unique r.rule r.key q ≡ true → r.place.row < q.place.row) → is_at r.place q ≡ false
      apart q less = of (has_unique r.rule r.key q) refl
        where
          of : (b : Bool) → has_unique r.rule r.key q ≡ b → is_at r.place q ≡ false
          of true has =
              let lt = less has in
              second_false (has_unique r.rule r.key q) (nat_eq q.place.row r.place.row) (grind (arith, nat_tests))
          of false has = first_false (has_unique r.rule r.key q) (nat_eq q.place.row r.place.row) has

  -- the new row is after the first one
  later_row : (least : Place) → IsLeast r.rule r.key done least → least.row < r.place.row → IsLeast r.rule r.key with_it least
  later_row least is less =
      let row : nat_eq r.place.row least.row ≡ false = grind (arith, nat_tests) in record {
        others = All-push (λ q. has_unique r.rule r.key q ≡ true → IsFrom least q.place) done r is.others (λ has. inl less);
        once = count_same (is_at least) done r (second_false (has_unique r.rule r.key r) (nat_eq r.place.row least.row) row) ∙ is.once;
      }

  -- of the first row so far and the new one, one is the first
  least_rises : (least : Option Place) → AreLeast r.rule r.key done least → is_unique r.role ≡ true → is_twin least r.place ≡ false
      → IsLeast r.rule r.key with_it (least_after least r.place)
  least_rises None none role apart =
      first_row (All-weaker (λ q. has_unique r.rule r.key q ≡ false) (λ q. has_unique r.rule r.key q ≡ true → r.place.row < q.place.row)
      (λ q fails has. absurd (let contra : true ≡ false = sym has ∙ fails in cc)) done none) role
  least_rises (Some least) is role apart = of (nat_lt r.place.row least.row) refl
    where
      row : (q : KeyRecord) → r.place.row < least.row → IsFrom least q.place → r.place.row < q.place.row
      row q less (inl after) = omega arith
      row q less (inr place) = let same = ap (λ p. p.row) place in omega arith

      of : (b : Bool) → nat_lt r.place.row least.row ≡ b → IsLeast r.rule r.key with_it (if b then r.place else least)
      of true less =
          let before : r.place.row < least.row = grind (arith, nat_tests) in
          first_row (All-weaker (λ q. has_unique r.rule r.key q ≡ true → IsFrom least q.place) (λ q. has_unique r.rule r.key q ≡ true → r.place.row < q.place.row)
          (λ q from has. row q before (from has)) done is.others) role
      of false less = later_row least is (grind (arith, nat_tests))

  -- the group after the record
  pub group_after : (group : Group) → IsGroup group r.rule r.key done → repeats group r.role r.place ≡ false
      → IsGroup (after group r.role r.place) r.rule r.key with_it
  group_after group is apart = of r.role refl apart
    where
      of : (role : Role) → r.role ≡ role → repeats group role r.place ≡ false → IsGroup (after group role r.place) r.rule r.key with_it
      of Unique role twin = record {
        tally = tally_stays group is (ap is_referenced role);
        least = least_rises group.least is.least (ap is_unique role) twin;
      }
      of Referenced role twin = record {
        tally = tally_rises group is (ap is_referenced role);
        least = least_stays group.least is.least (ap is_unique role);
      }
      of Refers role twin = record {
        tally = tally_stays group is (ap is_referenced role);
        least = least_stays group.least is.least (ap is_unique role);
      }

  -- the faults after the record
  pub faults_after : (group : Group) (faults : List Fault) → IsGroup group r.rule r.key done → repeats group r.role r.place ≡ false
      → (r.role ≡ Referenced → All (λ q. q.role ≡ Refers → same_key q r ≡ false) done) → IsPermutation (record_faults done) faults
      → IsPermutation (record_faults with_it) (faults ++ option_to_list (certain group r.role r.place))
  faults_after group faults is apart before known = of r.role refl apart
    where
      unique : (least : Option Place) → group.least ≡ least → AreLeast r.rule r.key done least → is_twin least r.place ≡ false → r.role ≡ Unique
          → IsPermutation (record_faults with_it) (faults ++ option_to_list (certain group r.role r.place))
      unique None known_least none twin role = adds_first done r group faults role known_least none known
      unique (Some least) known_least first twin role = order (nat_lt r.place.row least.row) refl
        where
          order : (b : Bool) → nat_lt r.place.row least.row ≡ b
              → IsPermutation (record_faults with_it) (faults ++ option_to_list (certain group r.role r.place))
          order true less = adds_earlier done r group least faults role known_least first (grind (arith, nat_tests)) known
          order false less = adds_later done r group least faults role known_least first (grind (arith, nat_tests)) known

      of : (role : Role) → r.role ≡ role → repeats group role r.place ≡ false
          → IsPermutation (record_faults with_it) (faults ++ option_to_list (certain group r.role r.place))
      of Unique role twin = unique group.least refl is.least twin role
      of Referenced role twin = adds_referenced done r group faults role (before role) known
      of Refers role twin = adds_refers done r group faults role is.tally known
