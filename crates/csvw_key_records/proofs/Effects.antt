-- What one record more changes in the faults of the records before it, and its own faults.
use Rattle.std.proofs.Common.{◌≡◌, ℕ, zero, suc, ◌<◌, Bool, true, false, ◌&&◌, List, [], ◌∷◌, ◌++◌, flat_map, refl, ap, ap₂, ◌∙◌, subst, inl, inr, append-nil, arith}
use Rattle.std.proofs.Common.{Option, Some, None}
use Rattle.std.specs.Prelude.{nat_eq, nat_lt, if◌then◌else◌}
use Rattle.std.specs.List.{All, count_by, list_any}
use Rattle.std.specs.List.Sorted.{IsPermutation}
use Rattle.std.specs.Option.{option_to_list}
use Rattle.std.proofs.lemmas.Bool.Decides.{nat_tests}
use Rattle.std.proofs.lemmas.List.Concat.{flat_map-append}
use Rattle.std.proofs.lemmas.List.Elements.{All-weaker}
use Rattle.std.proofs.lemmas.List.Folds.{list_any_none}
use Rattle.std.proofs.lemmas.List.Sorted.{IsPermutation-append_left, IsPermutation-trans}
use Rattle.csvw_fault.specs.declared.fault.Code.TheVariants.{DuplicateKey}
use Rattle.csvw_fault.specs.declared.fault.Fault.{Fault}
use Rattle.csvw_fault.specs.declared.fault.Place.{Place}
use Rattle.csvw_key_records.specs.declared.group.Group.{Group}
use Rattle.csvw_key_records.specs.declared.record.KeyRecord.{KeyRecord}
use Rattle.csvw_key_records.specs.declared.record.Role.{Role}
use Rattle.csvw_key_records.specs.declared.record.Role.TheVariants.{Unique, Referenced, Refers}
use Rattle.csvw_key_records.specs.Groups.{IsFrom, IsLeast, certain, duplicate, fault_by_tally, has_referenced, has_unique, tally_of}
use Rattle.csvw_key_records.specs.RecordFaults.{fault_at, fault_by_count, faults_among, faults_by_role, is_earlier, is_referenced, is_referred, is_unique, record_faults, same_key}
use Rattle.csvw_key_records.proofs.Counting.{any_last, any_of_count, any_same, any_true, any_weaker, copies, count_same, flat_more, flat_same}
use Rattle.csvw_key_records.proofs.SameKeys.{and_true, both, differ_back, first_false, not_both, same_back, same_itself, same_other, second_false}

-- the faults of a record of a primary key, by whether an earlier row has it
abbrev pub by_earlier : Place → Bool → List Fault
by_earlier place b = if b then fault_at DuplicateKey place ∷ [] else []

not_unique : (a b : KeyRecord) → is_unique b.role ≡ false → is_earlier a b ≡ false
not_unique a b is =
    first_false (is_unique b.role && same_key a b) (nat_lt b.place.row a.place.row) (first_false (is_unique b.role) (same_key a b) is)

other_key : (a b : KeyRecord) → same_key a b ≡ false → is_earlier a b ≡ false
other_key a b is =
    first_false (is_unique b.role && same_key a b) (nat_lt b.place.row a.place.row) (second_false (is_unique b.role) (same_key a b) is)

not_less : (a b : KeyRecord) → nat_lt b.place.row a.place.row ≡ false → is_earlier a b ≡ false
not_less a b is = second_false (is_unique b.role && same_key a b) (nat_lt b.place.row a.place.row) is

not_referenced : (a b : KeyRecord) → is_referenced b.role ≡ false → is_referred a b ≡ false
not_referenced a b is = first_false (is_referenced b.role) (same_key a b) is

-- a record of a primary key that has no such key is of another key
key_apart : (r q : KeyRecord) → q.role ≡ Unique → has_unique r.rule r.key q ≡ false → same_key q r ≡ false
key_apart r q role none = differ_back r q (not_both (same_key r q) (λ is.
    let one : has_unique r.rule r.key q ≡ true = and_true (is_unique q.role) (same_key r q) (ap is_unique role) is in cc))

unique_is : (role : Role) → is_unique role ≡ true → role ≡ Unique
unique_is Unique is = refl
unique_is Referenced is = cc
unique_is Refers is = cc

module _ (done : List KeyRecord) (r : KeyRecord) where
  abbrev pub with_it : List KeyRecord
  with_it = done ++ r ∷ []

  same_faults : (q : KeyRecord) → (q.role ≡ Unique → list_any (is_earlier q) with_it ≡ list_any (is_earlier q) done)
      → (q.role ≡ Refers → count_by (is_referred q) with_it ≡ count_by (is_referred q) done) → faults_among with_it q ≡ faults_among done q
  same_faults q unique refers = of q.role refl
    where
      of : (role : Role) → q.role ≡ role → faults_by_role with_it q role ≡ faults_by_role done q role
      of Unique is = ap (by_earlier q.place) (unique is)
      of Referenced is = refl
      of Refers is = ap (fault_by_count q.place) (refers is)

  -- the faults of the records before stay
  adds : (fault : Option Fault) (faults : List Fault) → All (λ q. faults_among with_it q ≡ faults_among done q) done
      → faults_among with_it r ≡ option_to_list fault → IsPermutation (record_faults done) faults
      → IsPermutation (record_faults with_it) (faults ++ option_to_list fault)
  adds fault faults same own known =
      let kept = flat_same (faults_among done) (faults_among with_it) done same in
      let last : faults_among with_it r ++ [] ≡ option_to_list fault = append-nil (faults_among with_it r) ∙ own in
      let all : record_faults with_it ≡ record_faults done ++ option_to_list fault =
      flat_map-append (faults_among with_it) done (r ∷ []) ∙ ap₂ (λ a b. a ++ b) kept last in
      rw all (IsPermutation-append_left (option_to_list fault) (record_faults done) faults known)

  own_is : (role : Role) → r.role ≡ role → faults_among with_it r ≡ faults_by_role with_it r role
  own_is role is = ap (faults_by_role with_it r) is

  -- a row to which others refer, before all that do
  pub adds_referenced : (group : Group) (faults : List Fault) → r.role ≡ Referenced → All (λ q. q.role ≡ Refers → same_key q r ≡ false) done
      → IsPermutation (record_faults done) faults → IsPermutation (record_faults with_it) (faults ++ option_to_list (certain group r.role r.place))
  adds_referenced group faults role before known =
      let none : certain group r.role r.place ≡ None = ap (λ x. certain group x r.place) role in
      rw none (adds None faults (All-weaker (λ q. q.role ≡ Refers → same_key q r ≡ false) (λ q. faults_among with_it q ≡ faults_among done q)
      (λ q apart. same_faults q (λ is. any_same (is_earlier q) done r (not_unique q r (ap is_unique role)))
      (λ is. count_same (is_referred q) done r (second_false (is_referenced r.role) (same_key q r) (apart is)))) done before)
      (own_is Referenced role) known)

  -- a row that refers to others
  pub adds_refers : (group : Group) (faults : List Fault) → r.role ≡ Refers → group.referenced ≡ tally_of (count_by (has_referenced r.rule r.key) done)
      → IsPermutation (record_faults done) faults → IsPermutation (record_faults with_it) (faults ++ option_to_list (certain group r.role r.place))
  adds_refers group faults role tally known =
      let one : certain group r.role r.place ≡ fault_by_tally (tally_of (count_by (has_referenced r.rule r.key) done)) r.place =
      ap (λ x. certain group x r.place) role ∙ ap (λ t. fault_by_tally t r.place) tally in
      rw one (adds (fault_by_tally (tally_of (count_by (has_referenced r.rule r.key) done)) r.place) faults
      (All-weaker (λ q. Unit {0}) (λ q. faults_among with_it q ≡ faults_among done q)
      (λ q u. same_faults q (λ is. any_same (is_earlier q) done r (not_unique q r (ap is_unique role)))
      (λ is. count_same (is_referred q) done r (not_referenced q r (ap is_referenced role)))) done (λ k d below. tt))
      (own_is Refers role ∙ (ap (fault_by_count r.place) (count_same (is_referred r) done r (not_referenced r r (ap is_referenced role)))
      ∙ by_count (count_by (has_referenced r.rule r.key) done))) known)
    where
      by_count : (n : ℕ) → fault_by_count r.place n ≡ option_to_list (fault_by_tally (tally_of n) r.place)
      by_count zero = refl
      by_count (suc zero) = refl
      by_count (suc (suc n)) = refl

  -- the first row with a primary key
  pub adds_first : (group : Group) (faults : List Fault) → r.role ≡ Unique → group.least ≡ None → All (λ q. has_unique r.rule r.key q ≡ false) done
      → IsPermutation (record_faults done) faults → IsPermutation (record_faults with_it) (faults ++ option_to_list (certain group r.role r.place))
  adds_first group faults role least none known =
      let fault : certain group r.role r.place ≡ None = ap (λ x. certain group x r.place) role ∙ ap (λ l. duplicate l r.place) least in
      let alone : list_any (is_earlier r) with_it ≡ false =
      any_same (is_earlier r) done r (not_less r r (grind (arith, nat_tests)))
      ∙ list_any_none (is_earlier r) done (All-weaker (λ q. has_unique r.rule r.key q ≡ false) (λ q. is_earlier r q ≡ false)
      (λ q apart. first_false (has_unique r.rule r.key q) (nat_lt q.place.row r.place.row) apart) done none) in
      rw fault (adds None faults (All-weaker (λ q. has_unique r.rule r.key q ≡ false) (λ q. faults_among with_it q ≡ faults_among done q)
      (λ q apart. same_faults q (λ is. any_same (is_earlier q) done r (other_key q r (key_apart r q is apart)))
      (λ is. count_same (is_referred q) done r (not_referenced q r (ap is_referenced role)))) done none)
      (own_is Unique role ∙ ap (by_earlier r.place) alone) known)

  -- whether the record is of the first row with the primary key
  abbrev is_first : Place → KeyRecord → Bool
  is_first least q = has_unique r.rule r.key q && nat_eq q.place.row least.row

  -- what is known of such a record
  first_has : (least : Place) (x : KeyRecord) → is_first least x ≡ true → (is_unique x.role ≡ true) × (same_key r x ≡ true) × (x.place.row ≡ least.row)
  first_has least x is =
      let parts = both (has_unique r.rule r.key x) (nat_eq x.place.row least.row) is in
      let one = both (is_unique x.role) (same_key r x) parts.0 in
      (one.0, one.1, grind (arith, nat_tests, parts.1))

  -- an earlier row has the primary key, for a row after the first one
  has_earlier : (least : Place) (q : KeyRecord) → IsLeast r.rule r.key done least → same_key r q ≡ true → least.row < q.place.row
      → list_any (is_earlier q) done ≡ true
  has_earlier least q is same after =
      any_weaker (is_first least) (is_earlier q) done (λ x first.
      let has = first_has least x first in
      let row = has.2 in
      let less : nat_lt x.place.row q.place.row ≡ true = grind (arith, nat_tests) in
      and_true (is_unique x.role && same_key q x) (nat_lt x.place.row q.place.row) (and_true (is_unique x.role) (same_key q x) has.0 (same_other r q x same ∙ has.1)) less)
      (any_of_count (is_first least) zero done is.once)

  -- the faults of a record of a primary key stay, if it is of no such row or of a later one, or if the new row is not before it
  stays : (least : Place) (q : KeyRecord) → IsLeast r.rule r.key done least → (has_unique r.rule r.key q ≡ true → IsFrom least q.place)
      → (q.place ≡ least → has_unique r.rule r.key q ≡ true → nat_lt r.place.row q.place.row ≡ false) → q.role ≡ Unique
      → list_any (is_earlier q) with_it ≡ list_any (is_earlier q) done
  stays least q is from twin role = of (same_key q r) refl
    where
      of : (b : Bool) → same_key q r ≡ b → list_any (is_earlier q) with_it ≡ list_any (is_earlier q) done
      of false apart = any_same (is_earlier q) done r (other_key q r apart)
      of true same =
          let has : has_unique r.rule r.key q ≡ true = and_true (is_unique q.role) (same_key r q) (ap is_unique role) (same_back q r same) in
          elim (from has) [
            | inl after ↦ any_true (is_earlier q) done r (has_earlier least q is (same_back q r same) after)
            | inr place ↦ any_same (is_earlier q) done r (not_less q r (twin place has))
          ]

  -- a later row with a primary key
  pub adds_later : (group : Group) (least : Place) (faults : List Fault) → r.role ≡ Unique → group.least ≡ Some least → IsLeast r.rule r.key done least
      → least.row < r.place.row → IsPermutation (record_faults done) faults
      → IsPermutation (record_faults with_it) (faults ++ option_to_list (certain group r.role r.place))
  adds_later group least faults role known_least is after known =
      let later : nat_lt r.place.row least.row ≡ false = grind (arith, nat_tests) in
      let fault : certain group r.role r.place ≡ Some (fault_at DuplicateKey r.place) =
      ap (λ x. certain group x r.place) role ∙ (ap (λ l. duplicate l r.place) known_least ∙ ap (λ b. Some (fault_at DuplicateKey (if b then least else r.place))) later) in
      let earlier = has_earlier least r is (same_itself r) after in
      let found : list_any (is_earlier r) with_it ≡ true = any_true (is_earlier r) done r earlier ∙ earlier in
      rw fault (adds (Some (fault_at DuplicateKey r.place)) faults
      (All-weaker (λ q. has_unique r.rule r.key q ≡ true → IsFrom least q.place) (λ q. faults_among with_it q ≡ faults_among done q)
      (λ q from. same_faults q (stays least q is from (λ place has. ap (λ p. nat_lt r.place.row p.row) place ∙ later))
      (λ role_is. count_same (is_referred q) done r (not_referenced q r (ap is_referenced role)))) done is.others)
      (own_is Unique role ∙ ap (by_earlier r.place) found) known)

  -- no row before this one has the primary key, if it is not after the first one
  none_earlier : (least : Place) (q : KeyRecord) → IsLeast r.rule r.key done least → same_key r q ≡ true → nat_lt least.row q.place.row ≡ false
      → list_any (is_earlier q) done ≡ false
  none_earlier least q is same before =
      list_any_none (is_earlier q) done (All-weaker (λ x. has_unique r.rule r.key x ≡ true → IsFrom least x.place) (λ x. is_earlier q x ≡ false)
      (λ x from. of x from (has_unique r.rule r.key x) refl) done is.others)
    where
      row : (x : KeyRecord) → IsFrom least x.place → nat_lt x.place.row q.place.row ≡ false
      row x (inl after) = grind (arith, nat_tests)
      row x (inr place) = ap (λ p. nat_lt p.row q.place.row) place ∙ before

      of : (x : KeyRecord) → (has_unique r.rule r.key x ≡ true → IsFrom least x.place) → (b : Bool) → has_unique r.rule r.key x ≡ b → is_earlier q x ≡ false
      of x from true has = not_less q x (row x (from has))
      of x from false apart =
          first_false (is_unique x.role && same_key q x) (nat_lt x.place.row q.place.row) (ap (λ b. is_unique x.role && b) (same_other r q x same) ∙ apart)

  -- a row with a primary key before the first one so far
  pub adds_earlier : (group : Group) (least : Place) (faults : List Fault) → r.role ≡ Unique → group.least ≡ Some least → IsLeast r.rule r.key done least
      → r.place.row < least.row → IsPermutation (record_faults done) faults
      → IsPermutation (record_faults with_it) (faults ++ option_to_list (certain group r.role r.place))
  adds_earlier group least faults role known_least is before known =
      let earlier : nat_lt r.place.row least.row ≡ true = grind (arith, nat_tests) in
      let not_later : nat_lt least.row r.place.row ≡ false = grind (arith, nat_tests) in
      let fault : certain group r.role r.place ≡ Some (fault_at DuplicateKey least) =
      ap (λ x. certain group x r.place) role ∙ (ap (λ l. duplicate l r.place) known_least ∙ ap (λ b. Some (fault_at DuplicateKey (if b then least else r.place))) earlier) in
      let itself : is_earlier r r ≡ false = not_less r r (grind (arith, nat_tests)) in
      let alone : list_any (is_earlier r) with_it ≡ false = any_same (is_earlier r) done r itself ∙ none_earlier least r is (same_itself r) not_later in
      let own : faults_among with_it r ≡ [] = own_is Unique role ∙ ap (by_earlier r.place) alone in
      let d = fault_at DuplicateKey least in
      let others : IsPermutation (flat_map (faults_among with_it) done) (record_faults done ++ copies (count_by (is_first least) done) d) =
      flat_more (faults_among done) (faults_among with_it) (is_first least) d done
      (All-weaker (λ q. has_unique r.rule r.key q ≡ true → IsFrom least q.place) (λ q. is_first least q ≡ false → faults_among with_it q ≡ faults_among done q)
      (λ q from apart. same_faults q (stays least q is from (λ place has. absurd (is_apart q place has apart)))
      (λ role_is. count_same (is_referred q) done r (not_referenced q r (ap is_referenced role)))) done is.others)
      (All-weaker (λ q. has_unique r.rule r.key q ≡ true → IsFrom least q.place)
      (λ q. is_first least q ≡ true → (faults_among done q ≡ []) × (faults_among with_it q ≡ d ∷ []))
      (λ q from first. gains q from first) done is.others) in
      let one : copies (count_by (is_first least) done) d ≡ d ∷ [] = ap (λ n. copies n d) is.once in
      let others_one : IsPermutation (flat_map (faults_among with_it) done) (record_faults done ++ d ∷ []) =
      subst (λ ds. IsPermutation (flat_map (faults_among with_it) done) (record_faults done ++ ds)) one others in
      let all : record_faults with_it ≡ flat_map (faults_among with_it) done =
      flat_map-append (faults_among with_it) done (r ∷ []) ∙ (ap (λ fs. flat_map (faults_among with_it) done ++ (fs ++ [])) own
      ∙ append-nil (flat_map (faults_among with_it) done)) in
      rw (fault, all)
      (IsPermutation-trans (flat_map (faults_among with_it) done) (record_faults done ++ d ∷ []) (faults ++ d ∷ []) others_one
      (IsPermutation-append_left (d ∷ []) (record_faults done) faults known))
    where
      is_apart : (q : KeyRecord) → q.place ≡ least → has_unique r.rule r.key q ≡ true → is_first least q ≡ false → ⊥
      is_apart q place has apart =
          let row : nat_eq q.place.row least.row ≡ true = ap (λ p. nat_eq p.row least.row) place ∙ grind (arith, nat_tests) in
          let first = and_true (has_unique r.rule r.key q) (nat_eq q.place.row least.row) has row in cc

      gains : (q : KeyRecord) → (has_unique r.rule r.key q ≡ true → IsFrom least q.place) → is_first least q ≡ true
          → (faults_among done q ≡ []) × (faults_among with_it q ≡ fault_at DuplicateKey least ∷ [])
      gains q from first =
          let has = first_has least q first in
          let q_row = has.2 in
          let q_role = unique_is q.role has.0 in
          let unique = both (has_unique r.rule r.key q) (nat_eq q.place.row least.row) first in
          let not_after : nat_lt least.row q.place.row ≡ false = grind (arith, nat_tests) in
          let less : nat_lt r.place.row q.place.row ≡ true = grind (arith, nat_tests) in
          let now : is_earlier q r ≡ true =
          and_true (is_unique r.role && same_key q r) (nat_lt r.place.row q.place.row) (and_true (is_unique r.role) (same_key q r) (ap is_unique role) (same_back r q has.1)) less in
          let place : q.place ≡ least = elim (from unique.0) [ inl after ↦ absurd (omega (arith, after, q_row)) | inr place ↦ place ] in (
            ap (faults_by_role done q) q_role ∙ ap (by_earlier q.place) (none_earlier least q is has.1 not_after),
            ap (faults_by_role with_it q) q_role ∙ (ap (by_earlier q.place) (any_last (is_earlier q) done r now) ∙ ap (λ p. fault_at DuplicateKey p ∷ []) place),
          )
