-- The state of the judge after one record more.
use Rattle.std.proofs.Common.{◌≡◌, ℕ, zero, ◌+◌, ◌<◌, ◌&&◌, Option, None, Some, true, false, List, [], ◌∷◌, ◌++◌, get_or, length, refl, sym, ap, ap₂, ◌∙◌, subst, inl, inr, append_assoc, length-append, arith}
use Rattle.std.specs.Cmp.Lexicographic.{slice_cmp}
use Rattle.std.specs.Prelude.{decimal, nat_eq}
use Rattle.std.specs.List.{All, list_any}
use Rattle.std.specs.Option.{option_to_list}
use Rattle.std.specs.Ordering.{is_gt, nat_cmp}
use Rattle.std.specs.declared.cmp.Ordering.TheVariants.{Less, Greater}
use Rattle.std.proofs.lemmas.Bool.Decides.{nat_tests}
use Rattle.std.proofs.lemmas.List.{get_or_at}
use Rattle.std.proofs.lemmas.List.Elements.{All-push, All-weaker}
use Rattle.std.proofs.lemmas.List.Quantifiers.{all_pairs_push}
use Rattle.csvw_fault.specs.declared.fault.Fault.{Fault}
use Rattle.csvw_fault.specs.declared.fault.Place.{Place}
use Rattle.csvw_key_records.specs.declared.judge.Disorder.{Disorder}
use Rattle.csvw_key_records.specs.declared.judge.Disorder.TheVariants as why
use Rattle.csvw_key_records.specs.declared.record.Role.{Role}
use Rattle.csvw_key_records.specs.declared.group.Group.{Group}
use Rattle.csvw_key_records.specs.declared.judge.KeyJudge.{KeyJudge}
use Rattle.csvw_key_records.specs.declared.record.KeyRecord.{KeyRecord}
use Rattle.csvw_key_records.specs.declared.record.Role.TheVariants.{Unique, Referenced, Refers}
use Rattle.csvw_key_records.specs.Groups.{AreLeast, IsGroup, after, certain, has_unique, is_twin, repeats}
use Rattle.csvw_key_records.specs.Judging.{BreaksOrder, Holds, IsDisorder, IsLast}
use Rattle.csvw_key_records.specs.RecordFaults.{same_key}
use Rattle.csvw_key_records.specs.Records.{Fits, IsFront, front, line_of, tail_of}
use Rattle.csvw_key_records.specs.Sorted.{AreSorted, IsBefore}
use Rattle.csvw_key_records.proofs.Counting.{any_of_count, any_weaker}
use Rattle.csvw_key_records.proofs.GroupSteps.{faults_after, group_after}
use Rattle.csvw_key_records.proofs.SameKeys.{and_true, both, not_both, same_to}
use Rattle.csvw_key_records.proofs.Lines.{front-cells}
use Rattle.csvw_key_records.proofs.Orders.{below_next, convex, front_unique, line_front, not_above_itself, refers_above}

-- no record has the key of a line above the last one, if the last one does not begin with its front
pub none_has : (last : List ℕ) (r : KeyRecord) (records : List KeyRecord) → All (λ q. is_gt (slice_cmp nat_cmp (line_of q) last) ≡ false) records
    → slice_cmp nat_cmp last (line_of r) ≡ Less → ((rest : List ℕ) → last ≡ front r.rule r.key ++ rest → ⊥) → All (λ q. same_key r q ≡ false) records
none_has last r records upto below other =
    All-weaker (λ q. is_gt (slice_cmp nat_cmp (line_of q) last) ≡ false) (λ q. same_key r q ≡ false)
    (λ q above. not_both (same_key r q) (λ same.
    let parts = same_to r q same in
    let q_line : line_of q ≡ front r.rule r.key ++ tail_of q = line_front q ∙ ap₂ (λ n k. front n k ++ tail_of q) (sym parts.0) (sym parts.1) in
    let found = convex (front r.rule r.key) (tail_of q) last (tail_of r) (sym (ap (λ l. is_gt (slice_cmp nat_cmp l last)) q_line) ∙ above)
    (sym (ap (slice_cmp nat_cmp last) (line_front r)) ∙ below) in
    other found.0 found.1)) records upto

module _ (old new : KeyJudge) (r : KeyRecord) (records : List KeyRecord) (faults : List Fault) (group : Group) where
  pub taken : Fits r → Holds old records faults → slice_cmp nat_cmp old.last.items (line_of r) ≡ Less → IsGroup group r.rule r.key records
      → repeats group r.role r.place ≡ false → new.last.items ≡ line_of r → new.group ≡ after group r.role r.place
      → Holds new (records ++ r ∷ []) (faults ++ option_to_list (certain group r.role r.place))
  taken fits holds below is apart last next = record {
    fit = All-push Fits records r holds.fit fits;
    sorted = all_pairs_push IsBefore records r holds.sorted (λ k d within. below_next (line_of (get_or records k d)) old.last.items (line_of r) (holds.upto k d within) below);
    upto = All-push (λ q. is_gt (slice_cmp nat_cmp (line_of q) new.last.items) ≡ false) records r
        (All-weaker (λ q. is_gt (slice_cmp nat_cmp (line_of q) old.last.items) ≡ false) (λ q. is_gt (slice_cmp nat_cmp (line_of q) new.last.items) ≡ false)
        (λ q above. ap (λ l. is_gt (slice_cmp nat_cmp (line_of q) l)) last ∙ ap is_gt (below_next (line_of q) old.last.items (line_of r) above below)) records holds.upto)
        (ap (λ l. is_gt (slice_cmp nat_cmp (line_of r) l)) last ∙ not_above_itself (line_of r));
    is_last = inr (records, r, refl, last);
    group = known;
    found = faults_after records r group faults is apart (λ role. All-weaker (λ q. is_gt (slice_cmp nat_cmp (line_of q) old.last.items) ≡ false)
        (λ q. q.role ≡ Refers → same_key q r ≡ false) (λ q above q_role. not_both (same_key q r) (λ same.
        let parts = same_to q r same in
        let up = refers_above q r q_role role parts.0 parts.1 in
        let down = below_next (line_of q) old.last.items (line_of r) above below in
        let fails : Greater ≡ Less = sym up ∙ down in cc)) records holds.upto) holds.found;
  }
    where
      known : (rule : ℕ) (key rest : List ℕ) → IsFront rule key → new.last.items ≡ front rule key ++ rest → IsGroup new.group rule key (records ++ r ∷ [])
      known rule key rest p begins =
          let same = front_unique r.rule rule r.key key (tail_of r) rest fits.front p (sym (line_front r) ∙ (sym last ∙ begins)) in
          let rises = subst (λ g. IsGroup g r.rule r.key (records ++ r ∷ [])) (sym next) (group_after records r group is apart) in
          subst (λ k. IsGroup new.group rule k (records ++ r ∷ [])) same.1 (subst (λ n. IsGroup new.group n r.key (records ++ r ∷ [])) same.0 rises)

pub line_some : (r : KeyRecord) → 0 < length (line_of r)
line_some r =
    let is : line_of r ≡ decimal r.rule ++ 44 ∷ (r.key ++ 44 ∷ tail_of r) = line_front r ∙ front-cells r.rule r.key (tail_of r) in
    let long : length (line_of r) ≡ length (decimal r.rule) + length (44 ∷ (r.key ++ 44 ∷ tail_of r)) =
    ap length is ∙ length-append (decimal r.rule) (44 ∷ (r.key ++ 44 ∷ tail_of r)) in
    omega (arith, long)

first_below : (x : List ℕ) → 0 < length x → slice_cmp nat_cmp [] x ≡ Less
first_below [] some = absurd (omega arith)
first_below (c ∷ x) some = refl

-- a line that does not come after the last one is not sorted
pub unsorted : (last : List ℕ) (r : KeyRecord) (records : List KeyRecord) → IsLast records last → (slice_cmp nat_cmp last (line_of r) ≡ Less → ⊥)
    → AreSorted (records ++ r ∷ []) → ⊥
unsorted last r records (inl none) breaks sorted =
    breaks (ap (λ l. slice_cmp nat_cmp l (line_of r)) none.1 ∙ first_below (line_of r) (line_some r))
unsorted last r records (inr (before, p, is, line)) breaks sorted =
    let long : length records ≡ length before + 1 = ap length is ∙ length-append before (p ∷ []) in
    let all : length (records ++ r ∷ []) ≡ length records + 1 = length-append records (r ∷ []) in
    let pair = sorted (length before) (length records) r (omega arith) (omega arith) in
    let whole : records ++ r ∷ [] ≡ before ++ p ∷ (r ∷ []) = ap (λ x. x ++ r ∷ []) is ∙ append_assoc before (p ∷ []) (r ∷ []) in
    let first : get_or (records ++ r ∷ []) (length before) r ≡ p = ap (λ x. get_or x (length before) r) whole ∙ get_or_at before p (r ∷ []) r (length before) refl in
    let second : get_or (records ++ r ∷ []) (length records) r ≡ r = get_or_at records r [] r (length records) refl in
    breaks (ap (λ l. slice_cmp nat_cmp l (line_of r)) line ∙ (ap₂ (λ a b. slice_cmp nat_cmp (line_of a) (line_of b)) (sym first) (sym second) ∙ pair))

-- a record of the first row so far, which has another one
pub repeated : (group : Group) (r : KeyRecord) (records : List KeyRecord) → IsGroup group r.rule r.key records → repeats group r.role r.place ≡ true
    → (r.role ≡ Unique) × (list_any (λ q. has_unique r.rule r.key q && nat_eq r.place.row q.place.row) records ≡ true)
repeated group r records is twin = of r.role refl twin
  where
    found : (least : Option Place) → AreLeast r.rule r.key records least → is_twin least r.place ≡ true
        → list_any (λ q. has_unique r.rule r.key q && nat_eq r.place.row q.place.row) records ≡ true
    found None none twin = absurd (let fails : false ≡ true = twin in cc)
    found (Some least) first twin =
        any_weaker (λ q. has_unique r.rule r.key q && nat_eq q.place.row least.row) (λ q. has_unique r.rule r.key q && nat_eq r.place.row q.place.row) records
        (λ q same.
        let parts = both (has_unique r.rule r.key q) (nat_eq q.place.row least.row) same in
        let row = parts.1 in
        and_true (has_unique r.rule r.key q) (nat_eq r.place.row q.place.row) parts.0 (grind (arith, nat_tests)))
        (any_of_count (λ q. has_unique r.rule r.key q && nat_eq q.place.row least.row) zero records first.once)

    of : (role : Role) → r.role ≡ role → repeats group role r.place ≡ true
        → (r.role ≡ Unique) × (list_any (λ q. has_unique r.rule r.key q && nat_eq r.place.row q.place.row) records ≡ true)
    of Unique role twin = (role, found group.least is.least twin)
    of Referenced role twin = absurd (let fails : false ≡ true = twin in cc)
    of Refers role twin = absurd (let fails : false ≡ true = twin in cc)

-- a line that breaks the order
pub disorder_is : (last : List ℕ) (r : KeyRecord) (records : List KeyRecord) (d : Disorder) → IsLast records last → BreaksOrder last (line_of r) d → IsDisorder records r d
disorder_is last r records why.Memory is breaks = absurd breaks
disorder_is last r records why.Order is breaks = unsorted last r records is breaks
disorder_is last r records why.Twice is breaks = unsorted last r records is breaks
disorder_is last r records why.Row is breaks = absurd breaks
