-- Members that are read one after the other, in the order of their names. The check doesn't find by itself that each goes last.
use Rattle.std.proofs.Common.{◌≡◌, ℕ, List, [], ◌∷◌, ◌++◌, String, Global, Greater, Less, string_bytes, string_cmp, nat_cmp, refl, sym, ap, ap₂, ◌∙◌}
use Rattle.std.proofs.lemmas.Cmp.{nat_list_cmp_total}
use Rattle.std.specs.Cmp.Lexicographic.{slice_cmp}
use Rattle.std.specs.List.{AllByRecursion}
use Rattle.std.specs.List.Sorted.{IsStrictlySortedBy}
use Rattle.std.specs.Map.{keys_of}
use Rattle.std.specs.Ordering.{ordering_reverse}
use Rattle.serde_json.specs.Data.{Data, Members, member, put}
use Rattle.serde_json.specs.View.{view, members_view}
use Rattle.serde_json.proofs.Views.{Entry}
use Rattle.csvw_meta_core.specs.declared.fault.MetaFault.{MetaFault}
use Rattle.csvw_meta_core.specs.declared.fault.Refusal.{Refusal}
use Rattle.csvw_meta_core.specs.Fine.{none_in_both}
use Rattle.csvw_meta_core.specs.Read.{Read, fine}
use Rattle.csvw_meta_core.specs.Reads.{Fails}
use Rattle.csvw_bundle.specs.Members.{each_member, map_members, member_faults}
use Rattle.csvw_bundle.proofs.ReadLemmas.{fails_first, fails_last}

-- a name that is below all of these is below one among them
below : (k : String Global) (es : List Entry) (e : Entry) (more : List Entry)
    → AllByRecursion (λ y. string_cmp k y ≡ Less) (keys_of (es ++ e ∷ more)) → string_cmp k e.0 ≡ Less
below k [] e more h = h.0
below k (x ∷ es) e more h = below k es e more h.1

-- A member whose name is above those before it is put last.
pub goes_last : (f : List ℕ → Data → Data) (done : List Entry) (e : Entry) (more : List Entry)
    → IsStrictlySortedBy string_cmp (keys_of (done ++ e ∷ more))
    → put (string_bytes e.0) (f (string_bytes e.0) (view e.1)) (map_members f (members_view done)) ≡ map_members f (members_view (done ++ e ∷ []))
unfolding IsStrictlySortedBy
goes_last f [] e more h = refl
goes_last f (x ∷ done) e more h =
    let above : slice_cmp nat_cmp (string_bytes e.0) (string_bytes x.0) ≡ Greater =
    nat_list_cmp_total.antisymm (string_bytes e.0) (string_bytes x.0) ∙ ap ordering_reverse (below x.0 done e more h.0) in
    rw above (ap (member (string_bytes x.0) (f (string_bytes x.0) (view x.1))) (goes_last f done e more h.1))

module _ (reads : List ℕ → Data → Read Data) where
  abbrev pub value_of : List ℕ → Data → Data
  value_of k d = (reads k d).value

  -- one more member without faults
  pub none_last : (done : List Entry) (e : Entry) → member_faults reads (members_view done) ≡ [] → (reads (string_bytes e.0) (view e.1)).faults ≡ []
      → member_faults reads (members_view (done ++ e ∷ [])) ≡ []
  none_last [] e h none = rw none refl
  none_last (x ∷ done) e h none = let p = none_in_both (reads (string_bytes x.0) (view x.1)).faults _ h in rw p.0 (none_last done e p.1 none)

  -- a fault of one member is a fault of all
  pub fails_among : (r : Refusal) (done : List Entry) (e : Entry) (more : List Entry) → Fails r (reads (string_bytes e.0) (view e.1)).faults
      → Fails r (member_faults reads (members_view (done ++ e ∷ more)))
  fails_among r [] e more h = fails_first r _ _ h
  fails_among r (x ∷ done) e more h = fails_last r (reads (string_bytes x.0) (view x.1)).faults _ (fails_among r done e more h)

  -- all members were read
  pub reads_all : (done : List Entry) (ms : Members) → member_faults reads (members_view done) ≡ [] → ms ≡ map_members value_of (members_view done)
      → each_member reads (members_view done) ≡ fine ms
  reads_all done ms none same = ap₂ (λ (fs : List MetaFault) (xs : Members). record { faults = fs; value = xs }) none (sym same)
