-- Members that are judged one after the other, in the order of their names. The check doesn't find by itself that each goes last.
use Rattle.std.proofs.Common.{◌≡◌, ℕ, Bool, true, false, Option, Some, None, List, [], ◌∷◌, ◌++◌, String, Global, Greater, Less, string_bytes, string_cmp, nat_cmp}
use Rattle.std.proofs.Common.{refl, sym, ap, ◌∙◌, append_assoc, append-nil}
use Rattle.std.proofs.lemmas.Cmp.{nat_list_cmp_total}
use Rattle.std.specs.Cmp.Lexicographic.{slice_cmp}
use Rattle.std.specs.List.{AllByRecursion}
use Rattle.std.specs.List.Sorted.{IsStrictlySortedBy}
use Rattle.std.specs.Map.{keys_of}
use Rattle.std.specs.Ordering.{ordering_reverse}
use Rattle.serde_json.specs.Data.{Data, Members, member}
use Rattle.serde_json.specs.View.{view, members_view}
use Rattle.serde_json.proofs.Views.{Entry}
use Rattle.csvw_meta_core.specs.Pointer.{below}
use Rattle.json.specs.Json.{Json}
use Rattle.csvw_defaults.specs.Judged.{Judged}
use Rattle.csvw_defaults.specs.Keeping.{put_kept}
use Rattle.csvw_defaults.specs.Sources.{in_member}
use Rattle.csvw_defaults.specs.Parts.{Rule, and_name, ignored_names, kept_member, kept_members, member_faults}

-- a name that is below all of these is below one among them
is_below : (k : String Global) (es : List Entry) (e : Entry) (more : List Entry)
    → AllByRecursion (λ y. string_cmp k y ≡ Less) (keys_of (es ++ e ∷ more)) → string_cmp k e.0 ≡ Less
is_below k [] e more h = h.0
is_below k (x ∷ es) e more h = is_below k es e more h.1

-- a member that goes behind one whose name is below its own
goes_behind : (k l : List ℕ) (v w : Option Data) (ms with_it : Members) → slice_cmp nat_cmp k l ≡ Greater → put_kept k v ms ≡ with_it
    → put_kept k v (kept_member l w ms) ≡ kept_member l w with_it
goes_behind k l None w ms with_it above h = ap (kept_member l w) h
goes_behind k l (Some d) None ms with_it above h = h
goes_behind k l (Some d) (Some e) ms with_it above h = rw above (ap (member l e) h)

alone : (k : List ℕ) (v : Option Data) → put_kept k v Rattle.serde_json.specs.Data.no_members ≡ kept_member k v Rattle.serde_json.specs.Data.no_members
alone k None = refl
alone k (Some d) = refl

and_name_last : (is_ignored : Bool) (k : List ℕ) (names more : List (List ℕ)) → and_name is_ignored k (names ++ more) ≡ and_name is_ignored k names ++ more
and_name_last true k names more = refl
and_name_last false k names more = refl

module _ (rule : List ℕ → Rule) (at : List ℕ) (j : Option Json) where
  -- what a member becomes
  abbrev pub of : Entry → Judged
  of e = rule (string_bytes e.0) (below at (string_bytes e.0)) (in_member (string_bytes e.0) j) (view e.1)

  pub faults_last : (done : List Entry) (e : Entry) → member_faults rule at j (members_view (done ++ e ∷ [])) ≡ member_faults rule at j (members_view done) ++ (of e).faults
  faults_last [] e = append-nil (of e).faults
  faults_last (x ∷ done) e =
      ap (λ fs. (of x).faults ++ fs) (faults_last done e) ∙ sym (append_assoc (of x).faults (member_faults rule at j (members_view done)) (of e).faults)

  pub names_last : (done : List Entry) (e : Entry)
      → ignored_names rule at j (members_view (done ++ e ∷ [])) ≡ ignored_names rule at j (members_view done) ++ and_name (of e).is_ignored (string_bytes e.0) []
  names_last [] e = refl
  names_last (x ∷ done) e =
      ap (and_name (of x).is_ignored (string_bytes x.0)) (names_last done e)
      ∙ and_name_last (of x).is_ignored (string_bytes x.0) (ignored_names rule at j (members_view done)) (and_name (of e).is_ignored (string_bytes e.0) [])

  pub goes_last : (done : List Entry) (e : Entry) (more : List Entry) → IsStrictlySortedBy string_cmp (keys_of (done ++ e ∷ more))
      → put_kept (string_bytes e.0) (of e).value (kept_members rule at j (members_view done)) ≡ kept_members rule at j (members_view (done ++ e ∷ []))
  unfolding IsStrictlySortedBy
  goes_last [] e more h = alone (string_bytes e.0) (of e).value
  goes_last (x ∷ done) e more h =
      let above : slice_cmp nat_cmp (string_bytes e.0) (string_bytes x.0) ≡ Greater =
      nat_list_cmp_total.antisymm (string_bytes e.0) (string_bytes x.0) ∙ ap ordering_reverse (is_below x.0 done e more h.0) in
      goes_behind (string_bytes e.0) (string_bytes x.0) (of e).value (of x).value (kept_members rule at j (members_view done))
      (kept_members rule at j (members_view (done ++ e ∷ []))) above (goes_last done e more h.1)
