-- A context without faults is the one that can be used, and its document is an object.
use Rattle.std.proofs.Common.{◌≡◌, ℕ, List, [], ◌∷◌, ◌++◌, Bool, true, false, if◌then◌else◌, Option, Some, None, Result, refl, ap, ap₂, subst, sym, ◌∙◌, codes}
use Rattle.serde_json.specs.Data.{Data, null, boolean, number, string, array, object, Items, no_items, item, Members}
use Rattle.serde_json.specs.Find.{get}
use Rattle.url.specs.Parts.{Parts}
use Rattle.csvw_description.specs.declared.description.Description.{Description}
use Rattle.csvw_meta_core.specs.declared.context.Context.{Context}
use Rattle.csvw_meta_core.specs.declared.fault.MetaCode.TheVariants.{BadContext}
use Rattle.csvw_meta_core.specs.declared.fault.MetaFault.{MetaFault}
use Rattle.csvw_meta_core.specs.declared.fault.Refusal.{Refusal}
use Rattle.csvw_meta_core.specs.declared.profile.Profile.{Profile}
use Rattle.csvw_meta_core.specs.declared.profile.Profile.TheVariants.{Core}
use Rattle.csvw_meta_core.specs.Context.{context, context_base, context_found, context_items, context_value, further_context, in_profile, is_vocabulary}
use Rattle.csvw_meta_core.specs.Context.{no_context, other_items, plain_context, second_item, strangers}
use Rattle.csvw_meta_core.specs.Fine.{none_in_both, not_none}
use Rattle.csvw_meta_core.specs.Kinds.{language}
use Rattle.csvw_meta_core.specs.Pointer.{below, item_at}
use Rattle.csvw_meta_core.specs.Read.{Read, fine, faulty, optional, property}
use Rattle.csvw_meta_core.specs.Reads.{Reads}
use Rattle.csvw_meta.specs.Described.{described, described_within, within}
use Rattle.csvw_meta.specs.IfRead.{value_or}
use Rattle.csvw_meta.specs.UsableContext.{usable_context, usable_found, usable_items, usable_members, usable_others, usable_second, usable_value}

-- ---- the context

value_of : {A : Type 0} (default : A) (r : Read A) → r.faults ≡ [] → value_or default r ≡ r.value
value_of {A = A} default r none = ap (λ (fs : List MetaFault). value_or default (record { faults = fs; value = r.value })) none

-- if the context has no faults, it is this one
abbrev IsUsable : Context → Read Context → Type 0
IsUsable usable own = own.faults ≡ [] → usable ≡ own.value

module _ (base : Parts) where
  members_own : (at : List ℕ) (d : Data) (ms : Members) → IsUsable (usable_members base at d) (further_context base at d ms)
  unfolding further_context
  members_own at d ms h =
      let own = property (context_base base) base at d (codes "@base") in
      let tag = optional (language BadContext) at d (codes "@language") in
      let p1 = none_in_both (strangers at ms).faults _ h in
      let p2 = none_in_both tag.faults _ p1.1 in
      let p3 = none_in_both own.faults _ p2.1 in
      ap₂ (λ b l. record { base = b; language = l; profile = Core }) (value_of base own p3.0) (value_of None tag p2.0)

  second_own : (at : List ℕ) (d : Data) → IsUsable (usable_second base at d) (second_item base at d)
  second_own at (object ms) h = members_own (item_at at 1) (object ms) ms h
  second_own at null h = absurd (not_none _ _ h)
  second_own at (boolean b) h = absurd (not_none _ _ h)
  second_own at (number n) h = absurd (not_none _ _ h)
  second_own at (string s) h = absurd (not_none _ _ h)
  second_own at (array ds) h = absurd (not_none _ _ h)

  others_own : (at : List ℕ) (ds : Items) → IsUsable (usable_others base at ds) (other_items base at ds)
  others_own at no_items h = refl
  others_own at (item b no_items) h = second_own at b h
  others_own at (item b (item c ds)) h = absurd (not_none _ _ h)

  test_own : (b : Bool) (at : List ℕ) (usable : Context) (own : Read Context) → IsUsable usable own
      → IsUsable (if b then usable else plain_context base) (if b then own else faulty BadContext at no_context)
  test_own true at usable own p h = p h
  test_own false at usable own p h = absurd (not_none _ _ h)

  items_own : (at : List ℕ) (ds : Items) → IsUsable (usable_items base at ds) (context_items base at ds)
  items_own at no_items h = absurd (not_none _ _ h)
  items_own at (item a ds) h = test_own (is_vocabulary a) at (usable_others base at ds) (other_items base at ds) (others_own at ds) h

  text_own : (b : Bool) (at : List ℕ) → IsUsable (plain_context base) (if b then fine (plain_context base) else faulty BadContext at no_context)
  text_own true at h = refl
  text_own false at h = absurd (not_none _ _ h)

  value_own : (at : List ℕ) (d : Data) → IsUsable (usable_value base at d) (context_value base at d)
  value_own at (array ds) h = items_own at ds h
  value_own at (string s) h = text_own (is_vocabulary (string s)) at h
  value_own at null h = absurd (not_none _ _ h)
  value_own at (boolean b) h = absurd (not_none _ _ h)
  value_own at (number n) h = absurd (not_none _ _ h)
  value_own at (object ms) h = absurd (not_none _ _ h)

  found_own : (at : List ℕ) (d : Data) (o : Option Data) → IsUsable (usable_found base at o) (context_found base at d o)
  found_own at d None h = absurd (not_none _ _ h)
  found_own at d (Some c) h = value_own (below at (codes "@context")) c h

  usable_own : (at : List ℕ) (d : Data) → IsUsable (usable_context base at d) (context base at d)
  usable_own at d = found_own at d (get (codes "@context") d)

  usable_is : (at : List ℕ) (d : Data) (c : Context) → context base at d ≡ fine c → usable_context base at d ≡ c
  usable_is at d c is = usable_own at d (ap (λ (r : Read Context). r.faults) is) ∙ ap (λ (r : Read Context). r.value) is

  -- ---- the parts within it

  not_fine : (f : MetaFault) (a c : Context) → record { faults = f ∷ []; value = a } ≡ fine c → ⊥
  not_fine f a c is = not_none f [] (ap (λ (r : Read Context). r.faults) is)

  reads_within : (at : List ℕ) (d : Data) (own c : Context) (result : Result Description Refusal) → context base at d ≡ fine own
      → Reads result (within c at d) → Reads result (described_within at d c)
  reads_within at (object ms) own c result is h = h
  reads_within at null own c result is h = absurd (not_fine _ _ own is)
  reads_within at (boolean b) own c result is h = absurd (not_fine _ _ own is)
  reads_within at (number n) own c result is h = absurd (not_fine _ _ own is)
  reads_within at (string s) own c result is h = absurd (not_fine _ _ own is)
  reads_within at (array ds) own c result is h = absurd (not_fine _ _ own is)

  after : (own : Read Context) (c : Context) (result : Result Description Refusal) (rest : Read Description) → own ≡ fine c → Reads result rest
      → Reads result (record { faults = own.faults ++ rest.faults; value = rest.value })
  after own c result rest is h =
      subst (λ (r : Read Context). Reads result (record { faults = r.faults ++ rest.faults; value = rest.value })) (sym is) h

  pub reads_described : (profile : Profile) (at : List ℕ) (d : Data) (c : Context) (result : Result Description Refusal) → context base at d ≡ fine c
      → Reads result (within (in_profile profile c) at d) → Reads result (described profile base at d)
  reads_described profile at d c result is h =
      let usable = in_profile profile (usable_context base at d) in
      let same : in_profile profile c ≡ usable = ap (in_profile profile) (sym (usable_is at d c is)) in
      after (context base at d) c result (described_within at d usable) is
      (reads_within at d c usable result is (subst (λ x. Reads result (within x at d)) same h))
