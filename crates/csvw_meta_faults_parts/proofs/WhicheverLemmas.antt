-- What depends on a value: what it says if the value could be read, and its faults if not.
use Rattle.std.proofs.Common.{◌≡◌, ℕ, List, [], ◌∷◌, ◌++◌, Contains, Option, Some, None, map, ap, ap₂, arith, sym, subst, ◌∙◌, ◌+◌, ◌<◌, Bool}
use Rattle.std.proofs.Common.{if◌then◌else◌, length, get_or, take, filter}
use Rattle.std.proofs.lemmas.List.Elements.{filter_more}
use Rattle.serde_json.specs.Data.{Data}
use Rattle.csvw_datatype.specs.declared.simple.Simple.TheVariants.{Text}
use Rattle.csvw_meta_core.specs.declared.profile.Profile.{Profile}
use Rattle.csvw_meta_core.specs.declared.fault.MetaFault.{MetaFault}
use Rattle.csvw_meta_core.specs.Read.{Read, given}
use Rattle.csvw_meta_datatype.specs.Base.{base}
use Rattle.csvw_meta_faults_core.specs.Sole.{AtMostOne}
use Rattle.csvw_meta_faults_parts.specs.Leaves.{base_has_one}
use Rattle.csvw_meta_datatype.specs.Whichever.{by_faults, of_any}

no_list : (f : MetaFault) (fs : List MetaFault) → f ∷ fs ≡ [] → ⊥
no_list f fs h = cc

-- a part with at most one fault, of which one is known
pub is_sole : (fs : List MetaFault) (f : MetaFault) → AtMostOne fs → Contains fs f → fs ≡ f ∷ []
is_sole [] f one h = absurd (omega (arith, h.1))
is_sole (g ∷ []) f one h = let first : h.0 ≡ 0 = omega (arith, h.1) in ap (λ x. x ∷ []) (rw first at h.2)
is_sole (g ∷ g' ∷ fs) f one h = absurd one

pub given_has_one : (profile : Profile) (at : List ℕ) (o : Option Data) → AtMostOne (given (base profile) Text at o).faults
given_has_one profile at None = tt
given_has_one profile at (Some d) = base_has_one profile at d

pub by_one : {A B : Type 0} (values : List A) (dummy : B) (fs : List MetaFault) (f : MetaFault) (a : A) (next : A → Read B) → fs ≡ f ∷ []
    → (by_faults values dummy fs a next).faults ≡ f ∷ of_any (map (λ x. (next x).faults) values)
by_one values dummy [] f a next h = absurd (no_list f [] (sym h))
by_one values dummy (g ∷ gs) f a next h = ap (λ xs. xs ++ of_any (map (λ x. (next x).faults) values)) h

-- a list of what is kept, with one more item that is kept or not
pub keeps : {X : Type 0} (p : X → Bool) (xs : List X) (i : ℕ) (x : X) (old new : List X) (b : Bool) → i < length xs → x ≡ get_or xs i x
    → old ≡ filter p (take i xs) → b ≡ p x → new ≡ old ++ (if b then x ∷ [] else []) → new ≡ filter p (take (i + 1) xs)
keeps p xs i x old new b lt e so_far test is =
    is
    ∙ (ap₂ (λ a t. a ++ (if t then x ∷ [] else [])) so_far test
    ∙ sym (subst (λ y. filter p (take (i + 1) xs) ≡ filter p (take i xs) ++ (if p y then y ∷ [] else [])) (sym e) (filter_more p xs i x lt)))
