-- What is found first alone, if there is such a fault, and the rest if not. The list is empty exactly if there is a group.
use Rattle.std.proofs.Common.{◌≡◌, ◌==◌, ℕ, zero, suc, nat_lt, List, [], ◌∷◌, Bool, true, false, if◌then◌else◌, Contains, is_some, length}
use Rattle.std.proofs.Common.{None, refl, ap, subst, arith}
use Rattle.std.specs.Prelude.{⊤}
use Rattle.std.proofs.lemmas.Bool.Decides.{nat_tests}
use Rattle.csvw_iri.specs.Link.{base_of}
use Rattle.csvw_description.specs.declared.description.Description.{Description}
use Rattle.csvw_meta_core.specs.declared.fault.MetaCode.TheVariants.{TooLong}
use Rattle.csvw_meta_core.specs.declared.fault.MetaFault.{MetaFault}
use Rattle.csvw_meta_core.specs.declared.fault.Refusal.{Refusal}
use Rattle.csvw_meta_core.specs.declared.fault.Refusal.TheVariants as refusal
use Rattle.csvw_meta_core.specs.declared.profile.Profile.{Profile}
use Rattle.csvw_meta_core.specs.Links.{no_url}
use Rattle.csvw_meta_core.specs.Read.{Read, fine, faulty, over, over_faults}
use Rattle.csvw_meta_core.specs.Reads.{Fails}
use Rattle.csvw_meta.specs.declared.document.TheConstants.{MAX_DOCUMENT}
use Rattle.csvw_meta.specs.Document.{Document, document_by, document_faults, group_in, judged, of_bytes, of_short, own_url}
use Rattle.csvw_meta.specs.Group.{no_group}
use Rattle.csvw_meta.specs.IfRead.{unless}
use Rattle.csvw_meta_faults_core.specs.Sole.{AtMostOne, of_link}

-- ---- no fault

nil_unless : {A : Type 0} (fs : List MetaFault) (a : A) → (length fs == 0) ≡ is_some (unless fs a)
nil_unless [] a = refl
nil_unless (f ∷ fs) a = grind (arith, nat_tests)

pub nil_if_described : (x : Document) → (length (document_faults x) == 0) ≡ is_some (group_in x)
nil_if_described x = nil_unless (judged x).faults (judged x).value

-- ---- a document that is too long, and one that is not

abbrev length_read : Bool → Read ⊤
length_read b = if b then faulty TooLong [] tt else fine tt

module _ (profile : Profile) (url bytes : List ℕ) where
  after_length : Bool → List MetaFault
  after_length b = (over no_group (length_read b) (λ t. of_short profile url bytes)).faults

  pub faults_long : nat_lt MAX_DOCUMENT (length bytes) ≡ true → document_faults (document_by profile url bytes) ≡ record { code = TooLong; pointer = [] } ∷ []
  unfolding judged after_length
  faults_long is = ap after_length is

  pub faults_short : nat_lt MAX_DOCUMENT (length bytes) ≡ false → document_faults (document_by profile url bytes) ≡ (of_short profile url bytes).faults
  unfolding judged after_length
  faults_short is = ap after_length is

-- ---- a document whose URL can't be read

module _ {A : Type 0} (next : A → Read Description) where
  sole_fault : (fs : List MetaFault) (a : A) (f : MetaFault) → AtMostOne fs → Contains fs f → (over_faults no_group fs a next).faults ≡ f ∷ []
  sole_fault [] a f one c = let lt = c.1 in absurd (omega (arith, lt))
  sole_fault (g ∷ []) a f one (zero, lt, is) = ap (λ h. h ∷ []) is
  sole_fault (g ∷ []) a f one (suc k, lt, is) = absurd (omega (arith, lt))
  sole_fault (g ∷ h ∷ fs) a f one c = absurd one

fault_of : (e : Refusal) (f : MetaFault) (fs : List MetaFault) → e ≡ refusal.Fault f → Fails e fs → Contains fs f
fault_of e f fs is h = subst (λ x. Fails x fs) is h

pub url_fault : (profile : Profile) (url bytes : List ℕ) (e : Refusal) (f : MetaFault) → e ≡ refusal.Fault f → Fails e (own_url url).faults
    → (of_short profile url bytes).faults ≡ f ∷ []
url_fault profile url bytes e f is h =
    sole_fault (λ base. of_bytes profile base bytes) (own_url url).faults (own_url url).value f (of_link [] no_url (base_of None url))
    (fault_of e f (own_url url).faults is h)
