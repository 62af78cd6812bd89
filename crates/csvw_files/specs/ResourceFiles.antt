-- A document with the resources that files have: `BundlesFiles`; and why there is none: `BundlesNot`.
use Rattle.std.specs.Prelude.{◌≡◌, ◌⊎◌, ℕ, List, [], ◌∷◌, ◌++◌, Option, Contains}
use Rattle.csvw_streams.specs.declared.counted.Counted.{Counted}
use Rattle.csvw_meta_core.specs.declared.fault.MetaFault.{MetaFault}
use Rattle.csvw_meta_core.specs.declared.fault.Refusal.{Refusal}
use Rattle.csvw_meta_core.specs.declared.fault.Refusal.TheVariants as refusal
use Rattle.csvw_meta_core.specs.Read.{fine}
use Rattle.csvw_meta_core.specs.Reads.{Fails}
use Rattle.csvw_meta.specs.Document.{own_url}
use Rattle.csvw_bundle.specs.declared.resource.Resource.{Resource}
use Rattle.csvw_bundle.specs.Bundles.{IsBundle, bundle}
use Rattle.csvw_engine_core.specs.declared.stop.Stop.{Stop}
use Rattle.csvw_engine_core.specs.declared.stop.Stop.TheVariants as stop
use Rattle.csvw_files.specs.declared.resources.ResourceFile.{ResourceFile}
use Rattle.csvw_files.specs.Files.{ReadsFile, ReadsNot}

-- the resource of a file: its URL, and the bytes of the file
pub record ReadsResource {O R : Type 0} (opens : O → List ℕ → Option R → O → Type 0) (closes : O → Counted R → O → Type 0)
    (remaining : R → Option (List ℕ)) (file : ResourceFile) (old new : O) (resource : Resource) : Type 0 where
  pub url : own_url file.url.now ≡ fine resource.url
  pub read : ReadsFile opens closes remaining file.path.now old new resource.bytes.items

-- a resource is read, and the rest follows
pub record ReadsFirst {O R : Type 0} (opens : O → List ℕ → Option R → O → Type 0) (closes : O → Counted R → O → Type 0) (remaining : R → Option (List ℕ))
    (file : ResourceFile) (old : O) (resource : Resource) (Rest : O → Type 0) : Type 0 where
  pub between : O
  pub one : ReadsResource opens closes remaining file old between resource
  pub rest : Rest between

-- the resources of the files, read from the first on
abbrev pub ReadsResources : {O R : Type 0} → (O → List ℕ → Option R → O → Type 0) → (O → Counted R → O → Type 0) → (R → Option (List ℕ))
    → List ResourceFile → O → List Resource → O → Type 0
ReadsResources opens closes remaining [] old resources new = (resources ≡ []) × (new ≡ old)
ReadsResources opens closes remaining (f ∷ fs) old [] new = ⊥
ReadsResources opens closes remaining (f ∷ fs) old (r ∷ rs) new =
    ReadsFirst opens closes remaining f old r (λ between. ReadsResources opens closes remaining fs between rs new)

-- the text is no URL of a resource, and that fault is at no place of the document
pub record IsNoUrl (text : List ℕ) (reason : Stop) : Type 0 where
  pub fault : MetaFault
  pub is_fault : Contains (own_url text).faults fault
  pub reason_is : reason ≡ stop.Meta fault

-- why a resource isn't read
abbrev pub ReadsNoResource : {O R : Type 0} → (O → List ℕ → Option R → O → Type 0) → (O → Counted R → O → Type 0) → ResourceFile → O → O → Stop
    → Type 0
ReadsNoResource opens closes file old new reason =
    ((new ≡ old) × ((reason ≡ stop.Memory) ⊎ IsNoUrl file.url.now reason)) ⊎ ReadsNot opens closes file.path.now old new reason

-- the first of the resources isn't read
abbrev pub ReadsNoFirst : {O R : Type 0} → (O → List ℕ → Option R → O → Type 0) → (O → Counted R → O → Type 0) → List ResourceFile → O → O → Stop
    → Type 0
ReadsNoFirst opens closes [] old new reason = ⊥
ReadsNoFirst opens closes (f ∷ fs) old new reason = ReadsNoResource opens closes f old new reason

-- the first resources are read; then the next isn't, or memory runs out
pub record StopsReading {O R : Type 0} (opens : O → List ℕ → Option R → O → Type 0) (closes : O → Counted R → O → Type 0)
    (remaining : R → Option (List ℕ)) (files : List ResourceFile) (old new : O) (reason : Stop) : Type 0 where
  pub front : List ResourceFile
  pub rest : List ResourceFile
  pub parts : files ≡ front ++ rest
  pub resources : List Resource
  pub between : O
  pub read : ReadsResources opens closes remaining front old resources between
  pub fails : ((reason ≡ stop.Memory) × (new ≡ between)) ⊎ ReadsNoFirst opens closes rest between new reason

-- the document of these bytes, with the resources of the files
pub record BundlesFiles {O R : Type 0} (opens : O → List ℕ → Option R → O → Type 0) (closes : O → Counted R → O → Type 0)
    (remaining : R → Option (List ℕ)) (files : List ResourceFile) (url own : List ℕ) (old new : O) (bytes : List ℕ) : Type 0 where
  pub resources : List Resource
  pub read : ReadsResources opens closes remaining files old resources new
  pub bundled : IsBundle resources url own bytes

-- the stop of a refusal
abbrev pub stop_of : Refusal → Stop
stop_of refusal.Memory = stop.Memory
stop_of (refusal.Fault fault) = stop.Meta fault

-- the resources are read, and one of them can't be used, or memory runs out
pub record LacksBundle {O R : Type 0} (opens : O → List ℕ → Option R → O → Type 0) (closes : O → Counted R → O → Type 0)
    (remaining : R → Option (List ℕ)) (files : List ResourceFile) (url own : List ℕ) (old new : O) (reason : Stop) : Type 0 where
  pub resources : List Resource
  pub read : ReadsResources opens closes remaining files old resources new
  pub why : Refusal
  pub refused : Fails why (bundle resources url own).faults
  pub reason_is : reason ≡ stop_of why

-- why there is no such document
abbrev pub BundlesNot : {O R : Type 0} → (O → List ℕ → Option R → O → Type 0) → (O → Counted R → O → Type 0) → (R → Option (List ℕ))
    → List ResourceFile → List ℕ → List ℕ → O → O → Stop → Type 0
BundlesNot opens closes remaining files url own old new reason =
    StopsReading opens closes remaining files old new reason ⊎ LacksBundle opens closes remaining files url own old new reason
