-- A value with a fault is the one that stands in.
use Rattle.std.proofs.Common.{◌≡◌, ℕ, List, [], ◌∷◌, Contains, Option, Some, None, Result, Ok, Err, arith, refl}
use Rattle.serde_json.specs.Data.{Data}
use Rattle.serde_json.specs.Find.{as_str}
use Rattle.url.specs.Parts.{Parts}
use Rattle.csvw_iri.specs.Link.{base_of, bad, too_long}
use Rattle.csvw_iri.specs.Link as iri
use Rattle.csvw_meta_core.specs.declared.fault.MetaCode.TheVariants.{BadProperty}
use Rattle.csvw_meta_core.specs.declared.fault.MetaFault.{MetaFault}
use Rattle.csvw_meta_core.specs.Links.{no_url, told, url}
use Rattle.csvw_meta_core.specs.Pointer.{below}
use Rattle.csvw_meta_core.specs.Read.{Read, found}
use Rattle.csvw_meta_faults_core.specs.StandsIn.{InPlace, StandsIn}
use Rattle.csvw_meta_faults_parts.specs.Leaves.{in_kind}

in_place : {A : Type 0} (dummy : A) (fs : List MetaFault) (a : A) (f : MetaFault) → InPlace dummy fs a → Contains fs f → a ≡ dummy
in_place dummy [] a f h c = let lt = c.1 in absurd (omega (arith, lt))
in_place dummy (g ∷ gs) a f h c = h

pub replaced : {A : Type 0} (dummy : A) (r : Read A) (f : MetaFault) → StandsIn dummy r → Contains r.faults f → r.value ≡ dummy
replaced dummy r f h c = in_place dummy r.faults r.value f h c

told_stands_in : (at : List ℕ) (r : Result Parts iri.Refusal) → StandsIn no_url (told at no_url r)
told_stands_in at (Ok u) = tt
told_stands_in at (Err too_long) = refl
told_stands_in at (Err bad) = refl

url_stands_in : (base : Parts) (at : List ℕ) (d : Data) → StandsIn no_url (url base at d)
url_stands_in base at d =
    in_kind BadProperty at d no_url (as_str d) (λ s. told at no_url (base_of (Some base) s)) (λ s. told_stands_in at (base_of (Some base) s))

pub found_url : (base : Parts) (at name : List ℕ) (o : Option Data) → StandsIn no_url (found (url base) no_url at name o)
found_url base at name None = refl
found_url base at name (Some d) = url_stands_in base (below at name) d
