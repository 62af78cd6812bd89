-- The JSON of a text that U+FEFF precedes, and the bytes of a document that was read.
use Rattle.std.proofs.Common.{◌≡◌, ℕ, List, [], ◌∷◌, ◌++◌, length, false, nat_eq, nat_lt, ◌||◌, IsUtf8, Some, None, Result, Ok, Err, Vec, Global, ap, ◌∙◌, refl}
use Rattle.std.proofs.lemmas.Bool.{cond-true}
use Rattle.std.proofs.lemmas.Str.{is_utf8-from_IsUtf8}
use Rattle.serde_json.specs.Data.{Data}
use Rattle.serde_json.specs.Read.{read}
use Rattle.url.specs.Parts.{Parts}
use Rattle.csvw_iri.specs.Link.{base_of}
use Rattle.csvw_meta_core.specs.declared.fault.Refusal.{Refusal}
use Rattle.csvw_meta_core.specs.Read.{Read, under}
use Rattle.csvw_meta.specs.declared.document.TheConstants.{MAX_DOCUMENT}
use Rattle.csvw_bundle.specs.declared.resource.Resource.{Resource}
use Rattle.csvw_bundle.specs.Bundles.{Bundles, Writes, bundle, document_base, group}
use Rattle.csvw_meta.specs.Json.{json_of, without_bom}

pub json_behind : (bytes text : List ℕ) → bytes ≡ (239 ∷ 187 ∷ 191 ∷ []) ++ text → IsUtf8 text → json_of (without_bom bytes) ≡ read text
json_behind bytes text e u = ap (λ bs. json_of (without_bom bs)) e ∙ cond-true _ _ _ (is_utf8-from_IsUtf8 text u)

-- a document that isn't too long, whose URL is one, and that is JSON
is_read : (rs : List Resource) (url bytes : List ℕ) (own : Parts) (d : Data) → (nat_eq (length rs) 0 || nat_lt MAX_DOCUMENT (length bytes)) ≡ false
    → base_of None url ≡ Ok own
    → json_of (without_bom bytes) ≡ Some d → bundle rs url bytes ≡ under Some (group rs (document_base own d) [] d)
is_read rs url bytes own d short base json = rw (short, base, json) refl

of_written : (rs : List Resource) (url bytes : List ℕ) (r : Read Data) (result : Result (Vec ℕ Global) Refusal) → bundle rs url bytes ≡ under Some r
    → Writes r result → Bundles rs url bytes result
of_written rs url bytes r (Ok new) e h = record { faults = rw e h.0; bytes = rw e h.1 }
of_written rs url bytes r (Err fault) e h = rw e h

pub bundles : (rs : List Resource) (url bytes : List ℕ) (own : Parts) (d : Data) (result : Result (Vec ℕ Global) Refusal)
    → (nat_eq (length rs) 0 || nat_lt MAX_DOCUMENT (length bytes)) ≡ false → base_of None url ≡ Ok own → json_of (without_bom bytes) ≡ Some d → Writes (group rs (document_base own d) [] d) result → Bundles rs url bytes result
bundles rs url bytes own d result short base json h =
    of_written rs url bytes (group rs (document_base own d) [] d) result (is_read rs url bytes own d short base json) h
