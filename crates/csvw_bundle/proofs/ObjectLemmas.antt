-- Members without one of them, and with an `@id`.
use Rattle.std.proofs.Common.{◌≡◌, ℕ, List, [], ◌∷◌, Bool, true, false, cond, Option, Some, None, option_map, Bor, string_bytes, nat_cmp, refl, sym, ap, ◌∙◌, codes, if◌then◌else◌}
use Rattle.std.proofs.lemmas.Bool.{cond-true, cond-false}
use Rattle.std.proofs.lemmas.Map.Text.{is_eq-slice_cmp}
use Rattle.std.specs.Cmp.Lexicographic.{slice_cmp}
use Rattle.std.specs.Map.{remove_entry}
use Rattle.std.specs.BTreeMap.{is_at}
use Rattle.std.specs.Prelude.{is_some}
use Rattle.serde_json.specs.Data.{Data, Members, member, put, string}
use Rattle.serde_json.specs.Find.{get}
use Rattle.serde_json.specs.View.{view, members_view}
use Rattle.serde_json.specs.declared.value.Value.{Value}
use Rattle.serde_json.proofs.Views.{Entry}
use Rattle.csvw_bundle.specs.Resources.{identified, without}

in_either : (b : Bool) (e : Entry) (left right : List Entry)
    → members_view (cond b left (e ∷ right)) ≡ (if b then members_view left else member (string_bytes e.0) (view e.1) (members_view right))
in_either true e left right = refl
in_either false e left right = refl

-- the entries without that of a name are the members without it
pub removed : (name : List ℕ) (es : List Entry)
    → members_view (remove_entry (is_at (λ k. slice_cmp nat_cmp name (string_bytes k))) es) ≡ without name (members_view es)
removed name [] = refl
removed name (e ∷ es) = in_either _ e es _ ∙ rw (is_eq-slice_cmp name (string_bytes e.0), removed name es) refl

pub is_found : (o : Option (Bor Value)) (d : Option Data) → option_map (λ v. view v.now) o ≡ d → is_some d ≡ is_some o
is_found None d e = sym (ap is_some e)
is_found (Some v) d e = sym (ap is_some e)

pub stays : (url : List ℕ) (d : Data) (ms : Members) → is_some (get (codes "@id") d) ≡ true → identified url d ms ≡ ms
stays url d ms h = cond-true _ _ _ h

pub is_identified : (url : List ℕ) (d : Data) (ms : Members) → is_some (get (codes "@id") d) ≡ false → identified url d ms ≡ put (codes "@id") (string url) ms
is_identified url d ms h = cond-false _ _ _ h
