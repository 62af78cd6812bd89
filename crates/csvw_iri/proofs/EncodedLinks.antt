-- Percent-encoded texts stay in the path, the query or the fragment in which they are.
use Rattle.std.proofs.Common.{◌≡◌, ◌==◌, ◌||◌, ◌&&◌, ℕ}
use Rattle.std.proofs.Common.{true, false, not, Bool, Some, List, [], ◌∷◌, ◌++◌, length, All, refl, sym, ap, ◌∙◌, subst, nat_le, nat_lt}
use Rattle.std.proofs.Common.{arith, ◌≤◌, slice_index_or, Ok, ◌⊎◌, inl, inr}
use Rattle.std.proofs.lemmas.List.Folds.{list_all-append}
use Rattle.std.proofs.lemmas.Bool.{and_parts, cond-true}
use Rattle.std.proofs.lemmas.Bool.Decides.{nat_tests}
use Rattle.std.proofs.lemmas.List.Elements.{All-head, All-tail}
use Rattle.percent_encoding.specs.Percent.{IsKept}
use Rattle.percent_encoding.proofs.PercentLemmas.{IsEscapeByte, All-percent_encode}
use Rattle.url.specs.Parts.{Parts}
use Rattle.url.proofs.SetLemmas.{kept_by_smaller, kept_from_passes}
use Rattle.csvw_text.specs.Class.{is_unreserved_char}
use Rattle.csvw_iri.specs.declared.encoded.TheConstants.{BUT_UNRESERVED}
use Rattle.csvw_iri.specs.declared.own.Place.{Place}
use Rattle.csvw_iri.specs.declared.own.Place.TheVariants.{Segment, Path, Query, Fragment}
use Rattle.csvw_iri.specs.declared.own.TheConstants.{BUT_STAYING}
use Rattle.csvw_iri.specs.Safe.{is_iri}
use Rattle.csvw_iri.specs.Link.{max_text, link_of}
use Rattle.csvw_iri.specs.Encoded.{percent_encoded}
use Rattle.csvw_iri.specs.Own.{IsOwnFront, goes_on, is_end, step}
use Rattle.csvw_iri.proofs.EncodedLemmas.{all_but_unreserved, unreserved_kept}
use Rattle.csvw_iri.proofs.StayingLemmas.{in_path, in_query, in_fragment}
use Rattle.csvw_iri.proofs.FrontLemmas.{GoesOn, goes_behind}
use Rattle.csvw_iri.proofs.OwnLinks.{own_link, own_raw}

-- `%` or a hexadecimal digit in upper case
abbrev is_escape_byte : ℕ → Bool
is_escape_byte b = b == 37 || ((nat_le 48 b && nat_le b 57) || (nat_le 65 b && nat_le b 70))

kept_escape : (b : ℕ) → IsEscapeByte b → IsKept BUT_STAYING b
kept_escape b h =
    kept_from_passes is_escape_byte BUT_STAYING refl b (grind (arith, nat_tests)) (grind (arith, nat_tests))

kept_unreserved : (b : ℕ) → IsKept BUT_UNRESERVED b → IsKept BUT_STAYING b
kept_unreserved b kept = kept_by_smaller BUT_UNRESERVED BUT_STAYING refl b kept

stays : (text : List ℕ) → All (IsKept BUT_STAYING) (percent_encoded text)
stays text =
    subst (λ l. All (IsKept BUT_STAYING) l) (all_but_unreserved text)
    (All-percent_encode (IsKept BUT_STAYING) BUT_UNRESERVED text kept_unreserved kept_escape)

staying : (place : Place) → ((b : ℕ) → IsKept BUT_STAYING b → step place b ≡ Some place) → is_end place ≡ true
    → (text : List ℕ) → All (IsKept BUT_STAYING) text → goes_on (Some place) text ≡ true
staying place steps ended [] kept = ended
staying place steps ended (b ∷ text) kept =
    ap (λ p. goes_on p text) (steps b (All-head (IsKept BUT_STAYING) b text kept))
    ∙ staying place steps ended text (All-tail (IsKept BUT_STAYING) b text kept)

pub path_takes : (text : List ℕ) → goes_on (Some Path) (percent_encoded text) ≡ true
path_takes text = staying Path in_path refl (percent_encoded text) (stays text)

pub query_takes : (text : List ℕ) → goes_on (Some Query) (percent_encoded text) ≡ true
query_takes text = staying Query in_query refl (percent_encoded text) (stays text)

pub fragment_takes : (text : List ℕ) → goes_on (Some Fragment) (percent_encoded text) ≡ true
fragment_takes text = staying Fragment in_fragment refl (percent_encoded text) (stays text)

encoded_first : (b : ℕ) (text : List ℕ) → is_unreserved_char b ≡ true → percent_encoded (b ∷ text) ≡ b ∷ percent_encoded text
encoded_first b text unreserved = ap (λ x. x ++ percent_encoded text) (cond-true _ _ _ unreserved)

-- a segment that begins with an unreserved character other than `.` is no dot segment
begins : (b : ℕ) → is_unreserved_char b ≡ true → not (b == 46) ≡ true → step Segment b ≡ Some Path
begins b unreserved no_dot =
    let dot : (b == 46) ≡ false = grind (arith, nat_tests) in
    let percent : (b == 37) ≡ false = grind (arith, nat_tests) in
    rw (dot, percent) (in_path b (kept_unreserved b (unreserved_kept b unreserved)))

pub segment_takes : (text : List ℕ) → 1 ≤ length text → is_unreserved_char (slice_index_or text 0 0) ≡ true
    → not (slice_index_or text 0 0 == 46) ≡ true → goes_on (Some Segment) (percent_encoded text) ≡ true
segment_takes [] some unreserved no_dot = absurd (omega (arith, some))
segment_takes (b ∷ text) some unreserved no_dot =
    ap (goes_on (Some Segment)) (encoded_first b text unreserved) ∙ ap (λ p. goes_on p (percent_encoded text)) (begins b unreserved no_dot) ∙ path_takes text

-- in any of three places
pub place_takes : (place : Place) (text : List ℕ) → (place ≡ Path) ⊎ ((place ≡ Query) ⊎ (place ≡ Fragment)) → goes_on (Some place) (percent_encoded text) ≡ true
place_takes place text (inl e) = ap (λ p. goes_on (Some p) (percent_encoded text)) e ∙ path_takes text
place_takes place text (inr (inl e)) = ap (λ p. goes_on (Some p) (percent_encoded text)) e ∙ query_takes text
place_takes place text (inr (inr e)) = ap (λ p. goes_on (Some p) (percent_encoded text)) e ∙ fragment_takes text

-- behind a front
module _ (front : List ℕ) (place : Place) (more : List ℕ) (is_front : IsOwnFront front place) (goes : goes_on (Some place) more ≡ true) where
  on : GoesOn (front ++ more)
  on = goes_behind front place more (front ++ more) is_front refl goes

  pub both_raw : (is_iri front ≡ true) × (is_iri more ≡ true)
  both_raw = and_parts _ _ (sym (list_all-append _ front more) ∙ own_raw (front ++ more) on.rest on.of_scheme on.goes)

  pub link_behind : nat_lt max_text (length (front ++ more)) ≡ false → (base : Parts) → link_of base (front ++ more) ≡ Ok (front ++ more)
  link_behind short base = (own_link (front ++ more) on.rest on.of_scheme on.goes short base).1
