-- Bytes that leave their place as it is.
use Rattle.std.proofs.Common.{◌≡◌, ◌==◌, ℕ, true, false, not, Some, refl}
use Rattle.std.proofs.lemmas.Bool.{not-true}
use Rattle.percent_encoding.specs.Percent.{IsKept}
use Rattle.url.proofs.SetLemmas.{passes_from_kept}
use Rattle.csvw_iri.specs.declared.own.Place.TheVariants.{Path, Query, Fragment}
use Rattle.csvw_iri.specs.declared.own.TheConstants.{BUT_STAYING}
use Rattle.csvw_iri.specs.Own.{is_plain, step}

plain : (b : ℕ) → IsKept BUT_STAYING b → is_plain b ≡ true
plain b kept = passes_from_kept BUT_STAYING is_plain refl b kept

no_slash : (b : ℕ) → IsKept BUT_STAYING b → (b == 47) ≡ false
no_slash b kept = not-true _ (passes_from_kept BUT_STAYING (λ x. not (x == 47)) refl b kept)

no_question_mark : (b : ℕ) → IsKept BUT_STAYING b → (b == 63) ≡ false
no_question_mark b kept = not-true _ (passes_from_kept BUT_STAYING (λ x. not (x == 63)) refl b kept)

no_hash : (b : ℕ) → IsKept BUT_STAYING b → (b == 35) ≡ false
no_hash b kept = not-true _ (passes_from_kept BUT_STAYING (λ x. not (x == 35)) refl b kept)

no_quote : (b : ℕ) → IsKept BUT_STAYING b → (b == 39) ≡ false
no_quote b kept = not-true _ (passes_from_kept BUT_STAYING (λ x. not (x == 39)) refl b kept)

pub in_path : (b : ℕ) → IsKept BUT_STAYING b → step Path b ≡ Some Path
in_path b kept = rw (no_slash b kept, no_question_mark b kept, no_hash b kept, plain b kept) refl

pub in_query : (b : ℕ) → IsKept BUT_STAYING b → step Query b ≡ Some Query
in_query b kept = rw (no_hash b kept, plain b kept, no_quote b kept) refl

pub in_fragment : (b : ℕ) → IsKept BUT_STAYING b → step Fragment b ≡ Some Fragment
in_fragment b kept = rw (plain b kept) refl

pub ruleset staying = (in_path, in_query, in_fragment)
