-- A fragment resolves to the base with that fragment.
use Rattle.std.proofs.Common.{◌≡◌, ℕ, ◌-◌, true, false, cond, not, List, [], ◌∷◌, ◌++◌, length, reverse, Some, None, Ok, All, refl, ap, sym, subst}
use Rattle.std.proofs.Common.{◌∙◌, append-nil, arith, nat_lt, one-add, take_all}
use Rattle.std.specs.Prelude.{codes}
use Rattle.std.specs.List.{prefix_len, before_first, after_first, position_or_len}
use Rattle.std.proofs.lemmas.Bool.{cond-false, cond_both, and_right, not-true}
use Rattle.std.proofs.lemmas.Grind.{flat_map-append}
use Rattle.std.proofs.lemmas.List.{get_or-reverse, length-reverse}
use Rattle.std.proofs.lemmas.List.Elements.{All-nil, All-head, All-weaker}
use Rattle.percent_encoding.specs.Percent.{IsKept}
use Rattle.percent_encoding.proofs.PercentLemmas.{percent_encode_unchanged}
use Rattle.url.specs.declared.sets.TheConstants.{FRAGMENT}
use Rattle.url.specs.declared.slicing.Position.TheVariants.{AfterQuery}
use Rattle.url.specs.Input.{is_c0_control_or_space, is_tab_or_new_line, trim_c0_control_and_space, strip_tabs_and_new_lines, split_once}
use Rattle.url.specs.Scheme.{scheme_len}
use Rattle.url.specs.Parts.{Parts, serialize, text_before, cannot_be_a_base, IsValid}
use Rattle.url.specs.Parser.{split_scheme, parse_parts, parse_by_scheme, parse_url, with_tail}
use Rattle.url.proofs.InputLemmas.{IsNot, Passes, split_once_at, filter_all}
use Rattle.url.proofs.SetLemmas.{passes_from_kept}
use Rattle.url.proofs.RoundTrip.{fragment_text}
use Rattle.csvw_iri.specs.declared.own.Place.TheVariants.{Fragment}
use Rattle.csvw_iri.specs.Safe.{is_iri, safe, safe_byte}
use Rattle.csvw_iri.specs.Prefix.{iri_of_prefix, expanded_by, expanded, is_colon}
use Rattle.csvw_iri.specs.Link.{max_text, of_parse, url_of, iri_of, under, resolved}
use Rattle.csvw_iri.specs.Own.{IsFragmentLink, goes_on}
use Rattle.csvw_iri.proofs.SafeLemmas.{unchanged}
use Rattle.csvw_iri.proofs.LinkLemmas.{kept_query, no_fragment_text}
use Rattle.csvw_iri.proofs.OwnLemmas.{found}
use Rattle.csvw_iri.proofs.OwnLinks.{all_raw}

-- ---- no prefix

no_prefix : (rest : List ℕ) → iri_of_prefix (before_first is_colon (35 ∷ rest)) ≡ None
unfolding iri_of_prefix
no_prefix rest = rw one-add refl

stays : (rest : List ℕ) → expanded (35 ∷ rest) ≡ 35 ∷ rest
unfolding expanded
stays rest =
    let text = 35 ∷ rest in
    ap (λ iri. cond (nat_lt (position_or_len is_colon text) (length text)) (expanded_by iri (after_first is_colon text) text) text) (no_prefix rest)
    ∙ cond_both _ text text (λ t. t ≡ text) (λ _. refl) (λ _. refl)

-- ---- nothing is trimmed

abbrev IsSeen : ℕ → Type 0
IsSeen b = is_c0_control_or_space b ≡ false

seen_byte : (b : ℕ) → IsKept FRAGMENT b → IsSeen b
seen_byte b kept = not-true _ (passes_from_kept FRAGMENT (λ x. not (is_c0_control_or_space x)) refl b kept)

whole_byte : (b : ℕ) → IsKept FRAGMENT b → not (is_tab_or_new_line b) ≡ true
whole_byte b kept = passes_from_kept FRAGMENT (λ x. not (is_tab_or_new_line x)) refl b kept

none_trimmed : (xs : List ℕ) → All IsSeen xs → prefix_len is_c0_control_or_space xs ≡ 0
none_trimmed [] seen = refl
none_trimmed (x ∷ xs) seen = cond-false _ _ _ (All-head IsSeen x xs seen)

All-reverse : (xs : List ℕ) → All IsSeen xs → All IsSeen (reverse xs)
All-reverse xs seen = λ k d inside.
    let len = length-reverse xs in
    subst IsSeen (sym (get_or-reverse xs k d (omega arith))) (seen (length xs - 1 - k) d (omega arith))

untrimmed : (xs : List ℕ) → All IsSeen xs → trim_c0_control_and_space xs ≡ xs
unfolding trim_c0_control_and_space
untrimmed xs seen = rw (none_trimmed xs seen, none_trimmed (reverse xs) (All-reverse xs seen)) (take_all _ xs (omega arith))

unstripped : (xs : List ℕ) → All (IsKept FRAGMENT) xs → strip_tabs_and_new_lines xs ≡ xs
unfolding strip_tabs_and_new_lines
unstripped xs kept =
    filter_all _ xs (All-weaker (IsKept FRAGMENT) (Passes (λ b. not (is_tab_or_new_line b))) whole_byte xs kept)

-- ---- the URL

with_fragment : Parts → List ℕ → Parts
with_fragment base rest = record base { fragment = Some rest }

own_tail : (base : Parts) (rest : List ℕ) → IsValid base → All (IsKept FRAGMENT) rest → with_tail base base.query (Some rest) ≡ with_fragment base rest
unfolding with_fragment
own_tail base rest valid kept = λ i. record base { query = kept_query base valid i; fragment = Some (percent_encode_unchanged FRAGMENT rest kept i) }

no_scheme : split_scheme [] ≡ None
unfolding split_scheme scheme_len
no_scheme = refl

no_question : split_once 63 [] ≡ ([], None)
unfolding split_once
no_question = refl

parsed : (base : Parts) (rest : List ℕ) → IsValid base → All (IsKept FRAGMENT) (35 ∷ rest) → All (IsKept FRAGMENT) rest
    → parse_url (Some base) (35 ∷ rest) ≡ Ok (with_fragment base rest)
unfolding parse_url parse_parts
parsed base rest valid all kept =
    let text = 35 ∷ rest in
    let clean = ap strip_tabs_and_new_lines (untrimmed text (All-weaker (IsKept FRAGMENT) IsSeen seen_byte text all)) ∙ unstripped text all in
    let hash = ap (split_once 35) clean ∙ split_once_at 35 [] rest (All-nil (IsNot 35)) in
    let question = ap (λ r. split_once 63 r.0) hash ∙ no_question in
    let scheme = ap (λ r. split_scheme r.0) question ∙ no_scheme in
    (λ i. parse_by_scheme (scheme i) (Some base) (question i).0 (question i).1 (hash i).1)
    ∙ cond-false _ _ _ (and_right (cannot_be_a_base base) _ refl) ∙ ap Ok (own_tail base rest valid kept)

spelled : (base : Parts) (rest : List ℕ) → base.fragment ≡ None → serialize (with_fragment base rest) ≡ serialize base ++ 35 ∷ rest
unfolding with_fragment
spelled base rest none =
    fragment_text (with_fragment base rest) ∙ ap (λ l. text_before base AfterQuery ++ 35 ∷ l) (append-nil rest)
    ∙ ap (λ l. l ++ 35 ∷ rest) (sym (no_fragment_text base none))

safe_text : (url rest : List ℕ) → is_iri rest ≡ true → safe (url ++ rest) ≡ safe url ++ rest
unfolding safe
safe_text url rest raw = flat_map-append safe_byte url rest ∙ ap (λ l. safe url ++ l) (unchanged rest raw)

hash_link : (rest : List ℕ) → goes_on (Some Fragment) rest ≡ true → nat_lt max_text (length (35 ∷ rest)) ≡ false → IsFragmentLink (35 ∷ rest)
unfolding url_of
hash_link rest goes short base valid none =
    let text = 35 ∷ rest in
    ap (resolved base) (stays rest) ∙ ap (under iri_of) (cond-false _ _ _ short)
    ∙ ap (λ r. under iri_of (of_parse r)) (parsed base rest valid (found text Fragment goes) (found rest Fragment goes))
    ∙ ap Ok (ap safe (spelled base rest none) ∙ safe_text (serialize base) text (all_raw text Fragment goes))

pub fragment_link : (text rest : List ℕ) → text ≡ codes "#" ++ rest → goes_on (Some Fragment) rest ≡ true
    → nat_lt max_text (length text) ≡ false → IsFragmentLink text
fragment_link text rest split goes short =
    subst IsFragmentLink (sym split) (hash_link rest goes (ap (λ t. nat_lt max_text (length t)) (sym split) ∙ short))

pub fragment_raw : (text rest : List ℕ) → text ≡ codes "#" ++ rest → goes_on (Some Fragment) rest ≡ true → is_iri text ≡ true
fragment_raw text rest split goes = ap is_iri split ∙ all_raw (35 ∷ rest) Fragment goes
