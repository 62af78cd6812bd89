-- A text stays longer than the limit when its prefix is replaced: each prefix is shorter than its IRI.
use Rattle.std.proofs.Common.{◌≡◌, ℕ, ◌+◌, ◌<◌, ◌≤◌, List, [], ◌∷◌, ◌++◌, Bool, true, Option, Some, None, length, take, drop, refl, ap, arith, nat_lt}
use Rattle.std.proofs.Common.{length-append, length-drop, length-take}
use Rattle.std.specs.Prelude.{bytes_eq, codes, nat_eq}
use Rattle.std.specs.List.{after_first, before_first, list_all, position_or_len, starts_with}
use Rattle.std.proofs.lemmas.Bool.{and_parts, cond_both, cond-true, ltb-true}
use Rattle.std.proofs.lemmas.Bool.Decides.{nat_tests}
use Rattle.std.proofs.lemmas.Slice.Eq.{bytes_eq-Decides}
use Rattle.csvw_iri.specs.Link.{LongTextsHaveNoLink, iri_of, max_text, under, url_of}
use Rattle.csvw_iri.specs.Prefix.{expanded, expanded_by, first_of, iri_of_prefix, is_colon, prefixes}

abbrev is_shorter : List ℕ × List ℕ → Bool
is_shorter p = nat_lt (length p.0) (length p.1)

-- the IRI that is found, if there is one, is longer than the name
abbrev IsLonger : ℕ → Option (List ℕ) → Type 0
IsLonger n None = Unit {0}
IsLonger n (Some iri) = n < length iri

first_longer : (name : List ℕ) (ps : List (List ℕ × List ℕ)) → list_all is_shorter ps ≡ true → IsLonger (length name) (first_of name ps)
first_longer name [] all = tt
first_longer name (p ∷ ps) all =
    let both = and_parts _ _ all in
    cond_both (bytes_eq name p.0) (Some p.1) (first_of name ps) (IsLonger (length name))
    (λ same.
    let e : length name ≡ length p.0 = ap (λ (l : List ℕ). length l) ((bytes_eq-Decides name p.0).0 same) in
    let shorter : length p.0 < length p.1 = ltb-true _ _ both.0 in
    omega arith)
    (λ _. first_longer name ps both.1)

prefix_longer : (name : List ℕ) → IsLonger (length name) (iri_of_prefix name)
unfolding iri_of_prefix
prefix_longer name = first_longer name prefixes refl

by_prefix : (found : Option (List ℕ)) (name rest text : List ℕ) → IsLonger (length name) found → length text ≡ length name + 1 + length rest
    → length text ≤ length (expanded_by found rest text)
by_prefix None name rest text longer split = omega arith
by_prefix (Some iri) name rest text longer split =
    cond_both (starts_with nat_eq rest (codes "//")) text (iri ++ rest) (λ (t : List ℕ). length text ≤ length t)
    (λ _. omega arith) (λ _. let both = length-append iri rest in omega arith)

split_at : (text : List ℕ) (n : ℕ) → n < length text → length text ≡ length (take n text) + 1 + length (drop (n + 1) text)
split_at text n lt =
    let front = length-take n text in
    let back = length-drop (n + 1) text in
    omega arith

no_shorter : (text : List ℕ) → length text ≤ length (expanded text)
unfolding expanded
no_shorter text =
    let n = position_or_len is_colon text in
    let name = before_first is_colon text in
    let rest = after_first is_colon text in
    cond_both (nat_lt n (length text)) (expanded_by (iri_of_prefix name) rest text) text (λ (t : List ℕ). length text ≤ length t)
    (λ lt. by_prefix (iri_of_prefix name) name rest text (prefix_longer name) (split_at text n (ltb-true _ _ lt)))
    (λ _. omega arith)

pub long_texts_have_no_link : LongTextsHaveNoLink
unfolding url_of
long_texts_have_no_link base text long =
    let longer = no_shorter text in
    let past : nat_lt max_text (length (expanded text)) ≡ true = grind (arith, nat_tests) in
    ap (under iri_of) (cond-true _ _ _ past)
