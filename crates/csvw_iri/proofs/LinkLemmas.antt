-- A URL without its fragment: its query needs no more escapes, and its text has no `#`.
use Rattle.std.proofs.Common.{◌≡◌, Option, Some, None, refl, ap, List, ℕ, option_map, All, IfSome, ◌∷◌, ◌++◌, ◌∙◌, append-nil, subst, sym, false, arith}
use Rattle.std.proofs.lemmas.Bool.Decides.{nat_tests}
use Rattle.std.proofs.lemmas.List.Elements.{All-weaker}
use Rattle.std.specs.Prelude.{is_some, unwrap_or, []}
use Rattle.url.specs.Input.{when}
use Rattle.url.specs.declared.slicing.Position.TheVariants.{AfterPath, AfterQuery}
use Rattle.url.proofs.InputLemmas.{IsNot, Passes}
use Rattle.url.proofs.TextLemmas.{is_body_byte, body_bytes}
use Rattle.url.proofs.RoundTrip.{fragment_text, All-query_text}
use Rattle.csvw_iri.specs.Safe.{has_hash}
use Rattle.csvw_iri.proofs.SafeLemmas.{has_hash-safe}
use Rattle.url.specs.Parts.{Parts, IsValid, query_set, kind_of, serialize, text_before}
use Rattle.url.specs.Parser.{with_tail}
use Rattle.percent_encoding.specs.Percent.{IsKept, percent_encode}
use Rattle.percent_encoding.specs.declared.ascii_set.AsciiSet.{AsciiSet}
use Rattle.percent_encoding.proofs.PercentLemmas.{percent_encode_unchanged}
use Rattle.csvw_iri.specs.Link.{without_fragment, iri_of}

kept : (set : AsciiSet) (q : Option (List ℕ)) → IfSome q (All (IsKept set)) → option_map (percent_encode set) q ≡ q
kept set None h = refl
kept set (Some q) h = ap Some (percent_encode_unchanged set q h)

pub kept_query : (url : Parts) → IsValid url → option_map (percent_encode (query_set (kind_of url))) url.query ≡ url.query
kept_query url valid = kept (query_set (kind_of url)) url.query valid.query

pub with_tail-same : (url : Parts) → IsValid url → with_tail url url.query None ≡ without_fragment url
with_tail-same url valid = ap (λ q. record url { query = q; fragment = None }) (kept_query url valid)

pub no_fragment_text : (url : Parts) → url.fragment ≡ None → serialize url ≡ text_before url AfterQuery
no_fragment_text url e =
    fragment_text url
    ∙ ap (λ (f : Option (List ℕ)). text_before url AfterQuery ++ (when (is_some f) (35 ∷ []) ++ (unwrap_or f [] ++ []))) e
    ∙ append-nil (text_before url AfterQuery)

-- no `#` stands in front of a fragment
hashless : (url : Parts) → IsValid url → All (IsNot 35) (text_before url AfterQuery)
hashless url valid =
    let body = All-weaker (Passes is_body_byte) (IsNot 35) (λ b passes e. grind (arith, nat_tests)) (text_before url AfterPath) (body_bytes url valid) in
    All-query_text (IsNot 35) url valid body (λ e. omega arith) (λ b passes e. grind (arith, nat_tests))

pub has_hash-iri_of : (url : Parts) → IsValid url → url.fragment ≡ None → has_hash (iri_of url) ≡ false
has_hash-iri_of url valid e = has_hash-safe (serialize url) (subst (All (IsNot 35)) (sym (no_fragment_text url e)) (hashless url valid))
