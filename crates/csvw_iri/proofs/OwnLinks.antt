-- If a pass over the bytes after the scheme finds the parts of a URL, the text is that URL's text and resolves to itself.
use Rattle.std.proofs.Common.{◌≡◌, ℕ, ◌<◌, true, false, not, ◌&&◌, ◌||◌, ◌==◌, List, [], ◌∷◌, ◌++◌, length, get_or, Option, Some, None, Ok, All, inl}
use Rattle.std.proofs.Common.{inr, refl, ap, sym, ◌∙◌, subst, append_assoc, arith, nat_lt, lit<}
use Rattle.std.specs.Prelude.{codes, IfSome}
use Rattle.std.specs.List.{list_all}
use Rattle.std.specs.Char.{is_digit, is_ascii_digit, to_ascii_lowercase}
use Rattle.std.proofs.lemmas.Bool.{cond-false, cond_both, true≢false, and_from, and_parts, eqb-true}
use Rattle.std.proofs.lemmas.Bool.Decides.{nat_tests}
use Rattle.std.proofs.lemmas.List.Elements.{All-nil, All-cons, All-weaker}
use Rattle.percent_encoding.specs.Percent.{IsKept}
use Rattle.url.specs.declared.sets.TheConstants.{USERINFO, FORBIDDEN_DOMAIN}
use Rattle.url.specs.declared.host.Host.TheVariants.{Domain}
use Rattle.url.specs.declared.scheme.SchemeType.TheVariants.{SpecialNotFile}
use Rattle.url.specs.Input.{is_empty, rsplit_once}
use Rattle.url.specs.Scheme.{IsScheme, scheme_type, default_port, scheme_len}
use Rattle.url.specs.Ipv4.{is_number, last_label_of, parse_number, ends_in_a_number}
use Rattle.url.specs.Host.{IsDomain, IsHostOf}
use Rattle.url.specs.Path.{IsSegment, IsSegmentList, join_segments}
use Rattle.url.specs.Parts.{Parts, serialize, query_set, IsHierarchicalPath, IsValidHead, IsValid}
use Rattle.url.specs.Parser.{parse_url}
use Rattle.url.proofs.InputLemmas.{Passes, map_fixed, is_empty_nonempty}
use Rattle.url.proofs.Theorems.{parse_url-serialize_special}
use Rattle.csvw_iri.specs.declared.own.Place.{Place}
use Rattle.csvw_iri.specs.declared.own.Place.TheVariants.{Front, Label, Segment, Percent, Path, Query, Fragment}
use Rattle.csvw_iri.specs.Safe.{is_forbidden, is_iri, safe}
use Rattle.csvw_iri.specs.Prefix.{iri_of_prefix, expanded}
use Rattle.csvw_iri.specs.Link.{max_text, of_parse, url_of, iri_of, under, resolved}
use Rattle.csvw_iri.specs.Own.{IsOwnLink, IsOfScheme, is_plain, is_lower, is_of_label, of_label, of_path, of_query, step, goes_on}
use Rattle.csvw_iri.proofs.SafeLemmas.{unchanged}
use Rattle.csvw_iri.proofs.OwnLemmas.{is_of_host, host_byte, whole_segment, tail_text, PathRest, IsNamed, Found, found}

-- ---- the host

last_stands : (front : Option (List ℕ)) (last : List ℕ) → 0 < length last → last_label_of front last ≡ last
last_stands None last some = refl
last_stands (Some front) last some = cond-false _ _ _ (is_empty_nonempty last some)

begins : (last : List ℕ) → is_lower (get_or last 0 0) ≡ true → 0 < length last
begins [] lower = absurd (true≢false (sym lower))
begins (b ∷ last) lower = omega arith

no_number : (last : List ℕ) → is_lower (get_or last 0 0) ≡ true
    → ((not (is_empty last) && list_all is_ascii_digit last) || is_number (parse_number last)) ≡ false
unfolding parse_number
no_number [] lower = absurd (true≢false (sym lower))
no_number (b ∷ last) lower =
    let no_zero : (b == 48) ≡ false = grind (arith, nat_tests) in
    let no_digit : is_ascii_digit b ≡ false = grind (arith, nat_tests) in
    let no_decimal : is_digit b 10 ≡ false = grind (arith, nat_tests) in
    let some = is_empty_nonempty (b ∷ last) (omega arith) in
    rw (some, no_digit, no_zero, no_decimal) refl

named_host : (host : List ℕ) → IsNamed (rsplit_once 46 host) → ends_in_a_number host ≡ false
unfolding ends_in_a_number
named_host host named =
    let split = rsplit_once 46 host in
    ap (λ l. (not (is_empty l) && list_all is_ascii_digit l) || is_number (parse_number l)) (last_stands split.0 split.1 (begins split.1 named))
    ∙ no_number split.1 named

lower_stays : (b : ℕ) → is_of_host b ≡ true → to_ascii_lowercase b ≡ b
lower_stays b h = grind (arith, nat_tests)

domain : (host : List ℕ) → All (Passes is_of_host) host → IsNamed (rsplit_once 46 host) → IsDomain host
domain host plain named = record {
  allowed = All-weaker (Passes is_of_host) (IsKept FORBIDDEN_DOMAIN) host_byte host plain;
  lower = map_fixed to_ascii_lowercase host (All-weaker (Passes is_of_host) (λ b. to_ascii_lowercase b ≡ b) lower_stays host plain);
  named = named_host host named;
}

nonempty : (host : List ℕ) → IsNamed (rsplit_once 46 host) → 0 < length host
unfolding rsplit_once
nonempty [] named = absurd (true≢false (sym named))
nonempty (b ∷ host) named = omega arith

-- ---- the URL

abbrev found_url : List ℕ → (bytes : List ℕ) → Found Front bytes → Parts
found_url scheme bytes front =
    let h = front.0 in
    let r = h.rest.0 in
    record {
      scheme = scheme;
      username = [];
      password = [];
      host = Some (Domain h.host);
      port = None;
      path = 47 ∷ (r.segment ++ join_segments r.segments);
      query = r.query;
      fragment = r.fragment;
    }

spelled : (scheme bytes : List ℕ) (front : Found Front bytes) → serialize (found_url scheme bytes front) ≡ scheme ++ (codes "://" ++ bytes)
spelled scheme bytes front =
    let h = front.0 in
    let r = h.rest.0 in
    ap (λ l. scheme ++ (codes "://" ++ (h.host ++ 47 ∷ l))) (append_assoc r.segment (join_segments r.segments) (tail_text r.query r.fragment) ∙ sym r.spelled)
    ∙ ap (λ l. scheme ++ (codes "://" ++ l)) (sym h.spelled)

module _ (scheme : List ℕ) (is_scheme : IsScheme scheme) (kind : scheme_type scheme ≡ SpecialNotFile) (bytes : List ℕ) (front : Found Front bytes) where
  abbrev url : Parts
  url = found_url scheme bytes front

  valid_head : IsValidHead url
  valid_head = record {
    scheme = is_scheme;
    username = All-nil (IsKept USERINFO);
    password = All-nil (IsKept USERINFO);
    host = subst (λ k. IsHostOf k (Domain front.0.host)) (sym kind) (domain front.0.host front.0.plain front.1, nonempty front.0.host front.1);
    port = tt;
    bare = λ _. (refl, refl, refl);
  }

  segments_of : PathRest front.0.path → List (List ℕ)
  segments_of r = r.segment ∷ r.segments

  path_list : IsSegmentList SpecialNotFile url.path
  path_list =
      let r = front.0.rest.0 in
      record {
        segments = r.segment ∷ r.segments;
        joined = refl;
        each = All-cons (IsSegment SpecialNotFile) r.segment r.segments (whole_segment r.segment r.plain front.0.rest.1) r.each;
      }

  valid : IsValid url
  valid = record {
    head = valid_head;
    path = inl (subst (λ k. IsHierarchicalPath k url.path) (sym kind) (path_list, λ _. omega arith));
    query = subst (λ k. IfSome url.query (All (IsKept (query_set k)))) (sym kind) front.0.rest.0.query_kept;
    fragment = front.0.rest.0.fragment_kept;
  }

  parsed : (base : Option Parts) → parse_url base (scheme ++ (codes "://" ++ bytes)) ≡ Ok url
  parsed base =
      ap (parse_url base) (sym (spelled scheme bytes front)) ∙ parse_url-serialize_special url base valid kind

  own : (base : Parts) (text : List ℕ) → text ≡ scheme ++ (codes "://" ++ bytes) → is_iri text ≡ true
      → nat_lt max_text (length text) ≡ false → resolved base text ≡ Ok text
  unfolding url_of
  own base text is_text raw short =
      ap (under iri_of) (cond-false _ _ _ short) ∙ ap (λ t. under iri_of (of_parse (parse_url (Some base) t))) is_text
      ∙ ap (λ r. under iri_of (of_parse r)) (parsed (Some base)) ∙ ap Ok (ap safe (spelled scheme bytes front ∙ sym is_text) ∙ unchanged text raw)

-- ---- nothing is to be made safe

-- a byte is raw where it is one that is
raw_as : (b k : ℕ) → (b == k) ≡ true → not (is_forbidden k) ≡ true → not (is_forbidden b) ≡ true
raw_as b k same raw = ap (λ n. not (is_forbidden n)) (eqb-true b k same) ∙ raw

plain_raw : (b : ℕ) → is_plain b ≡ true → not (is_forbidden b) ≡ true
plain_raw b plain = grind (arith, nat_tests)

path_raw : (b : ℕ) (bytes : List ℕ) → goes_on (of_path b) bytes ≡ true → not (is_forbidden b) ≡ true
path_raw b bytes =
    let P : Option Place → Type 0 = λ p. goes_on p bytes ≡ true → not (is_forbidden b) ≡ true in
    cond_both (b == 47) _ _ P (λ e h. raw_as b 47 e refl)
    (λ _. cond_both (b == 63) _ _ P (λ e h. raw_as b 63 e refl)
    (λ _. cond_both (b == 35) _ _ P (λ e h. raw_as b 35 e refl)
    (λ _. cond_both (is_plain b) _ _ P (λ e h. plain_raw b e) (λ _ h. absurd (true≢false (sym h))))))

label_raw : (b : ℕ) (bytes : List ℕ) → goes_on (of_label b) bytes ≡ true → not (is_forbidden b) ≡ true
label_raw b bytes =
    let P : Option Place → Type 0 = λ p. goes_on p bytes ≡ true → not (is_forbidden b) ≡ true in
    cond_both (is_of_label b) _ _ P (λ e h. grind (arith, nat_tests))
    (λ _. cond_both (b == 46) _ _ P (λ e h. raw_as b 46 e refl)
    (λ _. cond_both (b == 47) _ _ P (λ e h. raw_as b 47 e refl) (λ _ h. absurd (true≢false (sym h)))))

query_raw : (b : ℕ) (bytes : List ℕ) → goes_on (of_query b) bytes ≡ true → not (is_forbidden b) ≡ true
query_raw b bytes =
    let P : Option Place → Type 0 = λ p. goes_on p bytes ≡ true → not (is_forbidden b) ≡ true in
    cond_both (b == 35) _ _ P (λ e h. raw_as b 35 e refl)
    (λ _. cond_both (is_plain b && not (b == 39)) _ _ P (λ e h. plain_raw b (and_parts _ _ e).0) (λ _ h. absurd (true≢false (sym h))))

step_raw : (place : Place) (b : ℕ) (bytes : List ℕ) → goes_on (step place b) bytes ≡ true → not (is_forbidden b) ≡ true
step_raw Front b bytes =
    cond_both (is_lower b) _ _ (λ p. goes_on p bytes ≡ true → not (is_forbidden b) ≡ true)
    (λ e h. grind (arith, nat_tests)) (λ _ h. absurd (true≢false (sym h)))
step_raw Label b bytes = label_raw b bytes
step_raw Segment b bytes =
    let P : Option Place → Type 0 = λ p. goes_on p bytes ≡ true → not (is_forbidden b) ≡ true in
    cond_both (b == 46) _ _ P (λ e h. raw_as b 46 e refl) (λ _. cond_both (b == 37) _ _ P (λ e h. raw_as b 37 e refl) (λ _. path_raw b bytes))
step_raw Percent b bytes =
    cond_both (b == 50) _ _ (λ p. goes_on p bytes ≡ true → not (is_forbidden b) ≡ true)
    (λ e h. raw_as b 50 e refl) (λ _. path_raw b bytes)
step_raw Path b bytes = path_raw b bytes
step_raw Query b bytes = query_raw b bytes
step_raw Fragment b bytes =
    cond_both (is_plain b) _ _ (λ p. goes_on p bytes ≡ true → not (is_forbidden b) ≡ true)
    (λ e h. plain_raw b e) (λ _ h. absurd (true≢false (sym h)))

reaches : (next : Option Place) (bytes : List ℕ) → ((place : Place) → goes_on (Some place) bytes ≡ true → is_iri bytes ≡ true)
    → goes_on next bytes ≡ true → is_iri bytes ≡ true
reaches None bytes raw h = absurd (true≢false (sym h))
reaches (Some place) bytes raw h = raw place h

pub all_raw : (bytes : List ℕ) (place : Place) → goes_on (Some place) bytes ≡ true → is_iri bytes ≡ true
all_raw [] place h = refl
all_raw (b ∷ bytes) place h = and_from _ _ (step_raw place b bytes h) (reaches (step place b) bytes (all_raw bytes) h)

-- ---- `http` and `https`

http : IsScheme (codes "http")
unfolding scheme_len
http = record { nonempty = lit< tt; whole = refl; lower = refl }

https : IsScheme (codes "https")
unfolding scheme_len
https = record { nonempty = lit< tt; whole = refl; lower = refl }

http_kind : scheme_type (codes "http") ≡ SpecialNotFile
unfolding scheme_type default_port
http_kind = refl

https_kind : scheme_type (codes "https") ≡ SpecialNotFile
unfolding scheme_type default_port
https_kind = refl

-- neither is a prefix
http_stays : (rest : List ℕ) → expanded (codes "http://" ++ rest) ≡ codes "http://" ++ rest
unfolding expanded iri_of_prefix
http_stays rest = cond_both _ (codes "http://" ++ rest) (codes "http://" ++ rest) (λ t. t ≡ codes "http://" ++ rest) (λ _. refl) (λ _. refl)

https_stays : (rest : List ℕ) → expanded (codes "https://" ++ rest) ≡ codes "https://" ++ rest
unfolding expanded iri_of_prefix
https_stays rest =
    cond_both _ (codes "https://" ++ rest) (codes "https://" ++ rest) (λ t. t ≡ codes "https://" ++ rest) (λ _. refl) (λ _. refl)

pub own_raw : (text rest : List ℕ) → IsOfScheme text rest → goes_on (Some Front) rest ≡ true → is_iri text ≡ true
own_raw text rest (inl e) goes = ap is_iri e ∙ all_raw rest Front goes
own_raw text rest (inr e) goes = ap is_iri e ∙ all_raw rest Front goes

own_resolves : (text rest : List ℕ) → IsOfScheme text rest → goes_on (Some Front) rest ≡ true
    → nat_lt max_text (length text) ≡ false → (base : Parts) → resolved base text ≡ Ok text
own_resolves text rest (inl e) goes short base =
    own (codes "http") http http_kind rest (found rest Front goes) base text e (own_raw text rest (inl e) goes) short
own_resolves text rest (inr e) goes short base =
    own (codes "https") https https_kind rest (found rest Front goes) base text e (own_raw text rest (inr e) goes) short

own_stays : (text rest : List ℕ) → IsOfScheme text rest → expanded text ≡ text
own_stays text rest (inl e) = ap expanded e ∙ http_stays rest ∙ sym e
own_stays text rest (inr e) = ap expanded e ∙ https_stays rest ∙ sym e

pub own_link : (text rest : List ℕ) → IsOfScheme text rest → goes_on (Some Front) rest ≡ true → nat_lt max_text (length text) ≡ false → IsOwnLink text
own_link text rest split goes short base =
    let resolves = own_resolves text rest split goes short base in
    (resolves, ap (resolved base) (own_stays text rest split) ∙ resolves)
