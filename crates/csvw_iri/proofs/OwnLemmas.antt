-- A pass over the bytes after `http://` finds the parts of a URL. The URL Standard writes that URL in these bytes.
use Rattle.std.proofs.Common.{◌≡◌, ◌≢◌, ℕ, ◌<◌, Bool, true, false, not, ◌&&◌, ◌||◌, ◌==◌, ◌⊎◌, List, [], ◌∷◌, ◌++◌, get_or, Option, Some, None, All}
use Rattle.std.proofs.Common.{inl, inr, refl, ap, sym, ◌∙◌, subst, ⊎_elim, append_assoc, append-nil, arith}
use Rattle.std.specs.Prelude.{is_some, unwrap_or, IfSome}
use Rattle.std.proofs.lemmas.Bool.{cond_both, and_parts, true≢false, eqb-true}
use Rattle.std.proofs.lemmas.Bool.Decides.{nat_tests}
use Rattle.std.proofs.lemmas.List.Elements.{All-nil, All-cons, All-weaker}
use Rattle.percent_encoding.specs.Percent.{IsKept}
use Rattle.url.specs.declared.sets.TheConstants.{FRAGMENT, PATH, SPECIAL_QUERY, FORBIDDEN_DOMAIN}
use Rattle.url.specs.declared.scheme.SchemeType.TheVariants.{SpecialNotFile}
use Rattle.url.specs.Input.{when, rsplit_once, rsplit_step}
use Rattle.url.specs.Scheme.{is_slash}
use Rattle.url.specs.Path.{dot_count, IsSegment, join_segments}
use Rattle.url.proofs.InputLemmas.{Passes}
use Rattle.url.proofs.SetLemmas.{kept_from_passes}
use Rattle.csvw_iri.specs.declared.own.Place.{Place}
use Rattle.csvw_iri.specs.declared.own.Place.TheVariants.{Front, Label, Segment, Percent, Path, Query, Fragment}
use Rattle.csvw_iri.specs.Own.{is_plain, is_lower, is_of_label, of_label, of_path, of_query, step, goes_on}

-- ---- bytes

-- a letter, a digit, `-` or `.`
abbrev pub is_of_host : ℕ → Bool
is_of_host b = is_of_label b || b == 46

-- plain, and no delimiter of a path
abbrev pub is_of_segment : ℕ → Bool
is_of_segment b = is_plain b && not (b == 47 || b == 63 || b == 35)

plain_is_ascii : (b : ℕ) → is_plain b ≡ true → b < 128
plain_is_ascii b h = grind (arith, nat_tests)

fragment_byte : (b : ℕ) → is_plain b ≡ true → IsKept FRAGMENT b
fragment_byte b h = kept_from_passes is_plain FRAGMENT refl b (plain_is_ascii b h) h

abbrev is_of_query : ℕ → Bool
is_of_query b = is_plain b && not (b == 39 || b == 35)

query_byte : (b : ℕ) → is_of_query b ≡ true → IsKept SPECIAL_QUERY b
query_byte b h = kept_from_passes is_of_query SPECIAL_QUERY refl b (plain_is_ascii b (and_parts _ _ h).0) h

pub segment_byte : (b : ℕ) → is_of_segment b ≡ true → IsKept PATH b
segment_byte b h = kept_from_passes is_of_segment PATH refl b (plain_is_ascii b (and_parts _ _ h).0) h

pub host_byte : (b : ℕ) → is_of_host b ≡ true → IsKept FORBIDDEN_DOMAIN b
host_byte b h = kept_from_passes is_of_host FORBIDDEN_DOMAIN refl b (grind (arith, nat_tests)) h

-- ---- what stands behind a place

-- the query and the fragment with their delimiters
abbrev pub tail_text : Option (List ℕ) → Option (List ℕ) → List ℕ
tail_text query fragment =
    when (is_some query) (63 ∷ []) ++ (unwrap_or query [] ++ (when (is_some fragment) (35 ∷ []) ++ (unwrap_or fragment [] ++ [])))

-- what follows `?`
pub record QueryRest (bytes : List ℕ) : Type 0 where
  pub query : List ℕ
  pub fragment : Option (List ℕ)
  pub spelled : bytes ≡ query ++ (when (is_some fragment) (35 ∷ []) ++ (unwrap_or fragment [] ++ []))
  pub query_kept : All (IsKept SPECIAL_QUERY) query
  pub fragment_kept : IfSome fragment (All (IsKept FRAGMENT))

-- the rest of a segment, and what follows it
pub record PathRest (bytes : List ℕ) : Type 0 where
  pub segment : List ℕ
  pub segments : List (List ℕ)
  pub query : Option (List ℕ)
  pub fragment : Option (List ℕ)
  pub spelled : bytes ≡ segment ++ (join_segments segments ++ tail_text query fragment)
  pub plain : All (Passes is_of_segment) segment
  pub each : All (IsSegment SpecialNotFile) segments
  pub query_kept : IfSome query (All (IsKept SPECIAL_QUERY))
  pub fragment_kept : IfSome fragment (All (IsKept FRAGMENT))

-- a segment, and what follows it
abbrev pub SegmentRest : List ℕ → Type 0
SegmentRest bytes = (r : PathRest bytes) × (dot_count r.segment ≡ 0)

-- the rest of a host, and what follows it
pub record HostRest (bytes : List ℕ) : Type 0 where
  pub host : List ℕ
  pub path : List ℕ
  pub spelled : bytes ≡ host ++ 47 ∷ path
  pub plain : All (Passes is_of_host) host
  pub rest : SegmentRest path

-- the last label begins with a letter
abbrev pub IsNamed : Option (List ℕ) × List ℕ → Type 0
IsNamed split = is_lower (get_or split.1 0 0) ≡ true

-- the same, unless there is no other label
abbrev IsLaterNamed : Option (List ℕ) → List ℕ → Type 0
IsLaterNamed None last = Unit {0}
IsLaterNamed (Some front) last = is_lower (get_or last 0 0) ≡ true

abbrev pub Found : Place → List ℕ → Type 0
Found Front bytes = (r : HostRest bytes) × IsNamed (rsplit_once 46 r.host)
Found Label bytes = (r : HostRest bytes) × IsLaterNamed (rsplit_once 46 r.host).0 (rsplit_once 46 r.host).1
Found Segment bytes = SegmentRest bytes
Found Percent bytes = (r : PathRest bytes) × (get_or r.segment 0 0 ≢ 50)
Found Path bytes = PathRest bytes
Found Query bytes = QueryRest bytes
Found Fragment bytes = All (IsKept FRAGMENT) bytes

-- ---- nothing is left

no_rest : PathRest []
no_rest = record {
  segment = [];
  segments = [];
  query = None;
  fragment = None;
  spelled = refl;
  plain = All-nil (Passes is_of_segment);
  each = All-nil (IsSegment SpecialNotFile);
  query_kept = tt;
  fragment_kept = tt;
}

no_dots : dot_count [] ≡ 0
unfolding dot_count
no_dots = refl

at_end : (place : Place) → goes_on (Some place) [] ≡ true → Found place []
unfolding no_rest
at_end Front h = absurd (true≢false (sym h))
at_end Label h = absurd (true≢false (sym h))
at_end Segment h = (no_rest, no_dots)
at_end Percent h = (no_rest, λ e. omega (arith, e))
at_end Path h = no_rest
at_end Query h =
    record { query = []; fragment = None; spelled = refl; query_kept = All-nil (IsKept SPECIAL_QUERY); fragment_kept = tt }
at_end Fragment h = All-nil (IsKept FRAGMENT)

-- ---- one more byte

-- what is found behind a place that is reached, and nothing where none is
abbrev FoundAt : Option Place → List ℕ → Type 0
FoundAt None bytes = ⊥
FoundAt (Some place) bytes = Found place bytes

segment_begins : (s : List ℕ) → get_or s 0 0 ≢ 46 → (get_or s 0 0 ≢ 37) ⊎ (get_or s 1 0 ≢ 50) → dot_count s ≡ 0
unfolding dot_count
segment_begins s no_dot other = grind (arith, nat_tests)

no_slash : (b : ℕ) → is_of_segment b ≡ true → is_slash SpecialNotFile b ≡ false
no_slash b h = grind (arith, nat_tests)

pub whole_segment : (s : List ℕ) → All (Passes is_of_segment) s → dot_count s ≡ 0 → IsSegment SpecialNotFile s
whole_segment s plain resolved = record {
  escaped = All-weaker (Passes is_of_segment) (IsKept PATH) segment_byte s plain;
  whole = All-weaker (Passes is_of_segment) (λ b. is_slash SpecialNotFile b ≡ false) no_slash s plain;
  resolved = resolved;
}

-- a rest whose segment begins with the byte, or is empty where the byte is a delimiter
abbrev PathFound : ℕ → List ℕ → Type 0
PathFound b bytes = (r : PathRest (b ∷ bytes)) × ((r.segment ≡ []) ⊎ (get_or r.segment 0 0 ≡ b))

slash_found : (b : ℕ) (bytes : List ℕ) → b ≡ 47 → SegmentRest bytes → PathFound b bytes
slash_found b bytes e found =
    let r = found.0 in (
      record {
        segment = [];
        segments = r.segment ∷ r.segments;
        query = r.query;
        fragment = r.fragment;
        spelled = (λ i. e i ∷ r.spelled i) ∙ ap (λ l. 47 ∷ l) (sym (append_assoc r.segment (join_segments r.segments) (tail_text r.query r.fragment)));
        plain = All-nil (Passes is_of_segment);
        each = All-cons (IsSegment SpecialNotFile) r.segment r.segments (whole_segment r.segment r.plain found.1) r.each;
        query_kept = r.query_kept;
        fragment_kept = r.fragment_kept;
      },
      inl refl,
    )

question_found : (b : ℕ) (bytes : List ℕ) → b ≡ 63 → QueryRest bytes → PathFound b bytes
question_found b bytes e r = (
  record {
    segment = [];
    segments = [];
    query = Some r.query;
    fragment = r.fragment;
    spelled = λ i. e i ∷ r.spelled i;
    plain = All-nil (Passes is_of_segment);
    each = All-nil (IsSegment SpecialNotFile);
    query_kept = r.query_kept;
    fragment_kept = r.fragment_kept;
  },
  inl refl,
)

hash_found : (b : ℕ) (bytes : List ℕ) → b ≡ 35 → All (IsKept FRAGMENT) bytes → PathFound b bytes
hash_found b bytes e kept = (
  record {
    segment = [];
    segments = [];
    query = None;
    fragment = Some bytes;
    spelled = λ i. e i ∷ sym (append-nil bytes) i;
    plain = All-nil (Passes is_of_segment);
    each = All-nil (IsSegment SpecialNotFile);
    query_kept = tt;
    fragment_kept = kept;
  },
  inl refl,
)

longer : (b : ℕ) (bytes : List ℕ) → is_of_segment b ≡ true → (r : PathRest bytes) → (longer : PathRest (b ∷ bytes)) × (longer.segment ≡ b ∷ r.segment)
longer b bytes plain r = (
  record {
    segment = b ∷ r.segment;
    segments = r.segments;
    query = r.query;
    fragment = r.fragment;
    spelled = ap (λ l. b ∷ l) r.spelled;
    plain = All-cons (Passes is_of_segment) b r.segment plain r.plain;
    each = r.each;
    query_kept = r.query_kept;
    fragment_kept = r.fragment_kept;
  },
  refl,
)

path_found : (b : ℕ) (bytes : List ℕ) → FoundAt (of_path b) bytes → PathFound b bytes
path_found b bytes =
    let P : Option Place → Type 0 = λ p. FoundAt p bytes → PathFound b bytes in
    cond_both (b == 47) _ _ P (λ e. slash_found b bytes (eqb-true b 47 e))
    (λ no_slash. cond_both (b == 63) _ _ P (λ e. question_found b bytes (eqb-true b 63 e))
    (λ no_question. cond_both (b == 35) _ _ P (λ e. hash_found b bytes (eqb-true b 35 e))
    (λ no_hash. cond_both (is_plain b) _ _ P
    (λ plain r. let more = longer b bytes (grind (arith, nat_tests)) r in (more.0, inr (ap (λ s. get_or s 0 0) more.1)))
    (λ _ none. absurd none))))

query_found : (b : ℕ) (bytes : List ℕ) → FoundAt (of_query b) bytes → QueryRest (b ∷ bytes)
query_found b bytes =
    let P : Option Place → Type 0 = λ p. FoundAt p bytes → QueryRest (b ∷ bytes) in
    cond_both (b == 35) _ _ P
    (λ e kept. record {
      query = [];
      fragment = Some bytes;
      spelled = λ i. eqb-true b 35 e i ∷ sym (append-nil bytes) i;
      query_kept = All-nil (IsKept SPECIAL_QUERY);
      fragment_kept = kept;
    })
    (λ no_hash. cond_both (is_plain b && not (b == 39)) _ _ P
    (λ plain r. record {
      query = b ∷ r.query;
      fragment = r.fragment;
      spelled = ap (λ l. b ∷ l) r.spelled;
      query_kept = All-cons (IsKept SPECIAL_QUERY) b r.query (query_byte b (grind (arith, nat_tests))) r.query_kept;
      fragment_kept = r.fragment_kept;
    })
    (λ _ none. absurd none))

-- ---- the host

longer_host : (b : ℕ) (bytes : List ℕ) → is_of_host b ≡ true → HostRest bytes → HostRest (b ∷ bytes)
longer_host b bytes plain r = record {
  host = b ∷ r.host;
  path = r.path;
  spelled = ap (λ l. b ∷ l) r.spelled;
  plain = All-cons (Passes is_of_host) b r.host plain r.plain;
  rest = r.rest;
}

in_label : (b : ℕ) (front : Option (List ℕ)) (last : List ℕ) → b ≢ 46 → IsLaterNamed front last
    → IsLaterNamed (rsplit_step 46 b front last).0 (rsplit_step 46 b front last).1
in_label b (Some front) last other named = named
in_label b None last other named =
    cond_both {A = Option (List ℕ) × List ℕ} (b == 46) (Some [], last) (None, b ∷ last) (λ r. IsLaterNamed r.0 r.1)
    (λ e. absurd (other (eqb-true b 46 e))) (λ _. tt)

after_dot : (b : ℕ) (front : Option (List ℕ)) (last : List ℕ) → b ≡ 46 → is_lower (get_or last 0 0) ≡ true
    → IsLaterNamed (rsplit_step 46 b front last).0 (rsplit_step 46 b front last).1
after_dot b (Some front) last dot named = named
after_dot b None last dot named =
    cond_both {A = Option (List ℕ) × List ℕ} (b == 46) (Some [], last) (None, b ∷ last) (λ r. IsLaterNamed r.0 r.1)
    (λ _. named) (λ _. tt)

label_begins : (b : ℕ) (front : Option (List ℕ)) (last : List ℕ) → is_lower b ≡ true → IsLaterNamed front last → IsNamed (rsplit_step 46 b front last)
label_begins b (Some front) last lower named = named
label_begins b None last lower named =
    cond_both {A = Option (List ℕ) × List ℕ} (b == 46) (Some [], last) (None, b ∷ last) IsNamed
    (λ e. absurd (true≢false (sym lower ∙ rw (eqb-true b 46 e) refl))) (λ _. lower)

label_found : (b : ℕ) (bytes : List ℕ) → FoundAt (of_label b) bytes → Found Label (b ∷ bytes)
unfolding rsplit_once longer_host
label_found b bytes =
    let P : Option Place → Type 0 = λ p. FoundAt p bytes → Found Label (b ∷ bytes) in
    cond_both (is_of_label b) _ _ P
    (λ inside found.
    let r = found.0 in
    (longer_host b bytes (grind (arith, nat_tests)) r, in_label b (rsplit_once 46 r.host).0 (rsplit_once 46 r.host).1 (grind (arith, nat_tests)) found.1))
    (λ _. cond_both (b == 46) _ _ P
    (λ e found.
    let r = found.0 in
    (longer_host b bytes (grind (arith, nat_tests)) r, after_dot b (rsplit_once 46 r.host).0 (rsplit_once 46 r.host).1 (eqb-true b 46 e) found.1))
    (λ _. cond_both (b == 47) _ _ P
    (λ e found. (record { host = []; path = bytes; spelled = λ i. eqb-true b 47 e i ∷ bytes; plain = All-nil (Passes is_of_host); rest = found }, tt))
    (λ _ none. absurd none)))

front_found : (b : ℕ) (bytes : List ℕ) → FoundAt (step Front b) bytes → Found Front (b ∷ bytes)
unfolding rsplit_once longer_host
front_found b bytes =
    let P : Option Place → Type 0 = λ p. FoundAt p bytes → Found Front (b ∷ bytes) in
    cond_both (is_lower b) _ _ P
    (λ lower found.
    let r = found.0 in
    (longer_host b bytes (grind (arith, nat_tests)) r, label_begins b (rsplit_once 46 r.host).0 (rsplit_once 46 r.host).1 lower found.1))
    (λ _ none. absurd none)

-- ---- a segment

resolved : (b : ℕ) (s : List ℕ) → b ≢ 46 → b ≢ 37 → (s ≡ []) ⊎ (get_or s 0 0 ≡ b) → dot_count s ≡ 0
resolved b s no_dot no_percent begins =
    ⊎_elim (λ e. ap dot_count e ∙ no_dots) (λ e. segment_begins s (λ d. no_dot (sym e ∙ d)) (inl (λ p. no_percent (sym e ∙ p)))) begins

after_percent : (b : ℕ) (s longer : List ℕ) → longer ≡ b ∷ s → (b == 37) ≡ true → get_or s 0 0 ≢ 50 → dot_count longer ≡ 0
after_percent b s longer e percent other =
    subst (λ l. dot_count l ≡ 0) (sym e) (segment_begins (b ∷ s) (grind (arith, nat_tests)) (inr other))

segment_found : (b : ℕ) (bytes : List ℕ) → FoundAt (step Segment b) bytes → SegmentRest (b ∷ bytes)
segment_found b bytes =
    let P : Option Place → Type 0 = λ p. FoundAt p bytes → SegmentRest (b ∷ bytes) in
    cond_both (b == 46) _ _ P (λ _ none. absurd none)
    (λ no_dot. cond_both (b == 37) _ _ P
    (λ percent found.
    let more = longer b bytes (grind (arith, nat_tests)) found.0 in
    (more.0, after_percent b found.0.segment more.0.segment more.1 percent found.1))
    (λ no_percent found.
    let step = path_found b bytes found in
    (step.0, resolved b step.0.segment (grind (arith, nat_tests)) (grind (arith, nat_tests)) step.1)))

percent_found : (b : ℕ) (bytes : List ℕ) → FoundAt (step Percent b) bytes → Found Percent (b ∷ bytes)
percent_found b bytes =
    let P : Option Place → Type 0 = λ p. FoundAt p bytes → Found Percent (b ∷ bytes) in
    cond_both (b == 50) _ _ P (λ _ none. absurd none)
    (λ other found.
    let step = path_found b bytes found in
    (step.0, ⊎_elim (λ e two. omega (arith, sym (ap (λ s. get_or s 0 0) e) ∙ two)) (λ e two. grind (arith, nat_tests)) step.1))

fragment_found : (b : ℕ) (bytes : List ℕ) → FoundAt (step Fragment b) bytes → All (IsKept FRAGMENT) (b ∷ bytes)
fragment_found b bytes =
    cond_both (is_plain b) _ _ (λ p. FoundAt p bytes → All (IsKept FRAGMENT) (b ∷ bytes))
    (λ plain kept. All-cons (IsKept FRAGMENT) b bytes (fragment_byte b plain) kept) (λ _ none. absurd none)

-- ---- all bytes

one_more : (place : Place) (b : ℕ) (bytes : List ℕ) → FoundAt (step place b) bytes → Found place (b ∷ bytes)
one_more Front b bytes found = front_found b bytes found
one_more Label b bytes found = label_found b bytes found
one_more Segment b bytes found = segment_found b bytes found
one_more Percent b bytes found = percent_found b bytes found
one_more Path b bytes found = (path_found b bytes found).0
one_more Query b bytes found = query_found b bytes found
one_more Fragment b bytes found = fragment_found b bytes found

reached : (next : Option Place) (bytes : List ℕ) → ((place : Place) → goes_on (Some place) bytes ≡ true → Found place bytes)
    → goes_on next bytes ≡ true → FoundAt next bytes
reached None bytes found h = absurd (true≢false (sym h))
reached (Some place) bytes found h = found place h

pub found : (bytes : List ℕ) (place : Place) → goes_on (Some place) bytes ≡ true → Found place bytes
found [] place h = at_end place h
found (b ∷ bytes) place h = one_more place b bytes (reached (step place b) bytes (λ next. found bytes next) h)
