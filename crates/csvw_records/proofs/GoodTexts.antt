-- Bytes that are the start of a file begin one, and have no stop.
use Rattle.std.proofs.Common.{◌≡◌, ℕ, suc, ◌+◌, ◌<◌, ◌≤◌, Bool, true, false, nat_lt, List, [], ◌∷◌, ◌++◌, length, take, drop, refl, sym, ap}
use Rattle.std.proofs.Common.{◌∙◌, subst, arith, append_assoc, append-nil, length-append, length-drop, take-append-drop, ◌⊎◌, inl, inr}
use Rattle.std.specs.Prelude.{IsUtf8, is_some, encode_utf8_all}
use Rattle.std.specs.Char.{IsScalar, encode_utf8}
use Rattle.std.specs.Str.Lossy.{utf8_valid_len, utf8_error_len}
use Rattle.std.proofs.lemmas.Bool.{cases_lt, cases_eq, and_parts}
use Rattle.std.proofs.lemmas.Bool.Decides.{nat_tests}
use Rattle.std.proofs.lemmas.List.{take_all, take-append-le}
use Rattle.std.proofs.lemmas.List.Elements.{All-head}
use Rattle.std.proofs.lemmas.Str.{IsUtf8-append, IsUtf8-drop, IsUtf8-encode, IsCharBoundary-from_take, length-encode, len_utf8_bounds, utf8_valid_len_le}
use lib.Utf8.{scalars}
use Rattle.csvw_records.specs.declared.dialect.Dialect.{Dialect}
use Rattle.csvw_records.specs.Lawful.{IsLawful}
use Rattle.csvw_records.specs.Files.{Row, AreRows, EndsOpen, File, KeepsLimits, content, is_text}
use Rattle.csvw_records.specs.ListLaws.{FilesHaveNoStop}
use Rattle.csvw_records.specs.Stops.{Begins}
use Rattle.csvw_records.proofs.GoingOn.{last_goes, goes_on_begins, no_stop}
use Rattle.csvw_records.proofs.Stands.{All-before, All-behind, begins_front}
use Rattle.csvw_records.proofs.Texts.{IsShort}
use Rattle.csvw_records.proofs.Utf8.{content_more, front_longest, front_valid}

below : (a b : ℕ) → a < b → nat_lt a b ≡ true
below a b h = grind (arith, nat_tests)

past : (a b : ℕ) → b ≤ a → nat_lt a b ≡ false
past a b h = grind (arith, nat_tests)

abbrev IsCut : List ℕ → Type 0
IsCut front = is_some (utf8_error_len front) ≡ false

-- a proper front of a character isn't wrong
cut_two : (c k : ℕ) → 128 ≤ c → c < 2048 → 0 < k → k < length (encode_utf8 c) → IsCut (take k (encode_utf8 c))
unfolding encode_utf8 utf8_error_len
cut_two c k low high some short =
    let one : k ≡ 1 = omega (arith, rw (past c 128 low, below c 2048 high) at short) in
    rw (one, past c 128 low, below c 2048 high) (grind (arith, nat_tests))

cut_three : (c k : ℕ) → IsScalar c → 2048 ≤ c → c < 65536 → 0 < k → k < length (encode_utf8 c) → IsCut (take k (encode_utf8 c))
unfolding encode_utf8 utf8_error_len
cut_three c k scalar low high some short =
    let wide = past c 128 (omega arith) in
    let few : k < 3 = rw (wide, past c 2048 low, below c 65536 high) at short in
    rw (wide, past c 2048 low, below c 65536 high)
    (elim (cases_eq k 1) [
      | inl one ↦ rw one (grind (arith, nat_tests))
      | inr other ↦ let two : k ≡ 2 = omega arith in rw two (grind (arith, nat_tests))
    ])

cut_four : (c k : ℕ) → IsScalar c → 65536 ≤ c → 0 < k → k < length (encode_utf8 c) → IsCut (take k (encode_utf8 c))
unfolding encode_utf8 utf8_error_len
cut_four c k scalar low some short =
    let wide = past c 128 (omega arith) in
    let wider = past c 2048 (omega arith) in
    let high : c < 1114112 = grind (arith, nat_tests) in
    let few : k < 4 = rw (wide, wider, past c 65536 low) at short in
    rw (wide, wider, past c 65536 low)
    (elim (cases_eq k 1) [
      | inl one ↦ rw one (grind (arith, nat_tests))
      | inr other ↦ elim (cases_eq k 2) [
        | inl two ↦ rw two (grind (arith, nat_tests))
        | inr third ↦ let three : k ≡ 3 = omega arith in rw three (grind (arith, nat_tests))
      ]
    ])

cut_char : (c k : ℕ) → IsScalar c → 0 < k → k < length (encode_utf8 c) → IsCut (take k (encode_utf8 c))
cut_char c k scalar some short = elim (cases_lt c 2048) [
  | inl small ↦ elim (cases_lt c 128) [
    | inl ascii ↦ absurd (omega (arith, rw (length-encode c, below c 128 ascii) at short))
    | inr two ↦ cut_two c k two small some short
  ]
  | inr large ↦ elim (cases_lt c 65536) [
    | inl three ↦ cut_three c k scalar large three some short
    | inr four ↦ cut_four c k scalar four some short
  ]
]

-- what no character stands in front of, and what goes on to a text
cut_text : (front more cs : List ℕ) → 0 < length front → scalars cs ≡ true → encode_utf8_all cs ≡ front ++ more
    → ((n : ℕ) → 0 < n → n ≤ length front → IsUtf8 (take n front) → ⊥) → IsCut front
cut_text front more [] some scalar spelled none = absurd (omega (arith, ap length spelled, length-append front more))
cut_text front more (c ∷ cs) some scalar spelled none =
    let char = encode_utf8 c in
    let first : IsScalar c = (and_parts _ _ scalar).0 in
    elim (cases_lt (length front) (length char)) [
      | inl short ↦
          let same : take (length front) char ≡ front =
          sym (take-append-le (length front) char (encode_utf8_all cs) (omega (arith, short))) ∙ ap (take (length front)) spelled
          ∙ take-append-le (length front) front more (omega arith) ∙ take_all (length front) front (omega arith) in
          subst IsCut same (cut_char c (length front) first some short)
      | inr long ↦
          let same : char ≡ take (length char) front =
          sym (take_all (length char) char (omega arith)) ∙ sym (take-append-le (length char) char (encode_utf8_all cs) (omega arith))
          ∙ ap (take (length char)) spelled ∙ take-append-le (length char) front more long in
          absurd (none (length char) (omega (arith, length-encode c, len_utf8_bounds c)) long (subst IsUtf8 same (IsUtf8-encode c first)))
    ]

take_seam : (a b : List ℕ) (n : ℕ) → n ≡ length a → take n (a ++ b) ≡ a
take_seam a b n e = take-append-le n a b (omega (arith, e)) ∙ take_all n a (omega (arith, e))

all_valid : (bytes : List ℕ) → is_text bytes ≡ true → IsUtf8 bytes
all_valid bytes e =
    let same : utf8_valid_len bytes ≡ length bytes = grind (arith, nat_tests) in
    subst IsUtf8 (ap (λ n. take n bytes) same ∙ take_all (length bytes) bytes (omega arith)) (front_valid bytes)

-- bytes that go on to a text end at most inside a character
ends_inside : (bytes more : List ℕ) → is_text (bytes ++ more) ≡ true → is_text bytes ≡ false → IsCut (drop (utf8_valid_len bytes) bytes)
ends_inside bytes more whole none = cut tail
  where
    n : ℕ
    n = utf8_valid_len bytes

    front : List ℕ
    front = take n bytes

    rest : List ℕ
    rest = drop n bytes

    within : n ≤ length bytes
    within = utf8_valid_len_le bytes

    long : length front ≡ n
    long = omega (arith, within, ap length (take-append-drop n bytes), length-append front rest, length-drop n bytes)

    some : 0 < length rest
    some = let apart : utf8_valid_len bytes ≡ length bytes → ⊥ = λ e. let z : is_text bytes ≡ true = grind (arith, nat_tests) in let w = sym none ∙ z in cc in
        elim (cases_lt n (length bytes)) [ inl h ↦ omega (arith, h, length-drop n bytes) | inr h ↦ absurd (apart (omega (arith, h, within))) ]

    joined : bytes ++ more ≡ front ++ (rest ++ more)
    joined = ap (λ l. l ++ more) (sym (take-append-drop n bytes)) ∙ append_assoc front rest more

    text : IsUtf8 (front ++ (rest ++ more))
    text = subst IsUtf8 joined (all_valid (bytes ++ more) whole)

    tail : IsUtf8 (rest ++ more)
    tail =
        let seam = IsCharBoundary-from_take (front ++ (rest ++ more)) (length front) text (omega (arith, length-append front (rest ++ more)))
        (subst IsUtf8 (sym (take_seam front (rest ++ more) (length front) refl)) (front_valid bytes)) in
        subst IsUtf8 (drop_seam front) (IsUtf8-drop (front ++ (rest ++ more)) (length front) text seam)
      where
        drop_seam : (a : List ℕ) → drop (length a) (a ++ (rest ++ more)) ≡ rest ++ more
        drop_seam [] = refl
        drop_seam (x ∷ xs) = drop_seam xs

    fronts : (k : ℕ) → 0 < k → k ≤ length rest → IsUtf8 (take k rest) → ⊥
    fronts k first inside u =
        let split : take (n + k) bytes ≡ front ++ take k rest =
        ap (take (n + k)) (sym (take-append-drop n bytes)) ∙ ap (λ j. take (j + k) (front ++ rest)) (sym long) ∙ take_on front in
        front_longest bytes (n + k) (omega (arith, first)) (omega (arith, inside, within, length-drop n bytes))
        (subst IsUtf8 (sym split) (IsUtf8-append front (take k rest) (front_valid bytes) u))
      where
        take_on : (a : List ℕ) → take (length a + k) (a ++ rest) ≡ a ++ take k rest
        take_on [] = ap (λ j. take j rest) (let e : length (let e : List ℕ = [] in e) + k ≡ k = omega arith in e)
        take_on (x ∷ xs) = ap (λ j. take j (x ∷ xs ++ rest)) (let e : length (x ∷ xs) + k ≡ suc (length xs + k) = omega arith in e)
            ∙ ap (λ l. x ∷ l) (take_on xs)

    cut : IsUtf8 (rest ++ more) → IsCut rest
    cut (cs, (are_scalars, spelled)) = cut_text rest more cs some are_scalars spelled fronts

-- a file begins one
file_begins : (d : Dialect) (max : ℕ) (bytes : List ℕ) (rows : List Row) → IsLawful d → File d max bytes rows → Begins d max (content bytes)
file_begins d max bytes rows w f = by_rows f.are_rows
  where
    by_rows : AreRows d 0 (content bytes) rows [] ⊎ EndsOpen d (content bytes) rows → Begins d max (content bytes)
    by_rows (inl are) = goes_on_begins d max (content bytes) rows [] w are f.limits (inl refl)
    by_rows (inr o) =
        let limits = subst (KeepsLimits max) o.all f.limits in
        let few : length o.front < max = (let k = limits.0 in omega (arith, k, length-append o.front (o.last ∷ []))) in
        let short = All-head IsShort o.last [] (All-behind o.front (o.last ∷ []) limits.1) in
        goes_on_begins d max (content bytes) o.front o.last.text w o.before
        (omega (arith, few), All-before o.front (o.last ∷ []) limits.1) (last_goes d max (length o.front) o.last w few o.is_row short)

pub files_have_no_stop : FilesHaveNoStop
files_have_no_stop d max bytes more ended rows stop row w last f s =
    no_stop d max bytes ended begins inside whole stop row s
  where
    begins : Begins d max (content bytes)
    begins =
        let c = content_more bytes more in
        subst (Begins d max) (ap (take (length (content bytes))) c.1 ∙ take_seam (content bytes) c.0 (length (content bytes)) refl)
        (begins_front d max (content (bytes ++ more)) (length (content bytes)) (file_begins d max (bytes ++ more) rows w f))

    alone : ended ≡ true → bytes ++ more ≡ bytes
    alone e = ap (λ l. bytes ++ l) (last e) ∙ append-nil bytes

    whole : ended ≡ true → (found : List Row) × File d max bytes found
    whole e = (rows, subst (λ b. File d max b rows) (alone e) f)

    inside : is_text bytes ≡ false → (ended ≡ false) × (is_some (utf8_error_len (drop (utf8_valid_len bytes) bytes)) ≡ false)
    inside none = (by_end ended refl, ends_inside bytes more f.is_utf8 none)
      where
        by_end : (b : Bool) → ended ≡ b → ended ≡ false
        by_end false e = e
        by_end true e = let z : false ≡ true = sym none ∙ ap is_text (sym (alone e)) ∙ f.is_utf8 in cc
