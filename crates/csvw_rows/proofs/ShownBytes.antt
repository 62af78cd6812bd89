-- The number of bytes that show that a rule is broken.
use Rattle.std.proofs.Common.{◌≡◌, ◌∙◌, ℕ, ◌+◌, ◌<◌, ◌≤◌, Bool, true, false, ◌&&◌, ◌==◌, List, [], ◌∷◌, ◌++◌, length, take, drop, get_or, refl, sym}
use Rattle.std.proofs.Common.{ap, arith, length-take, ◌⊎◌, inl, inr, chars}
use Rattle.std.specs.Prelude.{IsUtf8, max}
use Rattle.std.specs.Str.{is_utf8}
use Rattle.std.proofs.lemmas.Bool.{cases_lt}
use Rattle.std.proofs.lemmas.Bool.Decides.{nat_tests}
use Rattle.std.proofs.lemmas.Grind.{common_steps}
use Rattle.std.proofs.lemmas.List.{take-append-drop, append_cancel_right}
use Rattle.std.proofs.lemmas.Str.{encodes-chars, length-le-encodes}
use Rattle.csvw_records.specs.declared.dialect.Dialect.{Dialect}
use Rattle.csvw_records.specs.Lawful.{prefix_of}
use Rattle.csvw_records.specs.Lengths.{byte_len}
use Rattle.csvw_records.specs.AtFront.{IsPrefixLen, IsCr, IsShownAt, IsShown, IsShownLen}
use Rattle.csvw_rows.proofs.TextLemmas.{split_chars}
use Rattle.csvw_rows.proofs.TextLemmas.{front_text, no_chars}

get_at : (a b : List ℕ) → get_or (a ++ b) (length a) 0 ≡ get_or b 0 0
get_at [] b = refl
get_at (x ∷ xs) b = get_at xs b

pub max_least : (a b m : ℕ) → m ≡ max a b → (a ≤ m) × (b ≤ m)
max_least a b m e = (omega (arith, e), omega (arith, e))

pub max_most : (a b m : ℕ) → m ≡ max a b → (m ≤ a) ⊎ (m ≤ b)
max_most a b m e = elim (cases_lt a b) [ inl h ↦ inr (omega (arith, e, h)) | inr h ↦ inl (omega (arith, e, h)) ]

-- what stands behind the first bytes
module _ (d : Dialect) (rest : List ℕ) (at : ℕ) (u : IsUtf8 rest) (within : at ≤ length rest) (text : is_utf8 (drop at rest) ≡ true) where
  spelled : chars rest ≡ chars (take at rest) ++ chars (drop at rest)
  spelled = split_chars rest at (front_text rest at u within text)

  here_is : get_or (chars rest) (length (chars (take at rest))) 0 ≡ get_or (chars (drop at rest)) 0 0
  here_is = ap (λ l. get_or l (length (chars (take at rest))) 0) spelled ∙ get_at (chars (take at rest)) (chars (drop at rest))

  pub at_end : (count : ℕ) → count ≡ length (chars (take at rest)) → length (drop at rest) ≡ 0 → IsShownAt d (chars rest) (length (chars (take at rest))) count
  at_end count e z = inr (
    e,
    λ (c : IsCr d (chars rest) (length (chars (take at rest)))). let f = sym c.1 ∙ here_is
        ∙ ap (λ l. get_or l 0 0) (no_chars (drop at rest) z) in absurd (omega (arith, f)),
  )

  pub at_cr : (count c : ℕ) (cs : List ℕ) → count ≡ length (chars (take at rest)) → chars (drop at rest) ≡ c ∷ cs
      → (d.line_terminators.crlf && (c == 13)) ≡ true → IsShownAt d (chars rest) (length (chars (take at rest))) (count + 1)
  at_cr count c cs e f h =
      let both = and_both d.line_terminators.crlf (c == 13) h in
      let same : c ≡ 13 = (let t = both.1 in grind (arith, nat_tests)) in
      inl (ap (λ n. n + 1) e, (both.0, here_is ∙ ap (λ l. get_or l 0 0) f ∙ same))
    where
      and_both : (a b : Bool) → (a && b) ≡ true → (a ≡ true) × (b ≡ true)
      and_both true b h = (refl, h)
      and_both false b h = absurd cc

  pub at_other : (count c : ℕ) (cs : List ℕ) → count ≡ length (chars (take at rest)) → chars (drop at rest) ≡ c ∷ cs
      → (d.line_terminators.crlf && (c == 13)) ≡ false → IsShownAt d (chars rest) (length (chars (take at rest))) count
  at_other count c cs e f h = inr (
    e,
    λ (k : IsCr d (chars rest) (length (chars (take at rest)))). neither d.line_terminators.crlf h k.0
        (sym (ap (λ l. get_or l 0 0) f) ∙ sym here_is ∙ k.1),
  )
    where
      neither : (b : Bool) → (b && (c == 13)) ≡ false → b ≡ true → c ≡ 13 → ⊥
      neither false h e g = absurd cc
      neither true h e g = let z : (13 == 13) ≡ false = ap (λ n. n == 13) (sym g) ∙ h in absurd cc

-- all that it takes to see that a rule is broken
module _ (d : Dialect) (rest : List ℕ) (at here common place : ℕ) (u : IsUtf8 rest)
    (is_here : IsShownAt d (chars rest) (length (chars (take at rest))) here) (is_common : IsPrefixLen (prefix_of d) (chars rest) common)
    (no_less : (here ≤ place) × (common ≤ place)) (no_more : (place ≤ here) ⊎ (place ≤ common)) where
  abbrev text : List ℕ
  text = chars rest

  shows : (count : ℕ) → count ≤ length text → (place < count) ⊎ (count ≡ length text) → count ≤ place + 1 → IsShown d text (length (chars (take at rest))) count
  shows count inside past less = record {
    here = here;
    common = common;
    is_here = is_here;
    is_common = is_common;
    within = inside;
    past_here = elim past [ inl h ↦ inl (let k = no_less.0 in omega (arith, k, h)) | inr h ↦ inr h ];
    past_common = elim past [ inl h ↦ inl (let k = no_less.1 in omega (arith, k, h)) | inr h ↦ inr h ];
    least = elim no_more [ inl h ↦ inl (omega (arith, h, less)) | inr h ↦ inr (omega (arith, h, less)) ];
  }

  pub shows_all : (len : ℕ) → len ≡ length rest → length rest ≤ place → IsShownLen d rest at len
  shows_all len e h =
      let fits = length-le-encodes text in
      let bytes = ap length (encodes-chars rest u) in
      record {
        count = length text;
        shown = shows (length text) (omega arith) (inr refl) (omega (arith, fits, bytes, h));
        bytes = ap byte_len (whole text) ∙ bytes ∙ sym e;
      }
    where
      whole : (l : List ℕ) → take (length l) l ≡ l
      whole l = grind (arith, common_steps)

  pub shows_front : (len : ℕ) → len ≤ length rest → is_utf8 (drop len rest) ≡ true → chars (drop len rest) ≡ drop (place + 1) text → IsShownLen d rest at len
  shows_front len inside back left =
      let front = take (place + 1) text in
      let same : chars (take len rest) ≡ front = append_cancel_right (chars (take len rest)) front (drop (place + 1) text)
      (ap (λ l. chars (take len rest) ++ l) (sym left) ∙ sym (split_chars rest len (front_text rest len u inside back))
      ∙ sym (take-append-drop (place + 1) text)) in
      let count = length-take (place + 1) text in
      record {
        count = length front;
        shown = shows (length front) (short (place + 1) text) (by_count (cases_lt place (length text))) (less (place + 1) text);
        bytes = ap byte_len (again (place + 1) text) ∙ ap byte_len (sym same)
            ∙ ap length (encodes-chars (take len rest) (front_text rest len u inside back)) ∙ (let k = length-take len rest in omega (arith, k, inside));
      }
    where
      short : (n : ℕ) (l : List ℕ) → length (take n l) ≤ length l
      short n l = grind (arith, common_steps)

      less : (n : ℕ) (l : List ℕ) → length (take n l) ≤ n
      less n l = grind (arith, common_steps)

      again : (n : ℕ) (l : List ℕ) → take (length (take n l)) l ≡ take n l
      again n l = grind (arith, common_steps)

      by_count : (place < length text) ⊎ (length text ≤ place) → (place < length (take (place + 1) text)) ⊎ (length (take (place + 1) text) ≡ length text)
      by_count (inl h) = inl (omega (arith, h, length-take (place + 1) text))
      by_count (inr h) = inr (omega (arith, h, length-take (place + 1) text))

-- at the end it takes all
pub shown_whole : (d : Dialect) (rest : List ℕ) (at len : ℕ) → IsUtf8 rest → at ≡ length rest → IsShownLen d rest at len → len ≡ length rest
shown_whole d rest at len u e s =
    let all : take at rest ≡ rest = ap (λ n. take n rest) e ∙ whole rest in
    let n : length (chars (take at rest)) ≡ length (chars rest) = ap (λ l. length (chars l)) all in
    let count : s.count ≡ length (chars rest) = by_places n s.shown.is_here s.shown.past_here in
    sym s.bytes ∙ ap (λ k. byte_len (take k (chars rest))) count ∙ ap byte_len (whole (chars rest)) ∙ ap length (encodes-chars rest u)
  where
    whole : (l : List ℕ) → take (length l) l ≡ l
    whole l = grind (arith, common_steps)

    by_places : length (chars (take at rest)) ≡ length (chars rest) → IsShownAt d (chars rest) (length (chars (take at rest))) s.shown.here
        → (s.shown.here < s.count) ⊎ (s.count ≡ length (chars rest)) → s.count ≡ length (chars rest)
    by_places n h (inr f) = f
    by_places n (inl (f, c)) (inl g) = (let w = s.shown.within in absurd (omega (arith, f, g, n, w)))
    by_places n (inr (f, c)) (inl g) = (let w = s.shown.within in absurd (omega (arith, f, g, n, w)))
