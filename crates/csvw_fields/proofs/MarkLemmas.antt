-- The mask of the symbols among some bytes, and the first of them.
use Rattle.std.proofs.Common.{◌≡◌, ◌≢◌, ◌∙◌, ℕ, zero, suc, ◌+◌, ◌-◌, ◌*◌, ◌/◌, ◌%◌, ◌^◌, ◌<◌, ◌≤◌, Bool, true, false, cond, not, ◌||◌, List, [], ◌∷◌}
use Rattle.std.proofs.Common.{length, take, drop, map, refl, sym, ap, arith, inl, inr, bit_or, eqb, length-drop}
use Rattle.std.specs.Prelude.{slice_index}
use Rattle.std.specs.List.{prefix_len}
use Rattle.std.proofs.lemmas.Nat.{shr-shr, shr_high}
use Rattle.std.proofs.lemmas.List.{drop-map, drop-take, drop-drop, length-map, get_or-drop}
use Rattle.std.proofs.lemmas.List.Sums.{prefix_len-le-length}
use Rattle.std.proofs.lemmas.Bool.{cases_eq, cases_lt}
use Rattle.std.proofs.lemmas.Simd.{map-map, mask_l-mod, length-chunk, trailing_mask_l, run_in_chunk_fails, run_in_chunk_stops, none_from_empty_mask}
use Rattle.std.proofs.Math.Nat.{div-one, zero-div}
use lib.Lanes.{chunk, mask_l, top}
use lib.Count.{count_trailing_zeros}
use Rattle.memchr.specs.Find.{is_byte3, Nowhere, NoneBefore, Passes}
use Rattle.csvw_fields.specs.declared.marks.Marks.{Marks}
use Rattle.csvw_fields.specs.Marked.{AreMarks}

-- a mask without its lowest bits
zero_shr : (s : ℕ) → 0 / 2 ^ s ≡ 0
zero_shr s = zero-div (2 ^ s)

mask_half : (b : Bool) (n : ℕ) → (cond b 1 0 + 2 * n) / 2 ≡ n
mask_half true n = ap (λ m. m / 2) (let e : 1 + 2 * n ≡ n * 2 + 1 = omega arith in e) ∙ shr_high n 1 1 (omega arith)
mask_half false n = ap (λ m. m / 2) (let e : 0 + 2 * n ≡ n * 2 + 0 = omega arith in e) ∙ shr_high n 1 0 (omega arith)

mask_shr : (s : ℕ) (ms : List Bool) → mask_l ms / 2 ^ s ≡ mask_l (drop s ms)
mask_shr zero ms = div-one (mask_l ms)
mask_shr (suc s) [] = zero_shr (suc s)
mask_shr (suc s) (b ∷ bs) =
    ap (λ k. mask_l (b ∷ bs) / 2 ^ k) (let e : suc s ≡ 1 + s = omega arith in e) ∙ sym (shr-shr (mask_l (b ∷ bs)) 1 s)
    ∙ ap (λ n. n / 2 ^ s) (mask_half b (mask_l bs)) ∙ mask_shr s bs

-- no bit is set where no byte passes
none_set : (test : ℕ → Bool) (xs : List ℕ) → prefix_len (λ x. not (test x)) xs ≡ length xs → mask_l (map test xs) ≡ 0
none_set test [] e = refl
none_set test (x ∷ xs) e = by_test (test x) refl e (none_set test xs)
  where
    by_test : (b : Bool) → test x ≡ b → cond (not b) (1 + prefix_len (λ x. not (test x)) xs) 0 ≡ suc (length xs)
        → (prefix_len (λ x. not (test x)) xs ≡ length xs → mask_l (map test xs) ≡ 0)
        → cond b 1 0 + 2 * mask_l (map test xs) ≡ 0
    by_test true h k rest = omega (arith, k)
    by_test false h k rest = (let y = rest (let z : prefix_len (λ x. not (test x)) xs ≡ length xs = omega (arith, k) in z) in omega (arith, y))

-- the part behind what was seen
module _ (test : ℕ → Bool) (text : List ℕ) (m : Marks) (seen at : ℕ) (a : AreMarks test text m) (here : at ≡ m.from + seen) (high : seen < m.len) where
  abbrev left : ℕ
  left = m.len - seen

  abbrev part : List ℕ
  part = chunk at left text

  to_is : at + left ≡ m.from + m.len
  to_is = omega (arith, here, high)

  room : at + left ≤ length text
  room = let w = a.within in omega (arith, w, to_is)

  ahead_is : m.mask / 2 ^ seen ≡ mask_l (map test part)
  ahead_is =
      let long : m.len ≡ seen + left = omega (arith, high) in
      let back : drop seen (drop m.from text) ≡ drop at text = drop-drop seen m.from text ∙ ap (λ n. drop n text) (sym here) in
      ap (λ n. n / 2 ^ seen) a.mask ∙ mask_shr seen (map test (chunk m.from m.len text)) ∙ ap mask_l (drop-map test seen (chunk m.from m.len text)
      ∙ ap (map test) (ap (λ n. drop seen (take n (drop m.from text))) long ∙ drop-take seen left (drop m.from text) ∙ ap (take left) back))

  pub none_ahead : m.mask / 2 ^ seen ≡ 0 → Nowhere (Passes test text) at (m.from + m.len)
  none_ahead e k lo hi p =
      let z = sym p ∙ none_from_empty_mask test text at left 0 room (sym ahead_is ∙ e) k lo (omega (arith, hi, to_is)) in absurd cc

  pub some_ahead : m.mask / 2 ^ seen ≢ 0 → let n = count_trailing_zeros 64 (m.mask / 2 ^ seen) in
      NoneBefore (Passes test text) at (m.from + m.len) (at + n) × Passes test text (at + n)
  some_ahead some =
      let mask = m.mask / 2 ^ seen in
      let n = count_trailing_zeros 64 mask in
      let few = a.few in
      let long : length part ≡ left = length-chunk at left text room in
      let set : 0 < mask_l (map test part) = (let e = ahead_is in let h : mask ≢ 0 = some in omega (arith, e, h)) in
      let counted : n ≡ prefix_len (λ x. not (test x)) part = ap (count_trailing_zeros 64) ahead_is
      ∙ trailing_mask_l test 64 part (omega (arith, few, long)) set in
      let short : n < left = short_of n counted long set in (
        record {
          low = omega arith;
          high = omega (arith, short, to_is);
          before = λ k lo hi p. (let z = sym p ∙ run_in_chunk_fails test text at left n 0 room counted k lo hi in absurd cc);
        },
        run_in_chunk_stops test text at left n 0 room counted short,
      )
    where
      short_of : (n : ℕ) → n ≡ prefix_len (λ x. not (test x)) part → length part ≡ left → 0 < mask_l (map test part) → n < left
      short_of n counted long set = elim (cases_eq (prefix_len (λ x. not (test x)) part) (length part)) [
        | inl e ↦ absurd (let z = none_set test part e in omega (arith, z, set))
        | inr d ↦ (let h = prefix_len-le-length (λ x. not (test x)) part in omega (arith, counted, long, d, h))
      ]

-- the first behind a part where none is
pub far_ahead : (test : ℕ → Bool) (text : List ℕ) (at mid n k : ℕ) → at ≤ mid → k ≡ mid + n → Nowhere (Passes test text) at mid
    → NoneBefore (Passes test (drop mid text)) 0 (length (drop mid text)) n → Passes test (drop mid text) n
    → NoneBefore (Passes test text) at (length text) k × Passes test text k
far_ahead test text at mid n k le e none first here = (
  record {
    low = omega (arith, le, e);
    high = (let h = first.high in omega (arith, e, h, length-drop mid text));
    before = λ i lo hi p. elim (cases_lt i mid) [
      | inl near ↦ none i lo near p
      | inr far ↦ first.before (i - mid) (omega arith) (omega (arith, e, hi, far))
          (ap test (get_or-drop mid text (i - mid) 0 ∙ ap (slice_index text) (let z : mid + (i - mid) ≡ i = omega (arith, far) in z)) ∙ p)
    ];
  },
  ap test (ap (slice_index text) e ∙ sym (get_or-drop mid text n 0)) ∙ here,
)

-- the lanes that are compared
abbrev pub lane : ℕ → ℕ → ℕ → ℕ
lane delimiter quote x = bit_or (bit_or (cond (eqb x delimiter) 255 0) (cond (eqb x quote) 255 0)) (cond (eqb x 10) 255 0)

top_lane : (a b c : Bool) → top 7 (bit_or (bit_or (cond a 255 0) (cond b 255 0)) (cond c 255 0)) ≡ (a || b || c)
top_lane true true true = refl
top_lane true true false = refl
top_lane true false true = refl
top_lane true false false = refl
top_lane false true true = refl
top_lane false true false = refl
top_lane false false true = refl
top_lane false false false = refl

map_same : (f g : ℕ → Bool) → ((x : ℕ) → f x ≡ g x) → (xs : List ℕ) → map f xs ≡ map g xs
map_same f g e [] = refl
map_same f g e (x ∷ xs) = ap (λ b. b ∷ map f xs) (e x) ∙ ap (λ l. g x ∷ l) (map_same f g e xs)

pub marks_are : (delimiter quote : ℕ) (text : List ℕ) (from : ℕ) (z : List ℕ) → from + 64 ≤ length text → z ≡ map (lane delimiter quote) (chunk from 64 text)
    → mask_l (map (top 7) z) % 2 ^ 64 ≡ mask_l (map (is_byte3 delimiter quote 10) (chunk from 64 text))
marks_are delimiter quote text from z inside e =
    let v = chunk from 64 text in
    let p = λ (x : ℕ). top 7 (lane delimiter quote x) in
    let long : length v ≡ 64 = length-chunk from 64 text inside in
    ap (λ l. mask_l l % 2 ^ 64) (ap (map (top 7)) e ∙ map-map (top 7) (lane delimiter quote) v) ∙ mask_l-mod (map p v) 64 (omega (arith, length-map v p, long))
    ∙ ap mask_l (map_same p (is_byte3 delimiter quote 10) (λ x. top_lane (eqb x delimiter) (eqb x quote) (eqb x 10)) v)
