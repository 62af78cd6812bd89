-- Texts without the white space at their start and end.
use Rattle.std.proofs.Common.{◌≡◌, ◌∙◌, ℕ, ◌+◌, ◌-◌, ◌≤◌, Bool, true, ◌&&◌, List, length, take, drop, refl, sym, ap}
use Rattle.std.proofs.Common.{arith, chars}
use Rattle.std.specs.Prelude.{IsUtf8, encode_utf8_all, slice_range, nat_le}
use Rattle.std.specs.Str.{is_utf8}
use Rattle.std.proofs.lemmas.Grind.{common_steps}
use Rattle.std.proofs.lemmas.Bool.Decides.{nat_tests}
use Rattle.std.proofs.lemmas.List.{drop-drop, drop-take}
use Rattle.std.proofs.lemmas.Str.{encodes-chars}
use Rattle.csvw_fields.specs.declared.bound.Bound.{Bound}
use Rattle.csvw_fields.specs.Bounds.{is_apart}

-- what is kept of a range is a range
pub range_len : (texts : List ℕ) (from to : ℕ) → from ≤ to → to ≤ length texts → length (slice_range texts from to) ≡ to - from
range_len texts from to h w = grind (arith, common_steps)

taken_twice : (m n : ℕ) (l : List ℕ) → m ≤ n → take m (take n l) ≡ take m l
taken_twice m n l h = grind (arith, common_steps)

pub range_kept : (texts : List ℕ) (from to start len : ℕ) → from ≤ to → to ≤ length texts → start + len ≤ length (slice_range texts from to)
    → (from + start + len ≤ to) × (slice_range texts (from + start) (from + start + len) ≡ take len (drop start (slice_range texts from to)))
range_kept texts from to start len h w k =
    let size = range_len texts from to h w in
    let part : len ≤ to - from - start = omega (arith, k, size) in
    let inside : from + start + len ≤ to = omega (arith, k, size, h) in
    let n : from + start + len - (from + start) ≡ len = omega arith in
    let whole : to - from ≡ start + (to - from - start) = omega (arith, k, size) in (
      inside,
      ap (λ m. take m (drop (from + start) texts)) n ∙ ap (take len) (sym (drop-drop start from texts))
          ∙ sym (taken_twice len (to - from - start) (drop start (drop from texts)) part)
          ∙ ap (take len) (sym (ap (λ m. drop start (take m (drop from texts))) whole ∙ drop-take start (to - from - start) (drop from texts))),
    )

-- a bound in the second buffer
and_four : (a b c d : Bool) → (a && (b && (c && d))) ≡ true → (a ≡ true) × (b ≡ true) × (c ≡ true) × (d ≡ true)
and_four a b c d e = (grind arith, grind arith, grind arith, grind arith)

pub record Lies (texts : List ℕ) (b : Bound) : Type 0 where
  pub apart : b.apart ≡ true
  pub ordered : b.from ≤ b.to
  pub within : b.to ≤ length texts
  pub text : is_utf8 (slice_range texts b.from b.to) ≡ true

le_of : (a b : ℕ) → nat_le a b ≡ true → a ≤ b
le_of a b e = grind (arith, nat_tests)

pub lies : (texts : List ℕ) (b : Bound) → is_apart texts b ≡ true → Lies texts b
lies texts b e =
    let t = and_four b.apart (nat_le b.from b.to) (nat_le b.to (length texts)) (is_utf8 (slice_range texts b.from b.to)) e in
    record { apart = t.0; ordered = le_of b.from b.to t.1; within = le_of b.to (length texts) t.2; text = t.3 }

pub lies_apart : (texts : List ℕ) (b : Bound) → Lies texts b → is_apart texts b ≡ true
lies_apart texts b l = four _ _ _ _ l.apart (let o = l.ordered in grind (arith, nat_tests)) (let w = l.within in grind (arith, nat_tests)) l.text
  where
    four : (a b c d : Bool) → a ≡ true → b ≡ true → c ≡ true → d ≡ true → (a && (b && (c && d))) ≡ true
    four a b c d e f g h = rw (e, f, g, h) refl

-- a text that is kept whole, or in a part
pub text_itself : (text : List ℕ) → IsUtf8 text → text ≡ encode_utf8_all (chars text)
text_itself text u = sym (encodes-chars text u)

pub kept_range : (texts : List ℕ) (b new : Bound) (start len : ℕ) → is_apart texts b ≡ true → start + len ≤ length (slice_range texts b.from b.to)
    → is_utf8 (take len (drop start (slice_range texts b.from b.to))) ≡ true
    → new.from ≡ b.from + start → new.to ≡ b.from + start + len → new.apart ≡ true
    → (is_apart texts new ≡ true) × (slice_range texts new.from new.to ≡ take len (drop start (slice_range texts b.from b.to)))
kept_range texts b new start len e k u f t a =
    let l = lies texts b e in
    let r = range_kept texts b.from b.to start len l.ordered l.within k in
    let here : slice_range texts new.from new.to ≡ take len (drop start (slice_range texts b.from b.to)) = ap (λ n. slice_range texts n new.to) f
    ∙ ap (slice_range texts (b.from + start)) t ∙ r.1 in (
      lies_apart texts new (record {
        apart = a;
        ordered = omega (arith, f, t);
        within = (let w = l.within in let i = r.0 in omega (arith, t, w, i));
        text = ap is_utf8 here ∙ u;
      }),
      here,
    )
