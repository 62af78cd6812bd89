-- The text of a bound that is within its buffer.
use Rattle.std.proofs.Common.{◌≡◌, ◌∙◌, ℕ, ◌+◌, ◌-◌, ◌≤◌, Bool, true, false, ◌&&◌, ◌==◌, if◌then◌else◌, List, [], ◌∷◌, ◌++◌, length, take, drop, refl}
use Rattle.std.proofs.Common.{sym, ap, subst, arith, length-append, length-take, length-drop, Ok, Err}
use Rattle.std.specs.Prelude.{IsUtf8, slice_range, nat_le, Result, OnOk}
use Rattle.std.specs.List.{list_all}
use Rattle.std.specs.Str.{is_utf8}
use Rattle.std.proofs.lemmas.Grind.{common_steps}
use Rattle.std.proofs.lemmas.Bool.Decides.{nat_tests}
use Rattle.std.proofs.lemmas.List.{map-append, drop-drop}
use Rattle.std.proofs.lemmas.List.Folds.{list_all-append}
use Rattle.std.proofs.lemmas.Str.{IsUtf8-from_is_utf8, is_utf8-from_IsUtf8}
use Rattle.csvw_fields.specs.declared.bound.Bound.{Bound}
use Rattle.csvw_fields.specs.Bounds.{home_of, bytes_at, is_bound, are_bounds, fields_at, lent_bound, moved, is_apart, apart_all, texts_apart}

and_three : (a b c : Bool) → (a && (b && c)) ≡ true → (a ≡ true) × (b ≡ true) × (c ≡ true)
and_three a b c e = (grind arith, grind arith, grind arith)

pub record Bounded (text spare : List ℕ) (b : Bound) : Type 0 where
  pub ordered : b.from ≤ b.to
  pub within : b.to ≤ length (home_of text spare b)
  pub is_text : IsUtf8 (bytes_at text spare b)

le_of : (a b : ℕ) → nat_le a b ≡ true → a ≤ b
le_of a b e = grind (arith, nat_tests)

pub bounded : (text spare : List ℕ) (b : Bound) → is_bound text spare b ≡ true → Bounded text spare b
bounded text spare b e =
    let t = and_three (nat_le b.from b.to) (nat_le b.to (length (home_of text spare b))) (is_utf8 (bytes_at text spare b)) e in
    record {
      ordered = le_of b.from b.to t.0;
      within = le_of b.to (length (home_of text spare b)) t.1;
      is_text = IsUtf8-from_is_utf8 (bytes_at text spare b) t.2;
    }

-- a field is empty where its bounds are one
pub empty_bound : (text spare : List ℕ) (b : Bound) → is_bound text spare b ≡ true → (b.from == b.to) ≡ (length (bytes_at text spare b) == 0)
empty_bound text spare b e =
    let t = bounded text spare b e in
    let o = t.ordered in
    let w = t.within in
    let long : length (bytes_at text spare b) ≡ b.to - b.from =
    omega (arith, o, w, length-take (b.to - b.from) (drop b.from (home_of text spare b)), length-drop b.from (home_of text spare b)) in
    same b.from b.to (length (bytes_at text spare b)) (omega (arith, long, o))
  where
    same : (x y n : ℕ) → x + n ≡ y → (x == y) ≡ (n == 0)
    same x y n h = grind (arith, nat_tests)

pub empty_bounds : (text spare : List ℕ) (bounds : List Bound) → are_bounds text spare bounds ≡ true
    → list_all (λ b. b.from == b.to) bounds ≡ list_all (λ x. length x == 0) (fields_at text spare bounds)
empty_bounds text spare [] e = refl
empty_bounds text spare (b ∷ bs) e =
    let t = both (is_bound text spare b) (are_bounds text spare bs) e in
    ap (λ x. x && list_all (λ b. b.from == b.to) bs) (empty_bound text spare b t.0)
    ∙ ap (λ x. (length (bytes_at text spare b) == 0) && x) (empty_bounds text spare bs t.1)
  where
    both : (a c : Bool) → (a && c) ≡ true → (a ≡ true) × (c ≡ true)
    both a c h = (grind arith, grind arith)

-- a bound where it lies within text
three_true : (a b c : Bool) → a ≡ true → b ≡ true → c ≡ true → (a && (b && c)) ≡ true
three_true a b c e f g = rw (e, f, g) refl

within_true : (l : List ℕ) (from to : ℕ) → from ≤ to → to ≤ length l → is_utf8 (slice_range l from to) ≡ true
    → (nat_le from to && (nat_le to (length l) && is_utf8 (slice_range l from to))) ≡ true
within_true l from to o w u = three_true _ _ _ (grind (arith, nat_tests)) (grind (arith, nat_tests)) u

pub lent_is : (text spare : List ℕ) (from to : ℕ) → from ≤ to → to ≤ length text → is_utf8 (slice_range text from to) ≡ true
    → is_bound text spare (lent_bound from to) ≡ true
lent_is text spare from to o w u = within_true text from to o w u

-- texts that lie in the second buffer
and_four : (a b c d : Bool) → (a && (b && (c && d))) ≡ true → (a ≡ true) × (b ≡ true) × (c ≡ true) × (d ≡ true)
and_four a b c d e = (grind arith, grind arith, grind arith, grind arith)

pub apart_bound : (text spare : List ℕ) (b : Bound) → is_apart spare b ≡ true
    → (is_bound text spare b ≡ true) × (bytes_at text spare b ≡ slice_range spare b.from b.to)
apart_bound text spare b e =
    let t = and_four b.apart (nat_le b.from b.to) (nat_le b.to (length spare)) (is_utf8 (slice_range spare b.from b.to)) e in
    let home : home_of text spare b ≡ spare = ap (λ (x : Bool). if x then spare else text) t.0 in
    let here : bytes_at text spare b ≡ slice_range spare b.from b.to = ap (λ l. slice_range l b.from b.to) home in
    (three _ _ _ t.1 (ap (λ l. nat_le b.to (length l)) home ∙ t.2) (ap is_utf8 here ∙ t.3), here)
  where
    three : (a b c : Bool) → a ≡ true → b ≡ true → c ≡ true → (a && (b && c)) ≡ true
    three a b c e f g = rw (e, f, g) refl

pub apart_bounds : (text spare : List ℕ) (bounds : List Bound) → apart_all spare bounds ≡ true
    → (are_bounds text spare bounds ≡ true) × (fields_at text spare bounds ≡ texts_apart spare bounds)
apart_bounds text spare [] e = (refl, refl)
apart_bounds text spare (b ∷ bs) e =
    let t = both (is_apart spare b) (apart_all spare bs) e in
    let h = apart_bound text spare b t.0 in
    let r = apart_bounds text spare bs t.1 in
    (two _ _ h.0 r.0, ap (λ x. x ∷ fields_at text spare bs) h.1 ∙ ap (λ l. slice_range spare b.from b.to ∷ l) r.1)
  where
    both : (a c : Bool) → (a && c) ≡ true → (a ≡ true) × (c ≡ true)
    both a c h = (grind arith, grind arith)

    two : (a c : Bool) → a ≡ true → c ≡ true → (a && c) ≡ true
    two a c e f = rw (e, f) refl

-- the second buffer grows
range_more : (spare more : List ℕ) (from to : ℕ) → from ≤ to → to ≤ length spare → slice_range (spare ++ more) from to ≡ slice_range spare from to
range_more spare more from to h w = grind (arith, common_steps)

apart_more : (spare more : List ℕ) (b : Bound) → is_apart spare b ≡ true
    → (is_apart (spare ++ more) b ≡ true) × (slice_range (spare ++ more) b.from b.to ≡ slice_range spare b.from b.to)
apart_more spare more b e =
    let t = and_four b.apart (nat_le b.from b.to) (nat_le b.to (length spare)) (is_utf8 (slice_range spare b.from b.to)) e in
    let same = range_more spare more b.from b.to (le_of b.from b.to t.1) (le_of b.to (length spare) t.2) in
    let high : nat_le b.to (length (spare ++ more)) ≡ true = (let h = le_of b.to (length spare) t.2 in
    let k : b.to ≤ length (spare ++ more) = omega (arith, h, length-append spare more) in grind (arith, nat_tests)) in
    (four _ _ _ _ t.0 t.1 high (ap is_utf8 same ∙ t.3), same)
  where
    four : (a b c d : Bool) → a ≡ true → b ≡ true → c ≡ true → d ≡ true → (a && (b && (c && d))) ≡ true
    four a b c d e f g h = rw (e, f, g, h) refl

pub all_more : (spare more : List ℕ) (bounds : List Bound) → apart_all spare bounds ≡ true
    → (apart_all (spare ++ more) bounds ≡ true) × (texts_apart (spare ++ more) bounds ≡ texts_apart spare bounds)
all_more spare more [] e = (refl, refl)
all_more spare more (b ∷ bs) e =
    let t = both (is_apart spare b) (apart_all spare bs) e in
    let h = apart_more spare more b t.0 in
    let r = all_more spare more bs t.1 in
    (two _ _ h.0 r.0, ap (λ x. x ∷ texts_apart (spare ++ more) bs) h.1 ∙ ap (λ l. slice_range spare b.from b.to ∷ l) r.1)
  where
    both : (a c : Bool) → (a && c) ≡ true → (a ≡ true) × (c ≡ true)
    both a c h = (grind arith, grind arith)

    two : (a c : Bool) → a ≡ true → c ≡ true → (a && c) ≡ true
    two a c e f = rw (e, f) refl

-- bounds in either buffer, as the second grows
bound_more : (text spare more : List ℕ) (b : Bound) → is_bound text spare b ≡ true
    → (is_bound text (spare ++ more) b ≡ true) × (bytes_at text (spare ++ more) b ≡ bytes_at text spare b)
bound_more text spare more b e = by_apart b.apart refl
  where
    by_apart : (x : Bool) → b.apart ≡ x → (is_bound text (spare ++ more) b ≡ true) × (bytes_at text (spare ++ more) b ≡ bytes_at text spare b)
    by_apart false a =
        let home : home_of text (spare ++ more) b ≡ home_of text spare b = ap (λ (x : Bool). if x then spare ++ more else text) a
        ∙ sym (ap (λ (x : Bool). if x then spare else text) a) in
        (ap (λ l. nat_le b.from b.to && (nat_le b.to (length l) && is_utf8 (slice_range l b.from b.to))) home ∙ e, ap (λ l. slice_range l b.from b.to) home)
    by_apart true a =
        let old : home_of text spare b ≡ spare = ap (λ (x : Bool). if x then spare else text) a in
        let new : home_of text (spare ++ more) b ≡ spare ++ more = ap (λ (x : Bool). if x then spare ++ more else text) a in
        let t = bounded text spare b e in
        let o = t.ordered in
        let w : b.to ≤ length spare = subst (λ (l : List ℕ). b.to ≤ length l) old t.within in
        let same = range_more spare more b.from b.to o w in
        let far : b.to ≤ length (spare ++ more) = omega (arith, w, length-append spare more) in (
          ap (λ l. nat_le b.from b.to && (nat_le b.to (length l) && is_utf8 (slice_range l b.from b.to))) new
              ∙ within_true (spare ++ more) b.from b.to o far
              (ap is_utf8 (same ∙ sym (ap (λ l. slice_range l b.from b.to) old)) ∙ is_utf8-from_IsUtf8 (bytes_at text spare b) t.is_text),
          ap (λ l. slice_range l b.from b.to) new ∙ same ∙ sym (ap (λ l. slice_range l b.from b.to) old),
        )

pub bounds_more : (text spare more : List ℕ) (bounds : List Bound) → are_bounds text spare bounds ≡ true
    → (are_bounds text (spare ++ more) bounds ≡ true) × (fields_at text (spare ++ more) bounds ≡ fields_at text spare bounds)
bounds_more text spare more [] e = (refl, refl)
bounds_more text spare more (b ∷ bs) e =
    let t = both (is_bound text spare b) (are_bounds text spare bs) e in
    let h = bound_more text spare more b t.0 in
    let r = bounds_more text spare more bs t.1 in
    (two _ _ h.0 r.0, ap (λ x. x ∷ fields_at text (spare ++ more) bs) h.1 ∙ ap (λ l. bytes_at text spare b ∷ l) r.1)
  where
    both : (a c : Bool) → (a && c) ≡ true → (a ≡ true) × (c ≡ true)
    both a c h = (grind arith, grind arith)

    two : (a c : Bool) → a ≡ true → c ≡ true → (a && c) ≡ true
    two a c e f = rw (e, f) refl

-- one more text
last_range : (spare text : List ℕ) (from to : ℕ) → from ≡ length spare → to ≡ length (spare ++ text) → slice_range (spare ++ text) from to ≡ text
last_range spare text from to e f = grind (arith, common_steps)

pub one_more : (spare text : List ℕ) (bounds : List Bound) (b : Bound) → apart_all spare bounds ≡ true → IsUtf8 text → b.apart ≡ true
    → b.from ≡ length spare → b.to ≡ length (spare ++ text)
    → (apart_all (spare ++ text) (bounds ++ b ∷ []) ≡ true) × (texts_apart (spare ++ text) (bounds ++ b ∷ []) ≡ texts_apart spare bounds ++ text ∷ [])
one_more spare text bounds b e u a f t =
    let m = all_more spare text bounds e in
    let here = last_range spare text b.from b.to f t in
    let low : nat_le b.from b.to ≡ true = (let k : b.from ≤ b.to = omega (arith, f, t, length-append spare text) in grind (arith, nat_tests)) in
    let high : nat_le b.to (length (spare ++ text)) ≡ true = (let k : b.to ≤ length (spare ++ text) = omega (arith, t) in grind (arith, nat_tests)) in (
      list_all-append (λ b. is_apart (spare ++ text) b) bounds (b ∷ []) ∙ all _ _ _ _ _ m.0 a low high (ap is_utf8 here ∙ is_utf8-from_IsUtf8 text u),
      map-append (λ b. slice_range (spare ++ text) b.from b.to) bounds (b ∷ []) ∙ ap (λ l. l ++ slice_range (spare ++ text) b.from b.to ∷ []) m.1
          ∙ ap (λ x. texts_apart spare bounds ++ x ∷ []) here,
    )
  where
    all : (p a b c d : Bool) → p ≡ true → a ≡ true → b ≡ true → c ≡ true → d ≡ true → (p && ((a && (b && (c && d))) && true)) ≡ true
    all p a b c d x e f g h = rw (x, e, f, g, h) refl

-- a text at the end of the second buffer
pub apart_is : (text spare more : List ℕ) (from to : ℕ) → from ≡ length spare → to ≡ length (spare ++ more) → is_utf8 more ≡ true
    → (is_bound text (spare ++ more) (record { from = from; to = to; apart = true }) ≡ true) × (slice_range (spare ++ more) from to ≡ more)
apart_is text spare more from to e f u =
    let here = last_range spare more from to e f in
    (within_true (spare ++ more) from to (omega (arith, e, f, length-append spare more)) (omega (arith, f)) (ap is_utf8 here ∙ u), here)

-- a bound of the bytes behind a place, among all of them
pub moved_is : (text spare : List ℕ) (at : ℕ) (b : Bound) → at ≤ length text → is_bound (drop at text) spare b ≡ true
    → (is_bound text spare (moved at b) ≡ true) × (bytes_at text spare (moved at b) ≡ bytes_at (drop at text) spare b)
moved_is text spare at b h e = by_apart b.apart refl
  where
    by_apart : (x : Bool) → b.apart ≡ x → (is_bound text spare (moved at b) ≡ true) × (bytes_at text spare (moved at b) ≡ bytes_at (drop at text) spare b)
    by_apart true a =
        let same : moved at b ≡ b = ap (λ (x : Bool). if x then b else lent_bound (at + b.from) (at + b.to)) a in
        let home : home_of text spare b ≡ home_of (drop at text) spare b = ap (λ (x : Bool). if x then spare else text) a
        ∙ sym (ap (λ (x : Bool). if x then spare else drop at text) a) in (
          ap (is_bound text spare) same ∙ ap (λ l. nat_le b.from b.to && (nat_le b.to (length l) && is_utf8 (slice_range l b.from b.to))) home ∙ e,
          ap (bytes_at text spare) same ∙ ap (λ l. slice_range l b.from b.to) home,
        )
    by_apart false a =
        let same : moved at b ≡ lent_bound (at + b.from) (at + b.to) = ap (λ (x : Bool). if x then b else lent_bound (at + b.from) (at + b.to)) a in
        let home : home_of (drop at text) spare b ≡ drop at text = ap (λ (x : Bool). if x then spare else drop at text) a in
        let t = bounded (drop at text) spare b e in
        let o = t.ordered in
        let w : b.to ≤ length (drop at text) = subst (λ (l : List ℕ). b.to ≤ length l) home t.within in
        let here : slice_range text (at + b.from) (at + b.to) ≡ bytes_at (drop at text) spare b =
        ap (λ n. take n (drop (at + b.from) text)) (let e : (at + b.to) - (at + b.from) ≡ b.to - b.from = omega arith in e)
        ∙ ap (take (b.to - b.from)) (sym (drop-drop b.from at text)) ∙ sym (ap (λ l. slice_range l b.from b.to) home) in (
          ap (is_bound text spare) same ∙ lent_is text spare (at + b.from) (at + b.to) (omega (arith, o)) (omega (arith, w, h, length-drop at text))
              (ap is_utf8 here ∙ is_utf8-from_IsUtf8 (bytes_at (drop at text) spare b) t.is_text),
          ap (bytes_at text spare) same ∙ here,
        )

-- the bounds behind the first

pub on_ok : {T E : Type 0} (r : Result T E) (P Q : Type 0) → (P → Q) → OnOk r P → OnOk r Q
on_ok (Ok x) P Q f h = f h
on_ok (Err x) P Q f h = tt
