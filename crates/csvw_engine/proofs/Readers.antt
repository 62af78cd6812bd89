-- A reader of a list read on.
use Rattle.std.proofs.Common.{◌≡◌, ◌≢◌, ◌<◌, ◌+◌, ℕ, zero, suc, true, false, List, [], ◌∷◌, ◌++◌, length, take, refl, sym, ap, ◌∙◌, subst, arith}
use Rattle.std.proofs.Common.{inl, inr, ◌⊎◌, append-nil, Option, Some, Result, Ok, Err}
use Rattle.std.specs.Prelude.{slice_get, slice_set}
use Rattle.std.proofs.lemmas.Bool.Decides.{eqb_tells}
use Rattle.std.proofs.lemmas.Option.{slice_get-get_or, slice_get_within, get_or_from_slice_get}
use Rattle.std.proofs.lemmas.List.{get_or-set_same, get_or-set_other}
use Rattle.std.proofs.Math.ListN.{length-set}
use Rattle.std.proofs.KnownBytes.{Consumes-kept, Consumes-nil, Consumes-trans}
use Rattle.std.specs.Io.KnownBytes.{Consumes, IsAtEnd, Keeps}
use Rattle.csvw_streams.specs.declared.counted.Counted.{Counted}
use Rattle.csvw_streams.specs.Count.{after_read, one_more}
use Rattle.csvw_streams.specs.Counted.{ends_of, failures_of, inner_of}
use Rattle.csvw_session.specs.Events.{Event, text_of, ended_in}
use Rattle.csvw_engine.specs.Reading.{Gave, GaveTexts, AreSteady}
use Rattle.csvw_engine.specs.TableReading.{GoesOn}

-- the element at a place of a list of which one element was replaced
pub set_same : {X : Type 0} (xs : List X) (i : ℕ) (x y : X) → i < length xs → slice_get (slice_set xs i x) i ≡ Some y → y ≡ x
set_same xs i x y below e = sym (get_or_from_slice_get (slice_set xs i x) i y x e) ∙ get_or-set_same xs i x x below

pub set_other : {X : Type 0} (xs : List X) (i j : ℕ) (x y : X) → j ≢ i → slice_get (slice_set xs i x) j ≡ Some y → slice_get xs j ≡ Some y
set_other xs i j x y apart e =
    let within : j < length (slice_set xs i x) = slice_get_within (slice_set xs i x) j y e in
    let same : length (slice_set xs i x) ≡ length xs = length-set xs i x in
    let here : j < length xs = omega arith in
    slice_get-get_or xs j y here ∙ ap Some (sym (get_or-set_other xs i j x y apart) ∙ get_or_from_slice_get (slice_set xs i x) j y y e)

pub set_there : {X : Type 0} (xs : List X) (i : ℕ) (x : X) → i < length xs → slice_get (slice_set xs i x) i ≡ Some x
set_there xs i x below =
    let same : length (slice_set xs i x) ≡ length xs = length-set xs i x in
    let here : i < length (slice_set xs i x) = omega arith in
    slice_get-get_or (slice_set xs i x) i x here ∙ ap Some (get_or-set_same xs i x x below)

pub one_at : {X : Type 0} (xs : List X) (i : ℕ) (x y : X) → slice_get xs i ≡ Some x → slice_get xs i ≡ Some y → x ≡ y
one_at xs i x y e f = let k : Some x ≡ Some y = sym e ∙ f in cc

-- a place is this one or another
pub here_or_not : (j i : ℕ) → (j ≡ i) ⊎ (j ≢ i)
here_or_not j i = elim (eqb_tells j i) [ inl p ↦ inl p.1 | inr q ↦ inr q.1 ]

module _ {R : Type 0} (remaining : R → Option (List ℕ)) (olds news : List (Counted R)) (i : ℕ) (r s : Counted R) (below : i < length news)
    (was : slice_get olds i ≡ Some r) where
  pub gave_next : (events later : List Event) → GaveTexts remaining olds news events → GoesOn (i + 1) events later
      → Gave remaining r s (text_of later (i + 1)) (ended_in later (i + 1))
      → GaveTexts remaining olds (slice_set news i s) later
  gave_next events later g goes gave = record {
    many = length-set news i s ∙ g.many;
    each = λ j a b p q. elim (here_or_not j i) [ inl e ↦ here j a b e p q | inr ne ↦ there j a b ne p q ];
  }
    where
      here : (j : ℕ) (a b : Counted R) → j ≡ i → slice_get olds j ≡ Some a → slice_get (slice_set news i s) j ≡ Some b
          → Gave remaining a b (text_of later (j + 1)) (ended_in later (j + 1))
      here j a b e p q =
          let first : r ≡ a = one_at olds i r a was (subst (λ n. slice_get olds n ≡ Some a) e p) in
          let second : b ≡ s = set_same news i s b below (subst (λ n. slice_get (slice_set news i s) n ≡ Some b) e q) in
          subst (λ n. Gave remaining a b (text_of later (n + 1)) (ended_in later (n + 1))) (sym e)
          (subst (λ z. Gave remaining z b (text_of later (i + 1)) (ended_in later (i + 1))) first
          (subst (λ z. Gave remaining r z (text_of later (i + 1)) (ended_in later (i + 1))) (sym second) gave))

      there : (j : ℕ) (a b : Counted R) → j ≢ i → slice_get olds j ≡ Some a → slice_get (slice_set news i s) j ≡ Some b
          → Gave remaining a b (text_of later (j + 1)) (ended_in later (j + 1))
      there j a b ne p q =
          let apart : j + 1 ≢ i + 1 = λ e. ne (omega (arith, e)) in
          subst (λ z. Gave remaining a b (text_of later (j + 1)) z) (sym (goes.ended (j + 1) apart))
          (subst (λ xs. Gave remaining a b xs (ended_in events (j + 1))) (sym (goes.text (j + 1) apart)) (g.each j a b p (set_other news i j s b ne q)))

  pub steady_next : AreSteady olds news → failures_of s ≡ failures_of r → AreSteady olds (slice_set news i s)
  steady_next steady e = λ j a b p q. elim (here_or_not j i) [ inl same ↦ here j a b same p q | inr ne ↦ steady j a b p (set_other news i j s b ne q) ]
    where
      here : (j : ℕ) (a b : Counted R) → j ≡ i → slice_get olds j ≡ Some a → slice_get (slice_set news i s) j ≡ Some b → failures_of b ≡ failures_of a
      here j a b same p q =
          let first : r ≡ a = one_at olds i r a was (subst (λ n. slice_get olds n ≡ Some a) same p) in
          let second : b ≡ s = set_same news i s b below (subst (λ n. slice_get (slice_set news i s) n ≡ Some b) same q) in
          ap failures_of second ∙ e ∙ ap failures_of first

-- the count of ends after a read of some bytes, and after one of none
read_some : {E : Type 0} (r : Result ℕ E) (k : ℕ) (buf : List ℕ) (n : ℕ) → r ≡ Ok k → 0 < k → after_read r buf n ≡ n
read_some (Err e) k buf n is some = refl
read_some (Ok j) k [] n is some = refl
read_some (Ok zero) k (b ∷ buf) n is some = let none : k ≡ 0 = cc in absurd (omega (arith, some, none))
read_some (Ok (suc j)) k (b ∷ buf) n is some = refl

read_none : {E : Type 0} (r : Result ℕ E) (k : ℕ) (buf : List ℕ) (n : ℕ) → r ≡ Ok k → k ≡ 0 → 0 < length buf → after_read r buf n ≡ one_more n
read_none (Err e) k buf n is none room = cc
read_none (Ok j) k [] n is none room = absurd (omega (arith, room))
read_none (Ok zero) k (b ∷ buf) n is none room = refl
read_none (Ok (suc j)) k (b ∷ buf) n is none room = cc

-- a reader gave nothing so far
pub gave_none : {R : Type 0} (remaining : R → Option (List ℕ)) (r : Counted R) → Gave remaining r r [] false
gave_none remaining r = record { consumed = Consumes-nil (remaining (inner_of r)); at_end = λ e. cc; ended_is = refl }

-- a reader gave these bytes, and was read once more
module _ {R : Type 0} (remaining : R → Option (List ℕ)) (first old new : Counted R) (bytes : List ℕ) (gave : Gave remaining first old bytes false) where
  pub gave_kept : Keeps (remaining (inner_of old)) (remaining (inner_of new)) → ends_of new ≡ ends_of old → Gave remaining first new bytes false
  gave_kept kept same = record {
    consumed = Consumes-kept (remaining (inner_of first)) (remaining (inner_of old)) (remaining (inner_of new)) bytes gave.consumed kept;
    at_end = λ e. cc;
    ended_is = same ∙ gave.ended_is;
  }

  pub gave_piece : {E : Type 0} (r : Result ℕ E) (k : ℕ) (buf : List ℕ) → r ≡ Ok k → 0 < k
      → Consumes (remaining (inner_of old)) (remaining (inner_of new)) (take k buf)
      → ends_of new ≡ after_read r buf (ends_of old) → Gave remaining first new (bytes ++ take k buf) false
  gave_piece r k buf is some eaten ends = record {
    consumed = Consumes-trans (remaining (inner_of first)) (remaining (inner_of old)) (remaining (inner_of new)) bytes (take k buf) gave.consumed eaten;
    at_end = λ e. cc;
    ended_is = ends ∙ read_some r k buf (ends_of old) is some ∙ gave.ended_is;
  }

  pub gave_end : {E : Type 0} (r : Result ℕ E) (k : ℕ) (buf : List ℕ) → r ≡ Ok k → k ≡ 0 → 0 < length buf
      → Consumes (remaining (inner_of old)) (remaining (inner_of new)) (take k buf)
      → (k ≡ 0 → 0 < length buf → IsAtEnd (remaining (inner_of new))) → ends_of new ≡ after_read r buf (ends_of old)
      → Gave remaining first new bytes true
  gave_end r k buf is none room eaten at_end ends =
      let eaten_none : Consumes (remaining (inner_of old)) (remaining (inner_of new)) [] =
      subst (λ n. Consumes (remaining (inner_of old)) (remaining (inner_of new)) (take n buf)) none eaten in
      let all : Consumes (remaining (inner_of first)) (remaining (inner_of new)) (bytes ++ []) =
      Consumes-trans (remaining (inner_of first)) (remaining (inner_of old)) (remaining (inner_of new)) bytes [] gave.consumed eaten_none in
      record {
        consumed = subst (λ (xs : List ℕ). Consumes (remaining (inner_of first)) (remaining (inner_of new)) xs) (append-nil bytes) all;
        at_end = λ _. at_end none room;
        ended_is = ends ∙ read_none r k buf (ends_of old) is none room ∙ ap one_more gave.ended_is;
      }
