-- Each table of a plan begins in exactly one part: with its first piece, which alone begins at byte 0.
use Rattle.std.proofs.Common.{◌≡◌, ◌≢◌, ◌∙◌, ℕ, ◌<◌, ◌≤◌, ◌&&◌, ◌||◌, Bool, true, false, List, [], ◌∷◌, None, refl, ap, arith, inl, inr}
use Rattle.std.specs.Prelude.{nat_eq}
use Rattle.std.specs.List.{All, list_any}
use Rattle.std.proofs.Math.Nat.{eq-or-lt_of_le}
use Rattle.std.proofs.lemmas.Bool.Decides.{nat_tests}
use Rattle.std.proofs.lemmas.List.Elements.{All-cons, All-head, All-nil, All-tail, All-weaker}
use Rattle.csvw_part_plan.specs.Plans.{AreChained, Follows, TileFront, last_of, part_count, part_of}
use Rattle.csvw_part_plan.specs.declared.piece.Piece.{Piece}
use Rattle.csvw_parts.specs.PartRuns.{begins_with}
use Rattle.csvw_join_laws.proofs.Chains.{last_of-none}
use Rattle.csvw_join_laws.proofs.Ranges.{last, last_piece-cons, last_up, part_up}

first_alone : (a b c : Bool) → b ≡ true → c ≡ true → (a && b && c) ≡ a
first_alone true true true second third = refl
first_alone true true false second third = cc
first_alone true false c second third = cc
first_alone false b c second third = refl

no_second : (a b c : Bool) → b ≡ false → (a && b && c) ≡ false
no_second true true c is = cc
no_second true false c is = refl
no_second false b c is = refl

no_third : (a b c : Bool) → c ≡ false → (a && b && c) ≡ false
no_third true true c is = is
no_third true false c is = refl
no_third false b c is = refl

neither : (a b : Bool) → a ≡ false → b ≡ false → (a || b) ≡ false
neither true b is also = cc
neither false b is also = also

second_only : (a b c : Bool) → a ≡ false → b ≡ c → (a || b) ≡ c
second_only true b c is same = cc
second_only false b c is same = same

first_only : (a b c : Bool) → a ≡ c → b ≡ false → (a || b) ≡ c
first_only true b c same is = same
first_only false b c same is = is ∙ same

module _ (number table : ℕ) (p : Piece) where
  begins_here : p.table ≡ table → p.first_byte ≡ 0 → begins_with number table p ≡ nat_eq p.part number
  begins_here same first =
      first_alone (nat_eq p.part number) (nat_eq p.table table) (nat_eq p.first_byte 0) (grind (arith, nat_tests)) (grind (arith, nat_tests))

  other_table : p.table ≢ table → begins_with number table p ≡ false
  other_table other = no_second (nat_eq p.part number) (nat_eq p.table table) (nat_eq p.first_byte 0) (grind (arith, nat_tests))

  later_byte : 0 < p.first_byte → begins_with number table p ≡ false
  later_byte some = no_third (nat_eq p.part number) (nat_eq p.table table) (nat_eq p.first_byte 0) (grind (arith, nat_tests))

-- no table up to this one begins after it
none_later : (number table : ℕ) (p : Piece) (ps : List Piece) → AreChained p ps → table ≤ p.table → list_any (begins_with number table) ps ≡ false
none_later number table p [] chain le = refl
none_later number table p (q ∷ qs) chain le =
    elim chain.0.0 [
      | inl on ↦
          let same = on.table in
          neither (begins_with number table q) (list_any (begins_with number table) qs) (later_byte number table q on.later)
          (none_later number table q qs chain.1 (omega (arith, same, le)))
      | inr next ↦
          let up = next.table in
          neither (begins_with number table q) (list_any (begins_with number table) qs)
          (other_table number table q (λ (e : q.table ≡ table). omega (arith, e, up, le)))
          (none_later number table q qs chain.1 (omega (arith, up, le)))
    ]

-- the table begins in one part, which is one of these
pub record BeginsOnce (table low high : ℕ) (ps : List Piece) : Type 0 where
  pub at : ℕ
  pub from : low ≤ at
  pub below : at ≤ high
  pub is : (number : ℕ) → list_any (begins_with number table) ps ≡ nat_eq at number

-- the table begins with this piece, and those after it follow
begins_now : (table : ℕ) (p : Piece) (ps : List Piece) → AreChained p ps → p.table ≡ table → p.first_byte ≡ 0
    → BeginsOnce table p.part (last p ps).part (p ∷ ps)
begins_now table p ps chain same first = record {
  at = p.part;
  from = omega arith;
  below = last_up p ps chain;
  is = λ number. first_only (begins_with number table p) (list_any (begins_with number table) ps) (nat_eq p.part number)
      (begins_here number table p same first) (none_later number table p ps chain (omega (arith, same)));
}

-- the table begins with a later piece
begins_on : (table low high : ℕ) (p : Piece) (ps : List Piece) → p.table ≢ table → BeginsOnce table low high ps → BeginsOnce table low high (p ∷ ps)
begins_on table low high p ps other once = record {
  at = once.at;
  from = once.from;
  below = once.below;
  is = λ number. second_only (begins_with number table p) (list_any (begins_with number table) ps) (nat_eq once.at number)
      (other_table number table p other) (once.is number);
}

lower : (table low middle high : ℕ) (ps : List Piece) → low ≤ middle → BeginsOnce table middle high ps → BeginsOnce table low high ps
lower table low middle high ps le once =
    let from = once.from in
    record { at = once.at; from = omega arith; below = once.below; is = once.is }

begins_later : (table : ℕ) (p : Piece) (ps : List Piece) → AreChained p ps → p.table < table → table ≤ (last p ps).table
    → BeginsOnce table p.part (last p ps).part ps
begins_later table p [] chain less le = absurd (omega arith)
begins_later table p (q ∷ qs) chain less le =
    let up = part_up p q chain.0 in
    lower table p.part q.part (last q qs).part (q ∷ qs) up (elim chain.0.0 [
      | inl on ↦
          let same = on.table in
          let below : q.table < table = omega (arith, same, less) in
          begins_on table q.part (last q qs).part q qs (λ (e : q.table ≡ table). omega (arith, e, below)) (begins_later table q qs chain.1 below le)
      | inr next ↦
          let number = next.table in
          let most : q.table ≤ table = omega (arith, number, less) in
          elim (eq-or-lt_of_le most) [
            | inl same ↦ begins_now table q qs chain.1 same next.begins.first_byte
            | inr below ↦
                begins_on table q.part (last q qs).part q qs (λ (e : q.table ≡ table). omega (arith, e, below)) (begins_later table q qs chain.1 below le)
          ]
    ])

table_up : (p q : Piece) → Follows p q → p.table ≤ q.table
table_up p q follows = elim follows.0 [ inl on ↦ let same = on.table in omega arith | inr next ↦ let up = next.table in omega arith ]

last_over : (p : Piece) (ps : List Piece) → AreChained p ps → p.table ≤ (last p ps).table
last_over p [] chain = omega arith
last_over p (q ∷ qs) chain = let up = table_up p q chain.0 in let more = last_over q qs chain.1 in omega arith

tables_to : (p : Piece) (ps : List Piece) → AreChained p ps → All (λ x. x.table ≤ (last p ps).table) (p ∷ ps)
tables_to p [] chain = All-cons (λ (x : Piece). x.table ≤ p.table) p [] (omega arith) (All-nil (λ (x : Piece). x.table ≤ p.table))
tables_to p (q ∷ qs) chain = All-cons (λ (x : Piece). x.table ≤ (last q qs).table) p (q ∷ qs) (last_over p (q ∷ qs) chain) (tables_to q qs chain.1)

last_has : (P : Piece → Type 0) (p : Piece) (ps : List Piece) → All P (p ∷ ps) → P (last p ps)
last_has P p [] every = All-head P p [] every
last_has P p (q ∷ qs) every = last_has P q qs (All-tail P p (q ∷ qs) every)

-- the greatest table of a chain is that of its last piece
pub last_table : (n : ℕ) (p : Piece) (ps : List Piece) → AreChained p ps → All (λ x. x.table ≤ n) (p ∷ ps) → last_of n (p ∷ ps) ≢ None
    → (last p ps).table ≡ n
last_table n p ps chain few some =
    elim (eq-or-lt_of_le (last_has (λ (x : Piece). x.table ≤ n) p ps few)) [
      | inl same ↦ same
      | inr less ↦
          let apart = All-weaker (λ (x : Piece). x.table ≤ (last p ps).table) (λ (x : Piece). x.table ≢ n)
          (λ x le. λ (e : x.table ≡ n). omega (arith, e, le, less)) (p ∷ ps) (tables_to p ps chain) in
          absurd (some (last_of-none n (p ∷ ps) apart))
    ]

-- each table up to the last one begins in one of the parts
pub begins_once : (pieces : List Piece) → TileFront pieces → (n : ℕ) → All (λ x. x.table ≤ n) pieces → (0 < n → last_of n pieces ≢ None)
    → (table : ℕ) → 0 < table → table ≤ n → BeginsOnce table 1 (part_count pieces) pieces
begins_once [] tile n few top table some le = absurd (top (omega (arith, some, le)) refl)
begins_once (p ∷ ps) tile n few top table some le =
    let first = tile.0 in
    let number = first.table in
    let part = first.part in
    let end = last_table n p ps tile.1 few (top (omega (arith, some, le))) in
    let count : part_count (p ∷ ps) ≡ (last p ps).part = ap part_of (last_piece-cons p ps) in
    let least : p.table ≤ table = omega (arith, number, some) in
    let once : BeginsOnce table p.part (last p ps).part (p ∷ ps) = elim (eq-or-lt_of_le least) [
      | inl same ↦ begins_now table p ps tile.1 same first.begins.first_byte
      | inr less ↦
          begins_on table p.part (last p ps).part p ps (λ (e : p.table ≡ table). omega (arith, e, less))
          (begins_later table p ps tile.1 less (omega (arith, end, le)))
    ] in
    let from = once.from in
    let below = once.below in
    record { at = once.at; from = omega (arith, from, part); below = omega (arith, below, count); is = once.is }
