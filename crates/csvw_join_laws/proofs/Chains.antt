-- Pieces that tile the files of tables are cut into these tables: the pieces of a table follow each other, with its rows in order.
use Rattle.std.proofs.Common.{◌≡◌, ◌≢◌, ◌⊎◌, ◌∙◌, ℕ, zero, suc, ◌+◌, ◌-◌, ◌<◌, ◌≤◌, ◌==◌, ◌&&◌, Bool, true, false, cond, List, [], ◌∷◌, ◌++◌, Option, Some, None, refl, sym, ap, ap₂, subst, arith, inl, inr, append_assoc, append-nil, drop, flat_map, length, length-drop, map, take, take-append-drop}
use Rattle.std.specs.Prelude.{if◌then◌else◌, nat_lt, slice_get}
use Rattle.std.specs.List.{All, find}
use Rattle.std.specs.Option.{option_or, option_to_list}
use Rattle.std.proofs.lemmas.Bool.Decides.{nat_tests}
use Rattle.std.proofs.lemmas.List.Elements.{All-cons, All-head, All-nil, All-push, All-tail, All-weaker}
use Rattle.std.proofs.lemmas.List.Folds.{find-append}
use Rattle.csvw_annotate.specs.declared.row.Row.{Row}
use Rattle.csvw_part_plan.specs.Plans.{AreChained, GoesOn, TileFront, is_later, last_of, or_later}
use Rattle.csvw_part_plan.specs.declared.piece.Piece.{Piece}
use Rattle.csvw_join_laws.specs.Joining.{AreCutInto, Planned, TablePiece}
use Rattle.csvw_join_laws.specs.PlanPieces.{piece_in, rows_up_to, table_pieces}

left_false : (a b : Bool) → a ≡ false → (a && b) ≡ false
left_false true b is = cc
left_false false b is = refl

right_false : (a b : Bool) → b ≡ false → (a && b) ≡ false
right_false true b is = is
right_false false b is = refl

both_pass : (a b : Bool) → a ≡ true → b ≡ true → (a && b) ≡ true
both_pass true b is so = so
both_pass false b is so = cc

-- another piece is of an earlier table, or of the same one in a part that isn't later
abbrev pub Before : Piece → Piece → Type 0
Before p x = (x.table < p.table) ⊎ ((x.table ≡ p.table) × (x.part ≤ p.part))

pub not_later : (p x : Piece) → Before p x → is_later p x ≡ false
not_later p x (inl less) = left_false (x.table == p.table) (nat_lt p.part x.part) (grind (arith, nat_tests))
not_later p x (inr same) = let few = same.1 in right_false (x.table == p.table) (nat_lt p.part x.part) (grind (arith, nat_tests))

pub after_table : (p x : Piece) → p.table < x.table → is_later p x ≡ false
after_table p x less = left_false (x.table == p.table) (nat_lt p.part x.part) (grind (arith, nat_tests))

pub goes_later : (p q : Piece) → GoesOn p q → is_later p q ≡ true
goes_later p q on =
    let table = on.table in
    let part = on.part in
    both_pass (q.table == p.table) (nat_lt p.part q.part) (grind (arith, nat_tests)) (grind (arith, nat_tests))

pub find-none : (test : Piece → Bool) (xs : List Piece) → All (λ x. test x ≡ false) xs → find test xs ≡ None
find-none test [] none = refl
find-none test (x ∷ xs) none =
    let fails = λ (y : Piece). test y ≡ false in
    ap (λ b. cond b (Some x) (find test xs)) (All-head fails x xs none) ∙ find-none test xs (All-tail fails x xs none)

none_of : (b : Bool) (p : Piece) → b ≡ false → (let found : Option Piece = if b then Some p else None in found) ≡ None
none_of true p is = cc
none_of false p is = refl

pub last_of-none : (table : ℕ) (ys : List Piece) → All (λ p. p.table ≢ table) ys → last_of table ys ≡ None
last_of-none table [] others = refl
last_of-none table (y ∷ ys) others =
    let other = λ (p : Piece). p.table ≢ table in
    let apart : y.table ≢ table = All-head other y ys others in
    ap (or_later table y) (last_of-none table ys (All-tail other y ys others)) ∙ none_of (y.table == table) y (grind (arith, nat_tests))

pub at_drop : {X : Type 0} (xs : List X) (k : ℕ) (x : X) (ys : List X) → drop k xs ≡ x ∷ ys → (slice_get xs k ≡ Some x) × (drop (suc k) xs ≡ ys)
at_drop [] zero x ys is = cc
at_drop [] (suc k) x ys is = cc
at_drop (z ∷ zs) zero x ys is = (cc, cc)
at_drop (z ∷ zs) (suc k) x ys is = at_drop zs k x ys is

pub drop_none : {X : Type 0} (n : ℕ) → drop n (let none : List X = [] in none) ≡ []
drop_none zero = refl
drop_none (suc n) = refl

-- rows up to a count, and the rows from there on
rows_joined : (rows : List Row) (n m : ℕ) → n ≤ m → take (m - n) (drop n rows) ++ drop m rows ≡ drop n rows
rows_joined rows n m le = ap (λ l. take (m - n) (drop n rows) ++ l) (sym (drop-from rows n m le)) ∙ take-append-drop (m - n) (drop n rows)
  where
    drop-from : (rows : List Row) (n m : ℕ) → n ≤ m → drop (m - n) (drop n rows) ≡ drop m rows
    drop-from rows zero m le = ap (λ k. drop k rows) (omega arith)
    drop-from [] (suc n) zero le = absurd (omega arith)
    drop-from [] (suc n) (suc m) le = drop_none (suc m - suc n)
    drop-from (r ∷ rs) (suc n) zero le = absurd (omega arith)
    drop-from (r ∷ rs) (suc n) (suc m) le = ap (λ k. drop k (drop n rs)) (omega arith) ∙ drop-from rs n m (omega arith)

right_of : (P : Piece → Type 0) (xs ys : List Piece) → All P (xs ++ ys) → All P ys
right_of P [] ys every = every
right_of P (x ∷ xs) ys every = right_of P xs ys (All-tail P x (xs ++ ys) every)

pub before_on : (p q x : Piece) → GoesOn p q → Before p x → Before q x
before_on p q x on (inl less) = let table = on.table in inl (omega arith)
before_on p q x on (inr same) =
    let table = on.table in
    let part = on.part in
    let few = same.1 in
    inr (same.0 ∙ sym table, omega arith)

pub before_next : (p q x : Piece) → q.table ≡ p.table + 1 → Before p x → Before q x
before_next p q x up (inl less) = inl (omega arith)
before_next p q x up (inr same) = let table = same.0 in inl (omega arith)

-- the tables of a chain go up
pub tables_up : (p : Piece) (ps : List Piece) → AreChained p ps → All (λ x. p.table ≤ x.table) (p ∷ ps)
tables_up p [] chain = All-cons (λ (x : Piece). p.table ≤ x.table) p [] (omega arith) (All-nil (λ (x : Piece). p.table ≤ x.table))
tables_up p (q ∷ qs) chain =
    let from = λ (x : Piece). p.table ≤ x.table in
    let up : p.table ≤ q.table = elim chain.0.0 [ inl on ↦ let table = on.table in omega arith | inr next ↦ let table = next.table in omega arith ] in
    All-cons from p (q ∷ qs) (omega arith)
    (All-weaker (λ (x : Piece). q.table ≤ x.table) from (λ x le. omega (arith, le, up)) (q ∷ qs) (tables_up q qs chain.1))

module _ (planned : List Planned) (all : List Piece) (few : All (λ p. p.table ≤ length planned) all)
    (top : 0 < length planned → last_of (length planned) all ≢ None) where
  abbrev item : Piece → List TablePiece
  item p = table_pieces planned all p

  abbrev own_piece : Piece → Option Piece → Planned → TablePiece
  own_piece p next t = record { plan = t.0; columns = t.1.columns; rows = rows_up_to p next t.1.rows }

  item_is : (p : Piece) (k : ℕ) (t : Planned) (next : Option Piece) → p.table ≡ suc k → slice_get planned k ≡ Some t → find (is_later p) all ≡ next
      → item p ≡ own_piece p next t ∷ []
  item_is p k t next table at is =
      let place : p.table - 1 ≡ k = omega arith in
      ap (λ o. map (piece_in all p) (option_to_list o)) (ap (slice_get planned) place ∙ at)
      ∙ ap (λ (o : Option Piece). own_piece p o t ∷ []) is

  module _ (front : List Piece) (p : Piece) (rest : List Piece) (parts : all ≡ front ++ rest) (before : All (Before p) front) where
    none_before : find (is_later p) front ≡ None
    none_before = find-none (is_later p) front (All-weaker (Before p) (λ x. is_later p x ≡ false) (not_later p) front before)

    found_after : find (is_later p) all ≡ find (is_later p) rest
    found_after =
        ap (find (is_later p)) parts ∙ find-append (is_later p) front rest ∙ ap (λ (o : Option Piece). option_or o (find (is_later p) rest)) none_before

  -- the pieces from this one on: those of its table, from its rows on, and then those of the tables after it
  record Goes (t : Planned) (ts : List Planned) (p : Piece) (ps : List Piece) : Type 0 where
    own : List TablePiece
    others : List TablePiece
    parts : flat_map item (p ∷ ps) ≡ own ++ others
    plans : All (λ q. q.plan ≡ t.0) own
    columns : All (λ q. q.columns ≡ t.1.columns) own
    rows : flat_map (λ q. q.rows) own ≡ drop p.data_rows_before t.1.rows
    rest : AreCutInto ts others

  -- a last piece of a table, with the tables after it
  ends_table : (t : Planned) (ts : List Planned) (p : Piece) (ps : List Piece) → item p ≡ own_piece p None t ∷ [] → AreCutInto ts (flat_map item ps)
      → Goes t ts p ps
  ends_table t ts p ps is cut = record {
    own = own_piece p None t ∷ [];
    others = flat_map item ps;
    parts = ap (λ l. l ++ flat_map item ps) is;
    plans = All-cons (λ (q : TablePiece). q.plan ≡ t.0) (own_piece p None t) [] refl (All-nil (λ (q : TablePiece). q.plan ≡ t.0));
    columns = All-cons (λ (q : TablePiece). q.columns ≡ t.1.columns) (own_piece p None t) [] refl (All-nil (λ (q : TablePiece). q.columns ≡ t.1.columns));
    rows = append-nil (drop p.data_rows_before t.1.rows);
    rest = cut;
  }

  -- a piece of a table before another one
  goes_more : (t : Planned) (ts : List Planned) (p q : Piece) (qs : List Piece) → item p ≡ own_piece p (Some q) t ∷ [] → p.data_rows_before ≤ q.data_rows_before
      → Goes t ts q qs → Goes t ts p (q ∷ qs)
  goes_more t ts p q qs is le goes =
      let mine = own_piece p (Some q) t in record {
        own = mine ∷ goes.own;
        others = goes.others;
        parts = ap₂ (λ a b. a ++ b) is goes.parts;
        plans = All-cons (λ (r : TablePiece). r.plan ≡ t.0) mine goes.own refl goes.plans;
        columns = All-cons (λ (r : TablePiece). r.columns ≡ t.1.columns) mine goes.own refl goes.columns;
        rows = ap (λ l. mine.rows ++ l) goes.rows ∙ rows_joined t.1.rows p.data_rows_before q.data_rows_before le;
        rest = goes.rest;
      }

  cuts_first : (t : Planned) (ts : List Planned) (p : Piece) (ps : List Piece) → p.data_rows_before ≡ 0 → Goes t ts p ps
      → AreCutInto (t ∷ ts) (flat_map item (p ∷ ps))
  cuts_first t ts p ps first goes = record {
    own = goes.own;
    others = goes.others;
    parts = goes.parts;
    of_table = record { plans = goes.plans; columns = goes.columns; rows = goes.rows ∙ ap (λ n. drop n t.1.rows) first };
    rest = goes.rest;
  }

  -- no table is after that of the last piece
  none_after : (front : List Piece) (p : Piece) (k : ℕ) (t : Planned) (ts : List Planned) → all ≡ front → All (Before p) front → p.table ≡ suc k
      → drop k planned ≡ t ∷ ts → ts ≡ []
  none_after front p k t [] same before table at = refl
  none_after front p k t (u ∷ us) same before table at =
      let long : length planned - k ≡ length (t ∷ u ∷ us) = sym (length-drop k planned) ∙ ap length at in
      let low = λ (x : Piece). x.table ≢ length planned in
      let apart : All low front = All-weaker (Before p) low (λ x b. elim b [
        | inl less ↦ λ (e : x.table ≡ length planned). omega (arith, less, table, long, e)
        | inr same_table ↦ let table_is = same_table.0 in λ (e : x.table ≡ length planned). omega (arith, table_is, table, long, e)
      ]) front before in
      absurd (top (omega (arith, long)) (ap (last_of (length planned)) same ∙ last_of-none (length planned) front apart))

  -- there is a table after this one
  some_table : (k : ℕ) (t : Planned) (ts : List Planned) → drop k planned ≡ t ∷ ts → suc k < length planned
      → (u : Planned) × (us : List Planned) × (ts ≡ u ∷ us)
  some_table k t [] at more =
      let long : length planned - k ≡ 1 = sym (length-drop k planned) ∙ ap length at in
      absurd (omega (arith, long, more))
  some_table k t (u ∷ us) at more = (u, us, refl)

  goes : (before : List Piece) (p : Piece) (ps : List Piece) (k : ℕ) (t : Planned) (ts : List Planned) → all ≡ (before ++ p ∷ []) ++ ps
      → All (Before p) (before ++ p ∷ []) → AreChained p ps → p.table ≡ suc k → drop k planned ≡ t ∷ ts → Goes t ts p ps
  goes before p [] k t ts parts so chain table at =
      let front = before ++ p ∷ [] in
      let next = found_after front p [] parts so in
      let none = none_after front p k t ts (parts ∙ append-nil front) so table at in
      ends_table t ts p [] (item_is p k t None table (at_drop planned k t ts at).0 next) (subst (λ l. AreCutInto l []) (sym none) refl)
  goes before p (q ∷ qs) k t ts parts so chain table at =
      let front = before ++ p ∷ [] in
      let here = (at_drop planned k t ts at).0 in
      let found = found_after front p (q ∷ qs) parts so in
      let parts' : all ≡ (front ++ q ∷ []) ++ qs = parts ∙ sym (append_assoc front (q ∷ []) qs) in
      elim chain.0.0 [
        | inl on ↦
            let same = on.table in
            let part = on.part in
            let is_next : find (is_later p) all ≡ Some q = found ∙ ap (λ b. cond b (Some q) (find (is_later p) qs)) (goes_later p q on) in
            let so' : All (Before q) front = All-weaker (Before p) (Before q) (λ x b. before_on p q x on b) front so in
            goes_more t ts p q qs (item_is p k t (Some q) table here is_next) on.data_rows
            (goes front q qs k t ts parts' (All-push (Before q) front q so' (inr (refl, omega arith))) chain.1 (same ∙ table) at)
        | inr next ↦
            let up = next.table in
            let above = All-weaker (λ (x : Piece). q.table ≤ x.table) (λ x. is_later p x ≡ false)
            (λ x le. after_table p x (omega (arith, le, up))) (q ∷ qs) (tables_up q qs chain.1) in
            let is_last : find (is_later p) all ≡ None = found ∙ find-none (is_later p) (q ∷ qs) above in
            let so' : All (Before q) front = All-weaker (Before p) (Before q) (λ x b. before_next p q x up b) front so in
            let low : q.table ≤ length planned =
            All-head (λ (x : Piece). x.table ≤ length planned) q qs
            (right_of (λ (x : Piece). x.table ≤ length planned) front (q ∷ qs) (subst (All (λ (x : Piece). x.table ≤ length planned)) parts few)) in
            let some = some_table k t ts at (omega (arith, low, up, table)) in
            let at' : drop (suc k) planned ≡ some.0 ∷ some.1 = (at_drop planned k t ts at).1 ∙ some.2 in
            let later = goes front q qs (suc k) some.0 some.1 parts' (All-push (Before q) front q so' (inr (refl, omega arith))) chain.1
            (omega (arith, up, table)) at' in
            ends_table t ts p (q ∷ qs) (item_is p k t None table here is_last)
            (subst (λ l. AreCutInto l (flat_map item (q ∷ qs))) (sym some.2) (cuts_first some.0 some.1 q qs next.begins.data_rows later))
      ]

  first_table : (p : Piece) (ps : List Piece) (planned' : List Planned) → planned ≡ planned' → all ≡ p ∷ ps → AreChained p ps → p.table ≡ 1
      → p.data_rows_before ≡ 0 → AreCutInto planned' (flat_map item (p ∷ ps))
  first_table p ps [] same parts chain table first =
      let low = All-head (λ (x : Piece). x.table ≤ length planned) p ps (subst (All (λ (x : Piece). x.table ≤ length planned)) parts few) in
      let none : length planned ≡ 0 = ap length same in
      absurd (omega (arith, low, table, none))
  first_table p ps (t ∷ ts) same parts chain table first =
      cuts_first t ts p ps first
      (goes [] p ps zero t ts parts (All-push (Before p) [] p (All-nil (Before p)) (inr (refl, omega arith))) chain table same)

  no_pieces : (planned' : List Planned) → planned ≡ planned' → all ≡ [] → AreCutInto planned' []
  no_pieces [] same parts = refl
  no_pieces (t ∷ ts) same parts = let some = ap length same in absurd (top (omega (arith, some)) (ap (last_of (length planned)) parts))

  cut_by : (pieces : List Piece) → all ≡ pieces → TileFront pieces → AreCutInto planned (flat_map item pieces)
  cut_by [] parts tile = no_pieces planned refl parts
  cut_by (p ∷ ps) parts tile = first_table p ps planned refl parts tile.1 tile.0.table tile.0.begins.data_rows

  -- all pieces, in order, are those of the tables
  pub cut_into : TileFront all → AreCutInto planned (flat_map item all)
  cut_into tile = cut_by all refl tile
