-- The pieces of files so far, and one piece or one file more.
use Rattle.std.proofs.Common.{◌≡◌, ◌≢◌, ℕ, ◌+◌, ◌-◌, ◌<◌, ◌≤◌, ◌==◌, Bool, true, false, List, [], ◌∷◌, ◌++◌, length, get_or, Option, Some, None, Result, Ok, Err, refl, sym, ap, subst, ◌∙◌, inl, inr, arith, append_assoc, append-nil}
use Rattle.std.specs.Prelude.{IfOk, IfSome, OnOk, if◌then◌else◌, slice_get, slice_set}
use Rattle.std.specs.List.{All}
use Rattle.std.specs.Io.KnownBytes.{Consumes, IsAtEnd}
use Rattle.std.proofs.Math.ListN.{length-set}
use Rattle.std.proofs.Math.Nat.{eq-or-lt_of_le}
use Rattle.std.proofs.lemmas.Bool.Decides.{nat_tests}
use Rattle.std.proofs.lemmas.Option.{slice_get-get_or, slice_get_within, get_or_from_slice_get}
use Rattle.std.proofs.lemmas.List.{get_or-set_other}
use Rattle.std.proofs.lemmas.List.Elements.{All-append, All-cons, All-get_or, All-head, All-nil, All-push, All-same, All-tail, All-weaker}
use Rattle.csvw_columns.specs.declared.plan.TablePlan.{TablePlan}
use Rattle.csvw_streams.specs.Counted.{inner_of}
use Rattle.csvw_part_plan.specs.declared.piece.Piece.{Piece}
use Rattle.csvw_part_plan.specs.Plans.{TileFront, last_of, or_later}
use Rattle.csvw_split.specs.declared.cuts.Cut.{Cut}
use Rattle.csvw_split.specs.declared.cuts.WholeCuts.{WholeCuts}
use Rattle.csvw_split.specs.declared.splitting.TableFile.{TableFile}
use Rattle.csvw_split.specs.Adding.{Adds, AddsFile, AreCutsOf, Pushes}
use Rattle.csvw_split.specs.Cuts.{IsCut, IsCutUp, start}
use Rattle.csvw_split.specs.Front.{HasFront}
use Rattle.csvw_split.specs.Split.{AreCuts, AreWholeFiles, EndsFile, HasFrontOf, HasFrontOfSome, HaveFronts, IsPiece, IsPieceOf, IsPieceOfSome, IsPlace, TilesAll, cut_of}

pub adds_none : (t : TablePlan) (known : Option (List ℕ)) (pieces : List Piece) → Adds t known pieces pieces
adds_none t known pieces =
    record { more = []; all = sym (append-nil pieces); pieces = All-nil (IsPieceOf t.number t.dialect known); fronts = All-nil (HasFrontOf t known) }

-- a piece may begin here: at the start of the file, or where a row ends after the front
abbrev pub BeginsAt : TablePlan → Option (List ℕ) → ℕ → Cut → Type 0
BeginsAt t known header c = IfSome known (λ text. IsPlace t.dialect text c × (0 < c.first_byte → HasFront t text header c.first_byte))

placed : (t : TablePlan) (known : Option (List ℕ)) (header : ℕ) (c : Cut) (p : Piece) → cut_of p ≡ c → BeginsAt t known header c
    → IfSome known (λ text. IsPiece t.dialect text p)
placed t None header c p same at = tt
placed t (Some text) header c p same at = subst (IsPlace t.dialect text) (sym same) at.0

fronted : (t : TablePlan) (known : Option (List ℕ)) (header : ℕ) (c : Cut) (p : Piece) → cut_of p ≡ c → p.header_bytes ≡ header
    → BeginsAt t known header c → HasFrontOf t known p
fronted t None header c p same front at = tt
fronted t (Some text) header c p same front at = λ some.
    let place : p.first_byte ≡ c.first_byte = ap (λ k. k.first_byte) same in
    subst (λ n. HasFront t text p.header_bytes n) (sym place)
    (subst (λ n. HasFront t text n c.first_byte) (sym front) (at.1 (subst (λ n. 0 < n) place some)))

pub adds_more : (t : TablePlan) (known : Option (List ℕ)) (table : ℕ) (c : Cut) (end header : ℕ) (first before after : List Piece) → t.number ≡ table
    → Adds t known first before → Pushes table c end header before after → BeginsAt t known header c → Adds t known first after
adds_more t known table c end header first before after same adds pushes at = record {
  more = adds.more ++ pushes.piece ∷ [];
  all = pushes.all ∙ ap (λ ps. ps ++ pushes.piece ∷ []) adds.all ∙ append_assoc first adds.more (pushes.piece ∷ []);
  pieces = All-push (IsPieceOf t.number t.dialect known) adds.more pushes.piece adds.pieces
      (pushes.table_is ∙ sym same, placed t known header c pushes.piece pushes.place at);
  fronts = All-push (HasFrontOf t known) adds.more pushes.piece adds.fronts (fronted t known header c pushes.piece pushes.place pushes.header at);
}

pub begins_at_start : (t : TablePlan) (known : Option (List ℕ)) (header : ℕ) → BeginsAt t known header start
begins_at_start t None header = tt
begins_at_start t (Some text) header = (inl refl, λ some. absurd (omega arith))

pub begins_at_cut : (t : TablePlan) (known : Option (List ℕ)) (whole : WholeCuts) (i : ℕ) (c : Cut) → i < length whole.cuts → AreCutsOf t known whole
    → BeginsAt t known whole.header_bytes (get_or whole.cuts i c)
begins_at_cut t None whole i c below all = tt
begins_at_cut t (Some text) whole i c below all = (
  inr (All-get_or (IsCut t.dialect text) whole.cuts i c below all.cuts),
  λ some. All-get_or (λ (k : Cut). HasFront t text whole.header_bytes k.first_byte) whole.cuts i c below all.fronts,
)

tested : (b : Bool) (p : Piece) → b ≡ true → (if b then Some p else None) ≡ Some p
tested true p is = refl
tested false p is = cc

not_tested : (b : Bool) (p : Piece) → b ≡ false → (let found : Option Piece = if b then Some p else None in found) ≡ None
not_tested true p is = cc
not_tested false p is = refl

last_of-push : (table : ℕ) (xs : List Piece) (p : Piece) → p.table ≡ table → last_of table (xs ++ p ∷ []) ≡ Some p
last_of-push table [] p same = tested (p.table == table) p (grind (arith, nat_tests))
last_of-push table (q ∷ xs) p same = ap (or_later table q) (last_of-push table xs p same)

last_of-none : (table : ℕ) (ys : List Piece) → All (λ p. p.table ≢ table) ys → last_of table ys ≡ None
last_of-none table [] others = refl
last_of-none table (y ∷ ys) others =
    let other = λ (p : Piece). p.table ≢ table in
    let apart : y.table ≢ table = All-head other y ys others in
    ap (or_later table y) (last_of-none table ys (All-tail other y ys others)) ∙ not_tested (y.table == table) y (grind (arith, nat_tests))

last_of-others : (table : ℕ) (xs ys : List Piece) → All (λ p. p.table ≢ table) ys → last_of table (xs ++ ys) ≡ last_of table xs
last_of-others table [] ys others = last_of-none table ys others
last_of-others table (x ∷ xs) ys others = ap (or_later table x) (last_of-others table xs ys others)

ends_there : (t : TablePlan) (known : Option (List ℕ)) (whole : WholeCuts) (c : Cut) (p : Piece) → AreCutsOf t known whole
    → BeginsAt t known whole.header_bytes c → cut_of p ≡ c → p.bytes ≡ whole.length - c.first_byte
    → IfSome known (λ text. p.first_byte + p.bytes ≡ length text)
ends_there t None whole c p all at place bytes = tt
ends_there t (Some text) whole c p all at place bytes =
    let all_bytes = all.length_is in
    let begins : p.first_byte ≡ c.first_byte = ap (λ k. k.first_byte) place in
    elim at.0 [
      | inl first ↦ let zero_is : c.first_byte ≡ 0 = ap (λ k. k.first_byte) first in omega arith
      | inr cut ↦ let within = cut.within in omega arith
    ]

-- the last piece of a file was added
pub adds_file : (t : TablePlan) (known : Option (List ℕ)) (table : ℕ) (whole : WholeCuts) (c : Cut) (first before after : List Piece) → t.number ≡ table
    → Adds t known first before → Pushes table c whole.length whole.header_bytes before after → BeginsAt t known whole.header_bytes c
    → AreCutsOf t known whole → AddsFile t known first after
adds_file t known table whole c first before after same adds pushes at all = record {
  adds = adds_more t known table c whole.length whole.header_bytes first before after same adds pushes at;
  ends = record {
    last = pushes.piece;
    is_last = ap (last_of t.number) pushes.all ∙ last_of-push t.number before pushes.piece (pushes.table_is ∙ sym same);
    ends = ends_there t known whole c pushes.piece all at pushes.place pushes.bytes;
  };
}

-- the pieces of another table follow
ends_later : (table : ℕ) (had : Option (List ℕ)) (t : TablePlan) (known : Option (List ℕ)) (before after : List Piece) → t.number ≢ table
    → EndsFile table had before → Adds t known before after → EndsFile table had after
ends_later table had t known before after apart ends adds =
    let own = IsPieceOf t.number t.dialect known in
    let others = All-weaker own (λ p. p.table ≢ table) (λ p is. λ (e : p.table ≡ table). apart (sym is.0 ∙ e)) adds.more adds.pieces in
    record {
      last = ends.last;
      is_last = ap (last_of table) adds.all ∙ last_of-others table before adds.more others ∙ ends.is_last;
      ends = ends.ends;
    }

-- the bytes that a reader gave are all that it had, if it is at its end
pub at_end : (before middle after : Option (List ℕ)) (text more : List ℕ) → Consumes before middle text → Consumes middle after more → more ≡ []
    → IsAtEnd after → IfSome before (λ all. all ≡ text)
at_end None middle after text more gave last nothing none = tt
at_end (Some xs) None after text more gave last nothing none = absurd gave
at_end (Some xs) (Some ys) None text more gave last nothing none = absurd last
at_end (Some xs) (Some ys) (Some zs) text more gave last nothing none =
    gave ∙ ap (λ l. text ++ l) (last ∙ ap (λ l. l ++ zs) nothing ∙ none) ∙ append-nil text

pub known_cuts : (t : TablePlan) (known : Option (List ℕ)) (text : List ℕ) (whole : WholeCuts) → IfSome known (λ all. all ≡ text)
    → IsCutUp t text whole → AreCutsOf t known whole
known_cuts t None text whole all up = tt
known_cuts t (Some xs) text whole all up = subst (λ b. IsCutUp t b whole) (sym all) up

-- what follows from a fact of the cuts of a result
pub of_cuts : {E : Type 0} (r : Result WholeCuts E) (P Q : WholeCuts → Type 0) → ((whole : WholeCuts) → P whole → Q whole) → IfOk r P → IfOk r Q
of_cuts (Ok whole) P Q so p = so whole p
of_cuts (Err e) P Q so p = tt

pub on_ok : {T E : Type 0} (r : Result T E) (P Q : Type 0) → (P → Q) → OnOk r P → OnOk r Q
on_ok (Ok x) P Q so p = so p
on_ok (Err e) P Q so p = tt

pub set_other : {X : Type 0} (xs : List X) (i j : ℕ) (x y : X) → j ≢ i → slice_get (slice_set xs i x) j ≡ Some y → slice_get xs j ≡ Some y
set_other xs i j x y apart e =
    let within : j < length (slice_set xs i x) = slice_get_within (slice_set xs i x) j y e in
    let same : length (slice_set xs i x) ≡ length xs = length-set xs i x in
    let here : j < length xs = omega arith in
    slice_get-get_or xs j y here ∙ ap Some (sym (get_or-set_other xs i j x y apart) ∙ get_or_from_slice_get (slice_set xs i x) j y y e)

module _ {R : Type 0} (remaining : R → Option (List ℕ)) (tables : List TablePlan) (files : List (TableFile R)) where
  -- the pieces of one file more
  pub cuts_more : (i : ℕ) (plan : TablePlan) (file : TableFile R) (before after : List Piece) → slice_get tables i ≡ Some plan
      → slice_get files i ≡ Some file → AreCuts remaining tables files before
      → Adds plan (remaining (inner_of file.reader)) before after → AreCuts remaining tables files after
  cuts_more i plan file before after plan_is file_is all adds =
      let P = IsPieceOfSome remaining tables files in
      let Q = IsPieceOf plan.number plan.dialect (remaining (inner_of file.reader)) in
      let more = All-weaker Q P (λ p is. record { i = i; plan = plan; file = file; plan_is = plan_is; file_is = file_is; piece = is }) adds.more adds.pieces in
      All-same P after (before ++ adds.more) adds.all (All-append P before adds.more all more)

  both : {X : Type 0} (P Q T : X → Type 0) → ((x : X) → P x → Q x → T x) → (xs : List X) → All P xs → All Q xs → All T xs
  both P Q T so [] ps qs = All-nil T
  both P Q T so (x ∷ xs) ps qs =
      All-cons T x xs (so x (All-head P x xs ps) (All-head Q x xs qs)) (both P Q T so xs (All-tail P x xs ps) (All-tail Q x xs qs))

  pub fronts_more : (i : ℕ) (plan : TablePlan) (file : TableFile R) (before after : List Piece) → slice_get tables i ≡ Some plan
      → slice_get files i ≡ Some file → HaveFronts remaining tables files before
      → Adds plan (remaining (inner_of file.reader)) before after → HaveFronts remaining tables files after
  fronts_more i plan file before after plan_is file_is all adds =
      let P = HasFrontOfSome remaining tables files in
      let known = remaining (inner_of file.reader) in
      let more = both (IsPieceOf plan.number plan.dialect known) (HasFrontOf plan known) P
      (λ p is has. record { i = i; plan = plan; file = file; plan_is = plan_is; file_is = file_is; table = is.0; front = has }) adds.more adds.pieces
      adds.fronts in
      All-same P after (before ++ adds.more) adds.all (All-append P before adds.more all more)

  at_most : (j i : ℕ) → j < i + 1 → j ≤ i
  at_most j i below = omega arith

  -- the files before a place are in pieces to their ends
  abbrev pub EndBefore : ℕ → List Piece → Type 0
  EndBefore n pieces = (j : ℕ) (file : TableFile R) → j < n → slice_get files j ≡ Some file → EndsFile (j + 1) (remaining (inner_of file.reader)) pieces

  -- the tables before a place have the numbers from 1
  abbrev pub NumbersBefore : ℕ → Type 0
  NumbersBefore n = (j : ℕ) (plan : TablePlan) → j < n → slice_get tables j ≡ Some plan → plan.number ≡ j + 1

  pub ends_more : (i : ℕ) (plan : TablePlan) (file : TableFile R) (before after : List Piece) → slice_get files i ≡ Some file → plan.number ≡ i + 1
      → EndBefore i before → AddsFile plan (remaining (inner_of file.reader)) before after → EndBefore (i + 1) after
  ends_more i plan file before after file_is number ends adds = λ j f below is.
      let known = remaining (inner_of file.reader) in
      elim (eq-or-lt_of_le (at_most j i below)) [
        | inr less ↦
            ends_later (j + 1) (remaining (inner_of f.reader)) plan known before after (λ same. omega (arith, less, same, number)) (ends j f less is)
            adds.adds
        | inl same ↦
            let found : Some file ≡ Some f = sym file_is ∙ ap (slice_get files) (sym same) ∙ is in
            let here : file ≡ f = cc in
            subst (λ (g : TableFile R). EndsFile (j + 1) (remaining (inner_of g.reader)) after) here
            (subst (λ n. EndsFile n known after) (number ∙ ap (λ n. n + 1) (sym same)) adds.ends)
      ]

  pub numbers_more : (i : ℕ) (plan : TablePlan) → slice_get tables i ≡ Some plan → plan.number ≡ i + 1 → NumbersBefore i → NumbersBefore (i + 1)
  numbers_more i plan plan_is number numbers = λ j p below is.
      elim (eq-or-lt_of_le (at_most j i below)) [
        | inr less ↦ numbers j p less is
        | inl same ↦
            let found : Some plan ≡ Some p = sym plan_is ∙ ap (slice_get tables) (sym same) ∙ is in
            let here : plan ≡ p = cc in
            ap (λ q. q.number) (sym here) ∙ number ∙ ap (λ n. n + 1) (sym same)
      ]

  -- all files were cut
  pub whole_files : (pieces : List Piece) (n : ℕ) → length tables ≡ length files → length files ≤ n → EndBefore n pieces → NumbersBefore n
      → AreWholeFiles remaining tables files pieces
  whole_files pieces n one_each all ends numbers = record {
    one_each = one_each;
    numbers = λ i plan is. numbers i plan (let within = slice_get_within tables i plan is in omega arith) is;
    ends = λ i file is. ends i file (let within = slice_get_within files i file is in omega arith) is;
  }

  some_pieces : (fs : List (TableFile R)) (pieces : List Piece) → 0 < length fs
      → ((i : ℕ) (file : TableFile R) → slice_get fs i ≡ Some file → EndsFile (i + 1) (remaining (inner_of file.reader)) pieces) → pieces ≢ []
  some_pieces [] pieces some ends = absurd (omega arith)
  some_pieces (f ∷ fs) pieces some ends = λ none.
      let first = ends 0 f refl in
      let found : Some first.last ≡ None = sym first.is_last ∙ ap (last_of 1) none in
      absurd (cc)

  pub tiles_all : (pieces : List Piece) → TileFront pieces → AreWholeFiles remaining tables files pieces → TilesAll tables pieces
  tiles_all pieces tile whole =
      (tile, λ some. (some_pieces files pieces (let one_each = whole.one_each in omega arith) whole.ends, tile))
