-- Sorted lists of the same elements are equal, if elements that tie are equal.
use Rattle.std.proofs.Common.{◌≡◌, ◌+◌, ℕ, List, [], ◌∷◌, false, cond, refl, sym, ap, ◌∙◌, subst, arith, add-one, get_or, Ordering, Less, Equal}
use Rattle.std.proofs.Common.{Greater, nat_cmp, is_eq, is_lt}
use Rattle.std.specs.Cmp.{IsTotalOrder}
use Rattle.std.specs.List.{sum_by}
use Rattle.std.specs.List.Sorted.{IsPermutation, IsSorted}
use Rattle.std.specs.Ordering.{ordering_reverse, ordering_then}
use Rattle.std.proofs.lemmas.Cmp.{nat_cmp_total, on_total, then_total, tied_itself, ranked}
use Rattle.std.proofs.lemmas.List.Sorted.{IsPermutation-sym, IsPermutation-trans, sum_by-IsPermutation}
use Rattle.std.proofs.lemmas.List.Sums.{sum_by-cons}
use Rattle.csvw_fault.specs.declared.fault.Code.{Code}
use Rattle.csvw_fault.specs.declared.fault.Code.TheVariants.{UnknownProperty, HeaderMissing, HeaderCount, HeaderMismatch, Required, BadBoolean}
use Rattle.csvw_fault.specs.declared.fault.Code.TheVariants.{BadInteger, BadDecimal, NumberTooLong, OutOfRange, BadDate, BadDateTime, BadDouble, WrongLength}
use Rattle.csvw_fault.specs.declared.fault.Code.TheVariants.{BadTime, BadText, BadDuration, TooShort, TooLong, BelowMinimum, AboveMaximum, BadUrl, UrlTooLong, DuplicateKey}
use Rattle.csvw_fault.specs.declared.fault.Code.TheVariants.{NoReferencedRow, ManyReferencedRows}
use Rattle.csvw_fault.specs.declared.fault.Fault.{Fault}
use Rattle.csvw_fault.specs.declared.fault.Place.{Place}
use Rattle.csvw_fault.specs.declared.fault.Kind.{Kind}
use Rattle.csvw_fault.specs.declared.fault.Kind.TheVariants.{Error, Warning}
use Rattle.csvw_report.specs.ReportLaws.{SortsToOne}
use Rattle.csvw_report.specs.Order.{code_number, fault_cmp, kind_number, place_cmp}

by_ordering : (o : Ordering) (G : Type 0) → (o ≡ Less → G) → (o ≡ Equal → G) → (o ≡ Greater → G) → G
by_ordering Less G f g h = f refl
by_ordering Equal G f g h = g refl
by_ordering Greater G f g h = h refl

get_next : {X : Type 0} (x : X) (xs : List X) (k : ℕ) (d : X) → get_or (x ∷ xs) (k + 1) d ≡ get_or xs k d
get_next x xs k d = rw add-one refl

cons_same : {X : Type 0} (x y : X) (xs ys : List X) → x ≡ y → xs ≡ ys → x ∷ xs ≡ y ∷ ys
cons_same x y xs ys p q = cc

less_equal : (o : Ordering) → is_lt (ordering_reverse o) ≡ false → (G : Type 0) → (o ≡ Less → G) → (o ≡ Equal → G) → G
less_equal Less h G f g = f refl
less_equal Equal h G f g = g refl
less_equal Greater h G f g = cc

module _ {X : Type 0} (cmp : X → X → Ordering) (total : IsTotalOrder cmp) (tied : (x y : X) → cmp x y ≡ Equal → x ≡ y) where
  -- one for an element that ties with x
  abbrev hit : X → X → ℕ
  hit x y = cond (is_eq (cmp x y)) 1 0

  abbrev count : X → List X → ℕ
  count x xs = sum_by (hit x) xs

  count-cons : (c x : X) (xs : List X) → count c (x ∷ xs) ≡ hit c x + count c xs
  count-cons c x xs = sum_by-cons (hit c) x xs

  hit-itself : (x : X) → hit x x ≡ 1
  hit-itself x = rw (tied_itself total x) refl

  hit-less : (x y : X) → cmp x y ≡ Less → hit x y ≡ 0
  hit-less x y e = rw e refl

  head_rises : (x y : X) (xs : List X) → IsSorted cmp (x ∷ y ∷ xs) → is_lt (cmp y x) ≡ false
  head_rises x y xs h = h 0 x (omega arith) (omega arith)

  tail_sorted : (x : X) (xs : List X) → IsSorted cmp (x ∷ xs) → IsSorted cmp xs
  tail_sorted x xs h k d low high =
      let is = h (k + 1) d (omega arith) (omega arith) in
      ap (λ z. is_lt (cmp (get_or xs (k + 1) d) z)) (sym (get_next x xs k d))
      ∙ ap (λ z. is_lt (cmp z (get_or (x ∷ xs) (k + 1) d))) (sym (get_next x xs (k + 1) d))
      ∙ is

  -- what is less than the head is less than what follows
  less_more : (c x y : X) → cmp c x ≡ Less → is_lt (cmp y x) ≡ false → cmp c y ≡ Less
  less_more c x y less h =
      less_equal (cmp x y) (ap is_lt (sym (total.antisymm y x)) ∙ h) (cmp c y ≡ Less)
      (λ e. total.trans c x y less e)
      (λ e. subst (λ z. cmp c z ≡ Less) (tied x y e) less)

  none_below : (c x : X) (xs : List X) → cmp c x ≡ Less → IsSorted cmp (x ∷ xs) → count c (x ∷ xs) ≡ 0
  none_below c x [] less h = rw less refl
  none_below c x (y ∷ ys) less h =
      let rest : count c (y ∷ ys) ≡ 0 = none_below c y ys (less_more c x y less (head_rises x y ys h)) (tail_sorted x (y ∷ ys) h) in
      let here : hit c x ≡ 0 = hit-less c x less in
      omega (arith, rest, here, count-cons c x (y ∷ ys))

  -- lists that are sorted and hold each element equally often
  same_sorted : (xs ys : List X) → IsSorted cmp xs → IsSorted cmp ys → ((c : X) → count c xs ≡ count c ys) → xs ≡ ys
  same_sorted [] [] p q same = refl
  same_sorted [] (y ∷ ys) p q same = let one = hit-itself y in absurd (omega (arith, same y, one, count-cons y y ys))
  same_sorted (x ∷ xs) [] p q same = let one = hit-itself x in absurd (omega (arith, same x, one, count-cons x x xs))
  same_sorted (x ∷ xs) (y ∷ ys) p q same =
      by_ordering (cmp x y) (x ∷ xs ≡ y ∷ ys)
      (λ less.
      let one = hit-itself x in
      let none : count x (y ∷ ys) ≡ 0 = none_below x y ys less q in
      absurd (omega (arith, same x, one, none, count-cons x x xs)))
      (λ tie.
      let is = tied x y tie in
      let rest : (c : X) → count c xs ≡ count c ys =
      λ c. let e : hit c x ≡ hit c y = ap (hit c) is in omega (arith, same c, e, count-cons c x xs, count-cons c y ys) in
      cons_same x y xs ys is (same_sorted xs ys (tail_sorted x xs p) (tail_sorted y ys q) rest))
      (λ greater.
      let one = hit-itself y in
      let less : cmp y x ≡ Less = total.antisymm y x ∙ ap ordering_reverse greater in
      let none : count y (x ∷ xs) ≡ 0 = none_below y x xs less p in
      absurd (omega (arith, same y, one, none, count-cons y y ys)))

  sorted_one : (xs ys : List X) → IsPermutation xs ys → IsSorted cmp xs → IsSorted cmp ys → xs ≡ ys
  sorted_one xs ys moved p q = same_sorted xs ys p q (λ c. sym (sum_by-IsPermutation (hit c) xs ys moved))

-- faults that tie are equal
then_equal : (o p : Ordering) → ordering_then o p ≡ Equal → (o ≡ Equal) × (p ≡ Equal)
then_equal Less p h = cc
then_equal Equal p h = (refl, h)
then_equal Greater p h = cc

nat_equal : (m n : ℕ) → nat_cmp m n ≡ Equal → m ≡ n
nat_equal m n h = rw h at (ranked m n (nat_cmp m n) refl)

abbrev all_codes : List Code
all_codes =
    UnknownProperty ∷ HeaderMissing ∷ HeaderCount ∷ HeaderMismatch ∷ Required ∷ BadBoolean ∷ BadInteger ∷ BadDecimal
    ∷ NumberTooLong ∷ OutOfRange ∷ BadDate ∷ BadDateTime ∷ BadDouble ∷ BadTime ∷ BadText ∷ BadDuration ∷ WrongLength ∷ TooShort ∷ TooLong
    ∷ BelowMinimum ∷ AboveMaximum ∷ BadUrl ∷ UrlTooLong ∷ DuplicateKey ∷ NoReferencedRow ∷ ManyReferencedRows ∷ []

-- the code of this number
abbrev code_at : ℕ → Code
code_at n = get_or all_codes n UnknownProperty

code_back : (c : Code) → code_at (code_number c) ≡ c
code_back UnknownProperty = refl
code_back HeaderMissing = refl
code_back HeaderCount = refl
code_back HeaderMismatch = refl
code_back Required = refl
code_back BadBoolean = refl
code_back BadInteger = refl
code_back BadDecimal = refl
code_back NumberTooLong = refl
code_back OutOfRange = refl
code_back BadDate = refl
code_back BadDateTime = refl
code_back BadDouble = refl
code_back BadTime = refl
code_back BadText = refl
code_back BadDuration = refl
code_back WrongLength = refl
code_back TooShort = refl
code_back TooLong = refl
code_back BelowMinimum = refl
code_back AboveMaximum = refl
code_back BadUrl = refl
code_back UrlTooLong = refl
code_back DuplicateKey = refl
code_back NoReferencedRow = refl
code_back ManyReferencedRows = refl

code_equal : (c d : Code) → code_number c ≡ code_number d → c ≡ d
code_equal c d e = sym (code_back c) ∙ ap code_at e ∙ code_back d

kind_equal : (c d : Kind) → kind_number c ≡ kind_number d → c ≡ d
kind_equal Error Error e = refl
kind_equal Error Warning e = absurd (omega (arith, e))
kind_equal Warning Error e = absurd (omega (arith, e))
kind_equal Warning Warning e = refl

abbrev place : ℕ → ℕ → ℕ → Place
place t r c = record { table = t; row = r; column = c }

place_equal : (p q : Place) → place_cmp p q ≡ Equal → p ≡ q
place_equal p q h =
    let outer = then_equal (nat_cmp p.table q.table) _ h in
    let inner = then_equal (nat_cmp p.row q.row) (nat_cmp p.column q.column) outer.1 in
    ap (λ t. place t p.row p.column) (nat_equal _ _ outer.0)
    ∙ ap (λ r. place q.table r p.column) (nat_equal _ _ inner.0)
    ∙ ap (λ c. place q.table q.row c) (nat_equal _ _ inner.1)

abbrev fault : Place → Code → Kind → Fault
fault p c k = record { place = p; code = c; kind = k }

fault_equal : (a b : Fault) → fault_cmp a b ≡ Equal → a ≡ b
fault_equal a b h =
    let outer = then_equal (place_cmp a.place b.place) _ h in
    let inner = then_equal (nat_cmp (code_number a.code) (code_number b.code)) (nat_cmp (kind_number a.kind) (kind_number b.kind)) outer.1 in
    ap (λ p. fault p a.code a.kind) (place_equal a.place b.place outer.0)
    ∙ ap (λ c. fault b.place c a.kind) (code_equal a.code b.code (nat_equal _ _ inner.0))
    ∙ ap (λ k. fault b.place b.code k) (kind_equal a.kind b.kind (nat_equal _ _ inner.1))

place_total : IsTotalOrder place_cmp
place_total =
    then_total (on_total (λ (p : Place). p.table) nat_cmp_total)
    (then_total (on_total (λ (p : Place). p.row) nat_cmp_total) (on_total (λ (p : Place). p.column) nat_cmp_total))

fault_total : IsTotalOrder fault_cmp
fault_total =
    then_total (on_total (λ (f : Fault). f.place) place_total)
    (then_total (on_total (λ (f : Fault). code_number f.code) nat_cmp_total) (on_total (λ (f : Fault). kind_number f.kind) nat_cmp_total))

pub sorts_to_one : SortsToOne
sorts_to_one faults first second p up q rises =
    sorted_one fault_cmp fault_total fault_equal first second (IsPermutation-trans first faults second (IsPermutation-sym faults first p) q) up rises
