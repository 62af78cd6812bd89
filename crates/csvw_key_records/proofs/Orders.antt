-- The byte order of lines: lines between two that have one front have it too.
use Rattle.std.proofs.Common.{◌≡◌, ℕ, ◌<◌, true, false, List, [], ◌∷◌, ◌++◌, refl, sym, ap, ap₂, ◌∙◌, subst, lit<}
use Rattle.std.specs.Cmp.Lexicographic.{slice_cmp}
use Rattle.std.specs.Ordering.{MatchOrdering, is_gt, nat_cmp, ordering_reverse, ordering_then}
use Rattle.std.specs.declared.cmp.Ordering.{Ordering}
use Rattle.std.specs.declared.cmp.Ordering.TheVariants.{Less, Equal, Greater}
use Rattle.std.proofs.lemmas.Cmp.{nat_cmp_total, nat_list_cmp_total, ranked, tied_itself}
use Rattle.csvw_fault.specs.declared.fault.Place.{Place}
use Rattle.csvw_key_records.specs.declared.record.KeyRecord.{KeyRecord}
use Rattle.csvw_key_records.specs.declared.record.Role.{Role}
use Rattle.csvw_key_records.specs.declared.record.Role.TheVariants.{Referenced, Refers}
use Rattle.csvw_key_records.specs.Records.{FitsPlace, IsFront, front, line_of, tail, tail_of}
use Rattle.csvw_key_records.proofs.Cells.{cell_unique, first_unique, wider}
use Rattle.csvw_key_records.proofs.Lines.{front-cells, role_unique, tail-cells}

-- what follows one text decides
cmp_behind : (f x y : List ℕ) → slice_cmp nat_cmp (f ++ x) (f ++ y) ≡ slice_cmp nat_cmp x y
cmp_behind [] x y = refl
cmp_behind (c ∷ f) x y = ap (λ o. ordering_then o (slice_cmp nat_cmp (f ++ x) (f ++ y))) (tied_itself nat_cmp_total c) ∙ cmp_behind f x y

pub convex : (f a z b : List ℕ) → is_gt (slice_cmp nat_cmp (f ++ a) z) ≡ false → slice_cmp nat_cmp z (f ++ b) ≡ Less → (rest : List ℕ) × (z ≡ f ++ rest)
convex [] a z b above below = (z, refl)
convex (c ∷ f) a [] b above below = cc
convex (c ∷ f) a (d ∷ z) b above below = of (nat_cmp c d) refl (λ x y. convex f a z b x y)
  where
    of : (o : Ordering) → nat_cmp c d ≡ o
        → (is_gt (slice_cmp nat_cmp (f ++ a) z) ≡ false → slice_cmp nat_cmp z (f ++ b) ≡ Less → (rest : List ℕ) × (z ≡ f ++ rest))
        → (rest : List ℕ) × (d ∷ z ≡ c ∷ (f ++ rest))
    of Less is more =
        let back : nat_cmp d c ≡ Greater = nat_cmp_total.antisymm d c ∙ ap ordering_reverse is in
        absurd (let fails : Greater ≡ Less = sym (ap (λ o. ordering_then o (slice_cmp nat_cmp z (f ++ b))) back) ∙ below in cc)
    of Equal is more =
        let back : nat_cmp d c ≡ Equal = nat_cmp_total.antisymm d c ∙ ap ordering_reverse is in
        let same : c ≡ d = subst (λ o. MatchOrdering o (c < d) (c ≡ d) (d < c)) is (ranked c d (nat_cmp c d) refl) in
        let others = more (sym (ap (λ o. is_gt (ordering_then o (slice_cmp nat_cmp (f ++ a) z))) is) ∙ above)
        (sym (ap (λ o. ordering_then o (slice_cmp nat_cmp z (f ++ b))) back) ∙ below) in
        (others.0, ap₂ (λ x xs. x ∷ xs) (sym same) others.1)
    of Greater is more =
        absurd (let fails : true ≡ false = sym (ap (λ o. is_gt (ordering_then o (slice_cmp nat_cmp (f ++ a) z))) is) ∙ above in cc)

-- a line that is not above the last one is below one that the last one is below
pub below_next : (q last next : List ℕ) → is_gt (slice_cmp nat_cmp q last) ≡ false → slice_cmp nat_cmp last next ≡ Less → slice_cmp nat_cmp q next ≡ Less
below_next q last next above below = of (slice_cmp nat_cmp q last) refl
  where
    of : (o : Ordering) → slice_cmp nat_cmp q last ≡ o → slice_cmp nat_cmp q next ≡ Less
    of Less is = nat_list_cmp_total.trans q last next is below
    of Equal is = nat_list_cmp_total.congr q last next is ∙ below
    of Greater is = absurd (let fails : true ≡ false = sym (ap is_gt is) ∙ above in cc)

pub not_above_itself : (x : List ℕ) → is_gt (slice_cmp nat_cmp x x) ≡ false
not_above_itself x = ap is_gt (tied_itself nat_list_cmp_total x)

-- the rule and the key of a line can be read in one way
pub front_unique : (a b : ℕ) (k l x y : List ℕ) → IsFront a k → IsFront b l → front a k ++ x ≡ front b l ++ y → (a ≡ b) × (k ≡ l) × (x ≡ y)
front_unique a b k l x y p q is =
    let cells = cell_unique a b 44 (k ++ 44 ∷ x) (l ++ 44 ∷ y) (lit< tt) (wider a p.fits) (wider b q.fits)
    (sym (front-cells a k x) ∙ is ∙ front-cells b l y) in
    let keys = first_unique 44 k l x y p.is_key.comma q.is_key.comma cells.1 in
    (cells.0, keys.0, keys.1)

pub line_front : (r : KeyRecord) → line_of r ≡ front r.rule r.key ++ tail_of r
unfolding line_of
line_front r = refl

-- of two rows with one key, the line of the one that refers is above that of the one that is referred to
pub refers_above : (q r : KeyRecord) → q.role ≡ Refers → r.role ≡ Referenced → q.rule ≡ r.rule → q.key ≡ r.key → slice_cmp nat_cmp (line_of q) (line_of r) ≡ Greater
refers_above q r q_role r_role rule key =
    let q_line : line_of q ≡ front r.rule r.key ++ tail Refers q.place =
    line_front q ∙ (ap₂ (λ n k. front n k ++ tail_of q) rule key ∙ ap (λ role. front r.rule r.key ++ tail role q.place) q_role) in
    let r_line : line_of r ≡ front r.rule r.key ++ tail Referenced r.place = line_front r ∙ ap (λ role. front r.rule r.key ++ tail role r.place) r_role in
    ap₂ (slice_cmp nat_cmp) q_line r_line ∙ (cmp_behind (front r.rule r.key) (tail Refers q.place) (tail Referenced r.place) ∙ above q.place r.place)
  where
    above : (p s : Place) → slice_cmp nat_cmp (tail Refers p) (tail Referenced s) ≡ Greater
    above p s = refl

same_place : (p q : Place) → p.table ≡ q.table → p.row ≡ q.row → p.column ≡ q.column → p ≡ q
same_place p q a b c =
    ap (λ n. record p { table = n }) a ∙ ap (λ n. record p { table = q.table; row = n }) b ∙ ap (λ n. record p { table = q.table; row = q.row; column = n }) c

-- the role and the place of a line can be read in one way
pub tail_unique : (a b : Role) (p q : Place) (x y : List ℕ) → FitsPlace p → FitsPlace q → tail a p ++ x ≡ tail b q ++ y → (a ≡ b) × (p ≡ q) × (x ≡ y)
tail_unique a b p q x y f g is =
    let roles = role_unique a b _ _ (sym (tail-cells a p x) ∙ is ∙ tail-cells b q y) in
    let tables = cell_unique p.table q.table 44 _ _ (lit< tt) (wider p.table f.table) (wider q.table g.table) roles.1 in
    let rows = cell_unique p.row q.row 44 _ _ (lit< tt) f.row g.row tables.1 in
    let columns = cell_unique p.column q.column 10 x y (lit< tt) (wider p.column f.column) (wider q.column g.column) rows.1 in
    (roles.0, same_place p q tables.0 rows.0 columns.0, columns.1)
