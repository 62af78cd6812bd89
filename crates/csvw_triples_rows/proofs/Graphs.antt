-- The triples of rows are their graph.
use Rattle.std.proofs.Common.{◌≡◌, ℕ, zero, suc, ◌+◌, Bool, true, false, cond, List, [], ◌∷◌, map, drop, refl, sym, ap, ◌∙◌, subst, arith, add-one}
use Rattle.std.proofs.Common.{inl, inr, ◌⊎◌, ◌↔◌, Option, Some, None, Contains}
use Rattle.std.proofs.lemmas.List.Elements.{Contains-append_left, Contains-append_right, Contains-append_cases, Contains-push, Contains-push_cases}
use Rattle.std.specs.Prelude.{MatchBool, flat_map, slice_get}
use Rattle.std.specs.List.{zip}
use Rattle.csvw_columns_core.specs.declared.column.Column.{Column}
use Rattle.csvw_columns_core.specs.declared.columns.Columns.{Columns}
use Rattle.csvw_cell.specs.declared.cell.Item.{Item}
use Rattle.csvw_cell.specs.declared.cell.CellValue.{CellValue}
use Rattle.csvw_cell.specs.declared.cell.CellValue.TheVariants.{Null, One, Many}
use Rattle.csvw_annotate.specs.declared.row.Row.{Row}
use Rattle.csvw_triples_core.specs.declared.origin.Origin.{Origin}
use Rattle.csvw_triples_core.specs.declared.term.Node.{Node}
use Rattle.csvw_triples_core.specs.declared.term.Term.{Term}
use Rattle.csvw_triples_core.specs.declared.term.Term.TheVariants as term
use Rattle.csvw_triples_core.specs.declared.term.Triple.{Triple}
use Rattle.csvw_triples_rows.specs.Literals.{literal_of}
use Rattle.csvw_triples_rows.specs.Graph.{IsObjectBy, IsListTriple, IsOfList, MinimalRow, Minimal}
use Rattle.csvw_triples_rows.specs.RowTriples.{triple, subject_of, predicate_of, entries_of, list_node, first_triple, rest_triple, list_triples}
use Rattle.csvw_triples_rows.specs.RowTriples.{object_triples, cell_triples, cells_triples, minimal_triples}

-- lists

pub none_in : {X : Type 0} (x : X) → Contains [] x → ⊥
none_in x h = let lt = h.1 in absurd (omega arith)

pub first_in : {X : Type 0} (x : X) (xs : List X) → Contains (x ∷ xs) x
first_in x xs = Contains-append_left (x ∷ []) xs x (Contains-push [] x)

pub later_in : {X : Type 0} (y : X) (xs : List X) (x : X) → Contains xs x → Contains (y ∷ xs) x
later_in y xs x h = Contains-append_right (y ∷ []) xs x h

pub one_in : {X : Type 0} (y x : X) → Contains (y ∷ []) x → x ≡ y
one_in y x h = same (Contains-push_cases [] y x h)
  where
    same : Contains [] x ⊎ (y ≡ x) → x ≡ y
    same (inl k) = absurd (none_in x k)
    same (inr e) = sym e

-- the first of a list, or one of the others
pub in_cons : {X : Type 0} (y : X) (ys : List X) (x : X) → Contains (y ∷ ys) x → (x ≡ y) ⊎ Contains ys x
in_cons y ys x h =
    elim (Contains-append_cases (y ∷ []) ys x h) [
      | inl k ↦ inl (one_in y x k)
      | inr k ↦ inr k
    ]

pub is_first : {X : Type 0} (y : X) (ys : List X) (x : X) → x ≡ y → Contains (y ∷ ys) x
is_first y ys x e = subst (λ z. Contains (y ∷ ys) z) (sym e) (first_in y ys)

-- an item of the joined lists is in the list of some item
pub from_flat : {X Y : Type 0} (f : X → List Y) (xs : List X) (y : Y) → Contains (flat_map f xs) y → (x : X) × Contains xs x × Contains (f x) y
from_flat f [] y h = absurd (none_in y h)
from_flat f (x ∷ xs) y h =
    elim (Contains-append_cases (f x) (flat_map f xs) y h) [
      | inl k ↦ (x, first_in x xs, k)
      | inr k ↦ let (later, inside, has) = from_flat f xs y k in (later, later_in x xs later inside, has)
    ]

pub to_flat : {X Y : Type 0} (f : X → List Y) (xs : List X) (x : X) (y : Y) → Contains xs x → Contains (f x) y → Contains (flat_map f xs) y
to_flat f [] x y h k = absurd (none_in x h)
to_flat f (z ∷ xs) x y h k =
    elim (in_cons z xs x h) [
      | inl e ↦ Contains-append_left (f z) (flat_map f xs) y (subst (λ w. Contains (f w) y) e k)
      | inr l ↦ Contains-append_right (f z) (flat_map f xs) y (to_flat f xs x y l k)
    ]

-- the same of a list of the images
pub from_map : {X Y : Type 0} (f : X → Y) (xs : List X) (y : Y) → Contains (map f xs) y → (x : X) × Contains xs x × (y ≡ f x)
from_map f [] y h = absurd (none_in y h)
from_map f (x ∷ xs) y h =
    elim (in_cons (f x) (map f xs) y h) [
      | inl e ↦ (x, first_in x xs, e)
      | inr k ↦ let (later, inside, image) = from_map f xs y k in (later, later_in x xs later inside, image)
    ]

pub to_map : {X Y : Type 0} (f : X → Y) (xs : List X) (x : X) (y : Y) → Contains xs x → y ≡ f x → Contains (map f xs) y
to_map f [] x y h e = absurd (none_in x h)
to_map f (z ∷ xs) x y h e =
    elim (in_cons z xs x h) [
      | inl k ↦ is_first (f z) (map f xs) y (e ∙ ap f k)
      | inr l ↦ later_in (f z) (map f xs) y (to_map f xs x y l e)
    ]

-- triples

same_triple : (x : Triple) (s : Node) (p : List ℕ) (o : Term) → x.s ≡ s → x.p ≡ p → x.o ≡ o → x ≡ triple s p o
same_triple x s p o f g h = ap (λ z. triple z x.p x.o) f ∙ (ap (λ z. triple s z x.o) g ∙ ap (λ z. triple s p z) h)

-- ordered lists

module _ (entry : ℕ → Origin) (column : Column) where
  -- an item of a list whose first entry has number k
  abbrev OfEntry : ℕ → List Item → Triple → Type 0
  OfEntry k items x =
      (i : ℕ) × (item : Item) × (slice_get items i ≡ Some item)
      × ((x ≡ first_triple entry column (i + k) item) ⊎ (x ≡ rest_triple entry (i + k) (drop (i + 1) items)))

  next_number : (i k : ℕ) → i + (k + 1) ≡ suc i + k
  next_number i k = omega arith

  next_tail : (i : ℕ) (y : Item) (items : List Item) → drop (i + 1) items ≡ drop (suc i + 1) (y ∷ items)
  next_tail i y items = ap (λ m. drop m items) (add-one i) ∙ ap (λ m. drop m (y ∷ items)) (sym (add-one (suc i)))

  later_entry : (k : ℕ) (y : Item) (items : List Item) (x : Triple) → OfEntry (k + 1) items x → OfEntry k (y ∷ items) x
  later_entry k y items x (i, item, is_at, is_one) =
      let n = next_number i k in
      let tail = next_tail i y items in (
        suc i,
        item,
        is_at,
        elim is_one [
          | inl e ↦ inl (e ∙ ap (λ m. first_triple entry column m item) n)
          | inr e ↦ inr (e ∙ ap (λ m. rest_triple entry m (drop (i + 1) items)) n ∙ ap (λ t. rest_triple entry (suc i + k) t) tail)
        ],
      )

  first_number : (k : ℕ) → k ≡ 0 + k
  first_number k = omega arith

  -- the triples after those of the first entry
  abbrev behind : ℕ → List Item → List Triple
  behind k items = rest_triple entry k items ∷ list_triples entry column (k + 1) items

  from_list : (k : ℕ) (items : List Item) (x : Triple) → Contains (list_triples entry column k items) x → OfEntry k items x
  from_list k [] x h = absurd (none_in x h)
  from_list k (item ∷ items) x h =
      elim (in_cons (first_triple entry column k item) (behind k items) x h) [
        | inl e ↦ (0, item, refl, inl (e ∙ ap (λ m. first_triple entry column m item) (first_number k)))
        | inr l ↦ elim (in_cons (rest_triple entry k items) (list_triples entry column (k + 1) items) x l) [
          | inl e ↦ (0, item, refl, inr (e ∙ ap (λ m. rest_triple entry m items) (first_number k)))
          | inr m ↦ later_entry k item items x (from_list (k + 1) items x m)
        ]
      ]

  some_same : (y z : Item) → Some y ≡ Some z → y ≡ z
  some_same y z e = cc

  in_first : (k : ℕ) (item : Item) (items : List Item) (x : Triple) → x ≡ first_triple entry column k item
      → Contains (list_triples entry column k (item ∷ items)) x
  in_first k item items x e = is_first (first_triple entry column k item) (behind k items) x e

  in_rest : (k : ℕ) (item : Item) (items : List Item) (x : Triple) → x ≡ rest_triple entry k items → Contains (list_triples entry column k (item ∷ items)) x
  in_rest k item items x e =
      later_in (first_triple entry column k item) (behind k items) x (is_first (rest_triple entry k items) (list_triples entry column (k + 1) items) x e)

  in_others : (k : ℕ) (item : Item) (items : List Item) (x : Triple) → Contains (list_triples entry column (k + 1) items) x
      → Contains (list_triples entry column k (item ∷ items)) x
  in_others k item items x h =
      later_in (first_triple entry column k item) (behind k items) x (later_in (rest_triple entry k items) (list_triples entry column (k + 1) items) x h)

  to_list : (k : ℕ) (items : List Item) (x : Triple) (i : ℕ) (item : Item) → slice_get items i ≡ Some item
      → (x ≡ first_triple entry column (i + k) item) ⊎ (x ≡ rest_triple entry (i + k) (drop (i + 1) items)) → Contains (list_triples entry column k items) x
  to_list k [] x i item e h = cc
  to_list k (y ∷ items) x zero item e h =
      elim h [
        | inl f ↦
            let number = ap (λ m. first_triple entry column m item) (sym (first_number k)) in
            in_first k y items x (f ∙ number ∙ ap (first_triple entry column k) (sym (some_same y item e)))
        | inr f ↦ in_rest k y items x (f ∙ ap (λ m. rest_triple entry m items) (sym (first_number k)))
      ]
  to_list k (y ∷ items) x (suc i) item e h =
      let n = next_number i k in
      let tail = next_tail i y items in
      in_others k y items x (to_list (k + 1) items x i item e (elim h [
        | inl f ↦ inl (f ∙ ap (λ m. first_triple entry column m item) (sym n))
        | inr f ↦ inr (f ∙ ap (λ t. rest_triple entry (suc i + k) t) (sym tail) ∙ ap (λ m. rest_triple entry m (drop (i + 1) items)) (sym n))
      ]))

  -- cells

  -- a subject, a predicate and an object, or a triple of a list
  abbrev Of : Node → List ℕ → CellValue → Option (List ℕ) → Triple → Type 0
  Of s p value link x = ((x.s ≡ s) × (x.p ≡ p) × IsObjectBy entry column value link x.o) ⊎ IsOfList entry column value link x

  whole : (s : Node) (p : List ℕ) (o : Term) (x : Triple) → x ≡ triple s p o → (x.s ≡ s) × (x.p ≡ p) × (x.o ≡ o)
  whole s p o x e = (ap (λ (z : Triple). z.s) e, ap (λ (z : Triple). z.p) e, ap (λ (z : Triple). z.o) e)

  abbrev items_by : Node → List ℕ → List Item → Bool → List Triple
  items_by s p items ordered =
      cond ordered (triple s p (list_node entry 1 items) ∷ list_triples entry column 1 items)
      (map (λ item. triple s p (term.Literal (literal_of column item))) items)

  abbrev OfBy : Node → List ℕ → List Item → Bool → Triple → Type 0
  OfBy s p items ordered x =
      ((x.s ≡ s) × (x.p ≡ p) × MatchBool ordered (x.o ≡ list_node entry 1 items)
      ((item : Item) × Contains items item × (x.o ≡ term.Literal (literal_of column item))))
      ⊎ MatchBool ordered (IsListTriple entry column items x) ⊥

  from_items : (s : Node) (p : List ℕ) (items : List Item) (ordered : Bool) (x : Triple) → Contains (items_by s p items ordered) x → OfBy s p items ordered x
  from_items s p items true x h =
      elim (in_cons (triple s p (list_node entry 1 items)) _ x h) [
        | inl e ↦ inl (whole s p _ x e)
        | inr l ↦ inr (from_list 1 items x l)
      ]
  from_items s p items false x h =
      let (item, inside, image) = from_map (λ item. triple s p (term.Literal (literal_of column item))) items x h in
      let (subject, predicate, object) = whole s p _ x image in
      inl (subject, predicate, (item, inside, object))

  to_items : (s : Node) (p : List ℕ) (items : List Item) (ordered : Bool) (x : Triple) → OfBy s p items ordered x → Contains (items_by s p items ordered) x
  to_items s p items true x h =
      elim h [
        | inl (subject, predicate, object) ↦ is_first _ _ x (same_triple x s p _ subject predicate object)
        | inr (i, item, is_at, is_one) ↦ later_in _ _ x (to_list 1 items x i item is_at is_one)
      ]
  to_items s p items false x h =
      elim h [
        | inl (subject, predicate, (item, inside, object)) ↦
            to_map (λ item. triple s p (term.Literal (literal_of column item))) items item x inside (same_triple x s p _ subject predicate object)
        | inr l ↦ absurd l
      ]

  from_value : (s : Node) (p : List ℕ) (value : CellValue) (link : Option (List ℕ)) (x : Triple)
      → Contains (object_triples s p entry column value link) x → Of s p value link x
  from_value s p value (Some link) x h = inl (whole s p _ x (one_in _ x h))
  from_value s p Null None x h = absurd (none_in x h)
  from_value s p (One item) None x h = inl (whole s p _ x (one_in _ x h))
  from_value s p (Many items) None x h = from_items s p items column.properties.ordered x h

  -- a cell with a value link is no list
  no_list : (value : CellValue) (link : List ℕ) (x : Triple) → IsOfList entry column value (Some link) x → ⊥
  no_list Null link x h = h
  no_list (One item) link x h = h
  no_list (Many items) link x h = h

  to_value : (s : Node) (p : List ℕ) (value : CellValue) (link : Option (List ℕ)) (x : Triple) → Of s p value link x
      → Contains (object_triples s p entry column value link) x
  to_value s p value (Some link) x h = elim h [ inl e ↦ is_first _ [] x (same_triple x s p _ e.0 e.1 e.2) | inr l ↦ absurd (no_list value link x l) ]
  to_value s p Null None x h = elim h [ inl e ↦ absurd e.2 | inr l ↦ absurd l ]
  to_value s p (One item) None x h = elim h [ inl e ↦ is_first _ [] x (same_triple x s p _ e.0 e.1 e.2) | inr l ↦ absurd l ]
  to_value s p (Many items) None x h = to_items s p items column.properties.ordered x h

-- a suppressed column or table has no triples
pub unless : {X : Type 0} (b : Bool) (xs : List X) (x : X) → Contains (cond b [] xs) x → (b ≡ false) × Contains xs x
unless true xs x h = absurd (none_in x h)
unless false xs x h = (refl, h)

pub given : {X : Type 0} (b : Bool) (xs : List X) (x : X) → b ≡ false → Contains xs x → Contains (cond b [] xs) x
given b xs x e h = subst (λ t. Contains (cond t [] xs) x) (sym e) h

pub from_row : (t : ℕ) (columns : Columns) (row : Row) (x : Triple) → Contains (minimal_triples t columns row) x → MinimalRow t columns row x
from_row t columns row x h =
    let all = unless columns.suppressed (cells_triples t row.number columns.columns row.cells) x h in
    let ((column, cell), is_cell, of_cell) = from_flat (λ p. cell_triples t row.number p.0 p.1) (zip columns.columns row.cells) x all.1 in
    let entry = entries_of t row.number column in
    let one = unless column.suppressed (object_triples (subject_of t row.number cell) (predicate_of column cell) entry column cell.value cell.link) x of_cell in
    (all.0, column, cell, is_cell, one.0, from_value entry column (subject_of t row.number cell) (predicate_of column cell) cell.value cell.link x one.1)

pub to_row : (t : ℕ) (columns : Columns) (row : Row) (x : Triple) → MinimalRow t columns row x → Contains (minimal_triples t columns row) x
to_row t columns row x (table_shown, column, cell, is_cell, column_shown, is_of_cell) =
    let entry = entries_of t row.number column in
    let objects = to_value entry column (subject_of t row.number cell) (predicate_of column cell) cell.value cell.link x is_of_cell in
    let of_cell : Contains (cell_triples t row.number column cell) x = given column.suppressed _ x column_shown objects in
    given columns.suppressed _ x table_shown (to_flat (λ p. cell_triples t row.number p.0 p.1) (zip columns.columns row.cells) (column, cell) x is_cell of_cell)

-- the laws
pub minimal_row : (t : ℕ) (columns : Columns) (row : Row) (x : Triple) → Contains (minimal_triples t columns row) x ↔ MinimalRow t columns row x
minimal_row t columns row x = (from_row t columns row x, to_row t columns row x)

pub minimal_rows : (t : ℕ) (columns : Columns) (rows : List Row) (x : Triple)
    → Contains (flat_map (minimal_triples t columns) rows) x ↔ Minimal t (Some columns) rows x
minimal_rows t columns rows x = (
  λ h. let (row, inside, has) = from_flat (minimal_triples t columns) rows x h in (row, inside, from_row t columns row x has),
  λ (row, inside, is_of_row). to_flat (minimal_triples t columns) rows row x inside (to_row t columns row x is_of_row),
)
