-- The triples of the items, entries and cells passed so far.
use Rattle.std.proofs.Common.{◌≡◌, ℕ, ◌+◌, ◌-◌, ◌<◌, ◌≤◌, zero, suc, Bool, true, false, cond, List, [], ◌∷◌, ◌++◌, refl, sym, ap, ◌∙◌, subst, arith}
use Rattle.std.proofs.Common.{take, drop, length, map, append-nil, append_assoc, add-one, add-zero, get_or, take_all, flat_map}
use Rattle.std.proofs.lemmas.List.{take-append-drop, map-append, length-drop}
use Rattle.std.proofs.lemmas.List.Concat.{flat_map-append}
use Rattle.std.proofs.Math.Seq.{take-suc}
use Rattle.std.proofs.lemmas.Bool.Decides.{nat_tests}
use Rattle.std.specs.Prelude.{◌==◌, Option, Some, None}
use Rattle.std.specs.List.{zip, AllByRecursion}
use Rattle.csvw_columns_core.specs.declared.column.Column.{Column}
use Rattle.csvw_annotate.specs.declared.row.AnnCell.{AnnCell}
use Rattle.csvw_cell.specs.declared.cell.Item.{Item}
use Rattle.csvw_triples_core.specs.declared.origin.Origin.{Origin}
use Rattle.csvw_triples_core.specs.declared.term.Node.{Node}
use Rattle.csvw_triples_core.specs.declared.term.Node.TheVariants as node
use Rattle.csvw_triples_core.specs.declared.term.Term.{Term}
use Rattle.csvw_triples_core.specs.declared.term.Term.TheVariants as term
use Rattle.csvw_triples_core.specs.declared.term.Triple.{Triple}
use Rattle.csvw_triples_rows.specs.Literals.{literal_of}
use Rattle.csvw_triples_rows.specs.RowTriples.{triple, list_node, first_triple, rest_triple, list_triples, cell_triples, cells_triples}
use Rattle.csvw_triples_rows.specs.Stems.{node_from}
use Rattle.csvw_triples_rows.specs.Vocabulary.{rdf_first, rdf_rest, rdf_nil}

-- what holds of all holds of one
pub one_of_all : {A : Type 0} (P : A → Type 0) (xs : List A) (i : ℕ) (x : A) → i < length xs → x ≡ get_or xs i x → AllByRecursion P xs → P x
one_of_all P [] i x h e all = absurd (omega (arith, h))
one_of_all P (y ∷ xs) zero x h e all = subst P (sym e) all.0
one_of_all P (y ∷ xs) (suc i) x h e all = one_of_all P xs i x (omega (arith, h)) e all.1

-- items

module _ (f : Item → Triple) where
  pub items_more : (items : List Item) (i : ℕ) (item : Item) → i < length items → item ≡ get_or items i item
      → map f (take (i + 1) items) ≡ map f (take i items) ++ f item ∷ []
  items_more items i item h e =
      ap (λ n. map f (take n items)) (add-one i) ∙ ap (map f) (take-suc items i item h)
      ∙ map-append f (take i items) (get_or items i item ∷ []) ∙ ap (λ x. map f (take i items) ++ f x ∷ []) (sym e)

  pub items_left : (items : List Item) (i : ℕ) → map f items ≡ map f (take i items) ++ map f (drop i items)
  items_left items i = ap (map f) (sym (take-append-drop i items)) ∙ map-append f (take i items) (drop i items)

  pub items_all : (items : List Item) (i : ℕ) → length items ≤ i → map f (take i items) ≡ map f items
  items_all items i h = ap (map f) (take_all i items h)

-- entries

module _ (entry : ℕ → Origin) (column : Column) where
  -- the triples of the first n entries, the first of which has number k
  pub front_triples : ℕ → ℕ → List Item → List Triple
  front_triples k zero items = []
  front_triples k (suc n) [] = []
  front_triples k (suc n) (item ∷ items) = first_triple entry column k item ∷ rest_triple entry k items ∷ front_triples (k + 1) n items

  pub front_none : (k : ℕ) (items : List Item) → front_triples k 0 items ≡ []
  unfolding front_triples
  front_none k items = refl

  same_number : (k i : ℕ) → (k + 1) + i ≡ k + suc i
  same_number k i = omega arith

  front_more : (k i : ℕ) (items : List Item) (item : Item) → i < length items → item ≡ get_or items i item
      → front_triples k (suc i) items ≡ front_triples k i items ++ first_triple entry column (k + i) item ∷ rest_triple entry (k + i) (drop (suc i) items) ∷ []
  unfolding front_triples
  front_more k i [] item h e = absurd (omega (arith, h))
  front_more k zero (x ∷ items) item h e =
      ap (λ (y : Item). first_triple entry column k y ∷ rest_triple entry k items ∷ []) (sym e)
      ∙ ap (λ n. first_triple entry column n item ∷ rest_triple entry n items ∷ []) (sym (add-zero k))
  front_more k (suc i) (x ∷ items) item h e =
      ap (λ ts. first_triple entry column k x ∷ rest_triple entry k items ∷ ts)
      (front_more (k + 1) i items item (omega (arith, h)) e
      ∙ ap (λ n. front_triples (k + 1) i items ++ first_triple entry column n item ∷ rest_triple entry n (drop (suc i) items) ∷ []) (same_number k i))

  pub entries_more : (items : List Item) (i n : ℕ) (item : Item) → i < length items → item ≡ get_or items i item → n ≡ i + 1
      → front_triples 1 (i + 1) items ≡ front_triples 1 i items ++ first_triple entry column n item ∷ rest_triple entry n (drop (i + 1) items) ∷ []
  entries_more items i n item h e is =
      let number : 1 + i ≡ n = omega (arith, is) in
      ap (λ m. front_triples 1 m items) (add-one i) ∙ front_more 1 i items item h e
      ∙ ap (λ m. front_triples 1 i items ++ first_triple entry column m item ∷ rest_triple entry m (drop (suc i) items) ∷ []) number
      ∙ ap (λ m. front_triples 1 i items ++ first_triple entry column n item ∷ rest_triple entry n (drop m items) ∷ []) (sym (add-one i))

  left : (k n : ℕ) (items : List Item) → list_triples entry column k items ≡ front_triples k n items ++ list_triples entry column (k + n) (drop n items)
  unfolding front_triples
  left k zero items = ap (λ m. list_triples entry column m items) (sym (add-zero k))
  left k (suc n) [] = refl
  left k (suc n) (item ∷ items) =
      ap (λ ts. first_triple entry column k item ∷ rest_triple entry k items ∷ ts)
      (left (k + 1) n items ∙ ap (λ m. front_triples (k + 1) n items ++ list_triples entry column m (drop n items)) (same_number k n))

  pub entries_left : (items : List Item) (i : ℕ)
      → list_triples entry column 1 items ≡ front_triples 1 i items ++ list_triples entry column (1 + i) (drop i items)
  entries_left items i = left 1 i items

  past : (k n : ℕ) (items : List Item) → length items ≤ n → front_triples k n items ≡ list_triples entry column k items
  unfolding front_triples
  past k zero [] h = refl
  past k (suc n) [] h = refl
  past k zero (item ∷ items) h = absurd (omega (arith, h))
  past k (suc n) (item ∷ items) h = ap (λ ts. first_triple entry column k item ∷ rest_triple entry k items ∷ ts) (past (k + 1) n items (omega (arith, h)))

  pub entries_all : (items : List Item) (i : ℕ) → length items ≤ i → front_triples 1 i items ≡ list_triples entry column 1 items
  entries_all items i h = past 1 i items h

  -- what a list is from an entry on
  node_by : (k : ℕ) (items : List Item) (b : Bool) → (length items == 0) ≡ b → cond b (term.Named rdf_nil) (term.Blank (entry k)) ≡ list_node entry k items
  node_by k [] true e = refl
  node_by k [] false e = absurd (grind (arith, nat_tests))
  node_by k (item ∷ items) true e = absurd (grind (arith, nat_tests))
  node_by k (item ∷ items) false e = refl

  pub whole_list : (k : ℕ) (items : List Item) (b : Bool) → b ≡ (length items == 0)
      → cond b (term.Named rdf_nil) (term.Blank (entry k)) ≡ list_node entry k items
  whole_list k items b e = node_by k items b (sym e)

  is_last : (n i l : ℕ) → n ≡ l - (i + 1) → i < l → (n == 0) ≡ ((i + 1) == l)
  is_last n i l e h = grind (arith, nat_tests)

  pub rest_of_list : (k i : ℕ) (items : List Item) → i < length items
      → cond ((i + 1) == length items) (term.Named rdf_nil) (term.Blank (entry k)) ≡ list_node entry k (drop (i + 1) items)
  rest_of_list k i items h = node_by k (drop (i + 1) items) _ (is_last _ i (length items) (length-drop (i + 1) items) h)

  -- the node of a list by the entry that the code found
  found : (b : Bool) (k : ℕ) (next : Option Origin) → next ≡ cond b None (Some (entry k)) → node_from next ≡ cond b (term.Named rdf_nil) (term.Blank (entry k))
  found true k next e = ap node_from e
  found false k next e = ap node_from e

  -- what an entry was put as
  pub entry_put : (items : List Item) (i n : ℕ) (item : Item) (e : Origin) (next : Option Origin) → i < length items → item ≡ get_or items i item
      → n ≡ i + 1 → e ≡ entry n → next ≡ cond (n == length items) None (Some (entry (n + 1)))
      → front_triples 1 (i + 1) items
      ≡ front_triples 1 i items ++ triple (node.Blank e) rdf_first (term.Literal (literal_of column item))
      ∷ triple (node.Blank e) rdf_rest (node_from next) ∷ []
  entry_put items i n item e next h is number here left =
      let so_far = front_triples 1 i items in
      let literal = term.Literal (literal_of column item) in
      let last : (n == length items) ≡ ((i + 1) == length items) = ap (λ m. m == length items) number in
      let by_place = ap (λ b. cond b (term.Named rdf_nil) (term.Blank (entry (n + 1)))) last in
      let rest_is = sym (found _ (n + 1) next left ∙ by_place ∙ rest_of_list (n + 1) i items h) in
      entries_more items i n item h is number
      ∙ ap (λ o. so_far ++ first_triple entry column n item ∷ triple (node.Blank (entry n)) rdf_rest o ∷ []) rest_is
      ∙ ap (λ b. so_far ++ triple (node.Blank b) rdf_first literal ∷ triple (node.Blank b) rdf_rest (node_from next) ∷ []) (sym here)

  none_before : (n : ℕ) → (0 == n) ≡ (n == 0)
  none_before n = grind (arith, nat_tests)

  -- and what a list was put as
  pub list_put : (s : Node) (p : List ℕ) (items : List Item) (first : Option Origin) (list : Term)
      → first ≡ cond (0 == length items) None (Some (entry (0 + 1))) → list ≡ node_from first
      → triple s p (list_node entry 1 items) ∷ list_triples entry column 1 items ≡ (triple s p list ∷ []) ++ list_triples entry column 1 items
  list_put s p items first list e is =
      let list_is = is ∙ found _ 1 first e ∙ whole_list 1 items (0 == length items) (none_before (length items)) in
      ap (λ o. triple s p o ∷ list_triples entry column 1 items) (sym list_is)

-- cells

-- a column and its cell
abbrev pub pair_triples : ℕ → ℕ → Column × AnnCell → List Triple
pair_triples t number p = cell_triples t number p.0 p.1

-- the triples of the first cells
abbrev pub cells_so_far : ℕ → ℕ → List Column → List AnnCell → ℕ → List Triple
cells_so_far t number columns cells i = flat_map (pair_triples t number) (take i (zip columns cells))

so_far-suc : (t number : ℕ) (columns : List Column) (cells : List AnnCell) (i : ℕ) (c : Column) (v : AnnCell) → i < length columns → i < length cells
    → cells_so_far t number columns cells (suc i) ≡ cells_so_far t number columns cells i ++ cell_triples t number (get_or columns i c) (get_or cells i v)
so_far-suc t number [] cells i c v h k = absurd (omega arith)
so_far-suc t number (x ∷ columns) [] i c v h k = absurd (omega arith)
so_far-suc t number (x ∷ columns) (y ∷ cells) zero c v h k = append-nil (cell_triples t number x y)
so_far-suc t number (x ∷ columns) (y ∷ cells) (suc i) c v h k =
    ap (λ ts. cell_triples t number x y ++ ts) (so_far-suc t number columns cells i c v (omega arith) (omega arith))
    ∙ sym (append_assoc (cell_triples t number x y) (cells_so_far t number columns cells i) (cell_triples t number (get_or columns i c) (get_or cells i v)))

length-zip : (columns : List Column) (cells : List AnnCell) → length cells ≡ length columns → length (zip columns cells) ≡ length cells
length-zip [] [] e = refl
length-zip (x ∷ columns) [] e = absurd (omega arith)
length-zip [] (y ∷ cells) e = absurd (omega arith)
length-zip (x ∷ columns) (y ∷ cells) e = let same : length cells ≡ length columns = omega arith in ap suc (length-zip columns cells same)

pub cells_more : (t number : ℕ) (columns : List Column) (cells : List AnnCell) (i : ℕ) (c : Column) (v : AnnCell) → i < length columns → i < length cells
    → c ≡ get_or columns i c → v ≡ get_or cells i v
    → cells_so_far t number columns cells (i + 1) ≡ cells_so_far t number columns cells i ++ cell_triples t number c v
cells_more t number columns cells i c v h k p q =
    ap (cells_so_far t number columns cells) (add-one i) ∙ so_far-suc t number columns cells i c v h k
    ∙ ap (λ (x : Column). cells_so_far t number columns cells i ++ cell_triples t number x (get_or cells i v)) (sym p)
    ∙ ap (λ (x : AnnCell). cells_so_far t number columns cells i ++ cell_triples t number c x) (sym q)

pub cells_left : (t number : ℕ) (columns : List Column) (cells : List AnnCell) (i : ℕ)
    → cells_triples t number columns cells ≡ cells_so_far t number columns cells i ++ flat_map (pair_triples t number) (drop i (zip columns cells))
cells_left t number columns cells i =
    ap (flat_map (pair_triples t number)) (sym (take-append-drop i (zip columns cells)))
    ∙ flat_map-append (pair_triples t number) (take i (zip columns cells)) (drop i (zip columns cells))

pub cells_all : (t number : ℕ) (columns : List Column) (cells : List AnnCell) (i : ℕ) → length cells ≡ length columns → length cells ≤ i
    → cells_so_far t number columns cells i ≡ cells_triples t number columns cells
cells_all t number columns cells i e h =
    let within : length (zip columns cells) ≤ i = omega (arith, length-zip columns cells e) in
    ap (flat_map (pair_triples t number)) (take_all i (zip columns cells) within)
