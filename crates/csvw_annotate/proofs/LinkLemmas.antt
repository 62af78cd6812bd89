-- Cells whose links are set one after the other.
use Rattle.std.proofs.Common.{◌≡◌, ◌∙◌, ℕ, zero, suc, ◌+◌, ◌<◌, ◌≤◌, List, [], ◌∷◌, length, get_or, set, refl, sym, ap, subst, arith, add-one, Option}
use Rattle.std.proofs.Common.{Some, None, Bool, true, false, append-nil}
use Rattle.std.specs.Prelude.{◌||◌, is_some, if◌then◌else◌}
use Rattle.std.specs.List.{AllByRecursion}
use Rattle.std.proofs.lemmas.Bool.{false≢true}
use Rattle.url.specs.Parts.{Parts}
use Rattle.csvw_fault.specs.declared.fault.Code.{Code}
use Rattle.csvw_template.specs.declared.part.Part.{Part}
use Rattle.csvw_template.specs.Variables.{Variables}
use Rattle.csvw_columns_core.specs.declared.column.Column.{Column}
use Rattle.csvw_cell.specs.declared.cell.CellValue.{CellValue}
use Rattle.csvw_annotate.specs.Links.{no_link, joined, link_by, links_of, has_value, has_own_template, has_template}
use Rattle.csvw_columns_core.specs.declared.columns.Columns.{Columns}
use Rattle.csvw_annotate.specs.CellVariables.{variables}
use Rattle.csvw_cell.specs.HasForm.{HasForm}
use Rattle.csvw_annotate.specs.declared.links.Links.{Links}
use Rattle.csvw_annotate.specs.declared.links.Made.{Made}
use Rattle.csvw_annotate.specs.declared.numbers.RowNumbers.{RowNumbers}
use Rattle.csvw_annotate.specs.declared.row.AnnCell.{AnnCell}
use Rattle.csvw_annotate.specs.LinksAt.{AreLinksAt, IsAboutAt, IsAboutBefore, variables_of}
use Rattle.csvw_annotate.specs.HasForms.{CellsHaveForms}
use Rattle.csvw_annotate.specs.Linked.{IsPlain, ArePlain, values_of, with_links, linked, linked_in, each_linked}

-- the cells with the links of so many
abbrev pub front : (Column → AnnCell → AnnCell) → ℕ → List Column → List AnnCell → List AnnCell
front link zero columns cells = cells
front link (suc n) [] cells = cells
front link (suc n) (column ∷ columns) [] = []
front link (suc n) (column ∷ columns) (cell ∷ cells) = link column cell ∷ front link n columns cells

module _ (link : Column → AnnCell → AnnCell) where
  -- the cell at this place has no links yet
  pub not_yet : (i : ℕ) (columns : List Column) (cells : List AnnCell) (d : AnnCell) → get_or (front link i columns cells) i d ≡ get_or cells i d
  not_yet zero columns cells d = refl
  not_yet (suc n) [] cells d = refl
  not_yet (suc n) (column ∷ columns) [] d = refl
  not_yet (suc n) (column ∷ columns) (cell ∷ cells) d = not_yet n columns cells d

  -- one more
  one_more : (i : ℕ) (columns : List Column) (cells : List AnnCell) (column : Column) (cell : AnnCell) → i < length columns → i < length cells
      → column ≡ get_or columns i column → cell ≡ get_or cells i cell → set (front link i columns cells) i (link column cell) ≡ front link (suc i) columns cells
  one_more i [] cells column cell lt within e f = absurd (omega (arith, lt))
  one_more i (c ∷ columns) [] column cell lt within e f = absurd (omega (arith, within))
  one_more zero (c ∷ columns) (x ∷ cells) column cell lt within e f = rw (e, f) refl
  one_more (suc n) (c ∷ columns) (x ∷ cells) column cell lt within e f =
      ap (λ xs. link c x ∷ xs) (one_more n columns cells column cell (omega (arith, lt)) (omega (arith, within)) e f)

  -- none more, where the next cell stays as it is
  none_more : (i : ℕ) (columns : List Column) (cells : List AnnCell) (column : Column) → i < length columns → i < length cells
      → column ≡ get_or columns i column
      → ((cell : AnnCell) → cell ≡ get_or cells i cell → link column cell ≡ cell) → front link i columns cells ≡ front link (suc i) columns cells
  none_more i [] cells column lt within e h = absurd (omega (arith, lt))
  none_more i (c ∷ columns) [] column lt within e h = absurd (omega (arith, within))
  none_more zero (c ∷ columns) (x ∷ cells) column lt within e h = ap (λ y. y ∷ cells) (sym (subst (λ (k : Column). link k x ≡ x) e (h x refl)))
  none_more (suc n) (c ∷ columns) (x ∷ cells) column lt within e h =
      ap (λ xs. link c x ∷ xs) (none_more n columns cells column (omega (arith, lt)) (omega (arith, within)) e h)

  pub whole : (i : ℕ) (columns : List Column) (cells : List AnnCell) → length cells ≡ length columns → length columns ≤ i
      → front link i columns cells ≡ each_linked link columns cells
  whole zero [] [] same le = refl
  whole (suc n) [] [] same le = refl
  whole i [] (x ∷ cells) same le = absurd (omega (arith, same))
  whole zero (c ∷ columns) cells same le = absurd (omega (arith, le))
  whole (suc n) (c ∷ columns) [] same le = absurd (omega (arith, same))
  whole (suc n) (c ∷ columns) (x ∷ cells) same le = ap (λ xs. link c x ∷ xs) (whole n columns cells (omega (arith, same)) (omega (arith, le)))

  pub front_values : ((column : Column) (cell : AnnCell) → (link column cell).value ≡ cell.value) → (i : ℕ) (columns : List Column) (cells : List AnnCell)
      → values_of (front link i columns cells) ≡ values_of cells
  front_values keeps zero columns cells = refl
  front_values keeps (suc n) [] cells = refl
  front_values keeps (suc n) (c ∷ columns) [] = refl
  front_values keeps (suc n) (c ∷ columns) (x ∷ cells) = rw (keeps c x, front_values keeps n columns cells) refl

  pub front_length : (i : ℕ) (columns : List Column) (cells : List AnnCell) → length (front link i columns cells) ≡ length cells
  front_length zero columns cells = refl
  front_length (suc n) [] cells = refl
  front_length (suc n) (c ∷ columns) [] = refl
  front_length (suc n) (c ∷ columns) (x ∷ cells) = ap (λ k. suc k) (front_length n columns cells)

  pub goes_on : (i : ℕ) (columns : List Column) (cells now more : List AnnCell) (column : Column) (cell new : AnnCell) → i < length columns → i < length cells
      → column ≡ get_or columns i column → cell ≡ get_or now i cell → now ≡ front link i columns cells → new ≡ link column cell → more ≡ set now i new
      → more ≡ front link (i + 1) columns cells
  goes_on i columns cells now more column cell new lt within e f is n m =
      let there : cell ≡ get_or cells i cell = f ∙ ap (λ xs. get_or xs i cell) is ∙ not_yet i columns cells cell in
      m ∙ ap (λ x. set now i x) n ∙ ap (λ xs. set xs i (link column cell)) is ∙ one_more i columns cells column cell lt within e there
      ∙ ap (λ k. front link k columns cells) (sym (add-one i))

  pub stays : (i : ℕ) (columns : List Column) (cells now more : List AnnCell) (column : Column) → i < length columns → i < length cells
      → column ≡ get_or columns i column → ((cell : AnnCell) → cell ≡ get_or cells i cell → link column cell ≡ cell)
      → now ≡ front link i columns cells → more ≡ now
      → more ≡ front link (i + 1) columns cells
  stays i columns cells now more column lt within e h is m =
      m ∙ is ∙ none_more i columns cells column lt within e h ∙ ap (λ k. front link k columns cells) (sym (add-one i))

-- two elements at one place
pub same_at : {A : Type 0} (xs : List A) (i : ℕ) (a b : A) → i < length xs → a ≡ get_or xs i a → b ≡ get_or xs i b → a ≡ b
same_at [] i a b lt e f = absurd (omega (arith, lt))
same_at (x ∷ xs) zero a b lt e f = e ∙ sym f
same_at (x ∷ xs) (suc i) a b lt e f = same_at xs i a b (omega (arith, lt)) e f

-- links that were made in a row of cells of these values
pub linked_is : (columns : Columns) (row : RowNumbers) (plain now : List AnnCell) (i : ℕ) (column : Column) (cell new : AnnCell) (links : Links)
    → values_of now ≡ values_of plain → AreLinksAt columns row now i links → column ≡ get_or columns.columns i column
    → cell ≡ get_or now i cell → new ≡ with_links cell links → new ≡ linked_in columns row (values_of plain) column cell
linked_is columns row plain now i column cell new links f are at at_cell n =
    n ∙ ap (with_links cell) (
    are column cell at at_cell ∙ ap (λ (vs : List CellValue). links_of columns.url (variables row column columns.columns vs) column cell.value) f
    )

module _ (columns : Columns) (row : RowNumbers) (cells now : List AnnCell) (f : values_of now ≡ values_of cells) where
  same_about : (column : Column) → link_by columns.url (variables_of columns row now column) column.properties.about_url
      ≡ link_by columns.url (variables_of columns row cells column) column.properties.about_url
  same_about column = ap (λ (vs : List CellValue). link_by columns.url (variables row column columns.columns vs) column.properties.about_url) f

  pub about_before : (i : ℕ) (made : Made) → IsAboutBefore columns row cells i made → IsAboutBefore columns row now i made
  about_before zero made h = h
  about_before (suc i) made h = λ column at. h column at ∙ sym (same_about column)

  pub about_next : (i : ℕ) (made : Made) → IsAboutAt columns row now i made → IsAboutBefore columns row cells (i + 1) made
  about_next i made h =
      let P : ℕ → Type 0 = λ k. IsAboutBefore columns row cells k made in
      subst P (sym (add-one i)) (λ column at. h column at ∙ same_about column)

-- values that have forms are told by the values alone
pub forms_of : (cells others : List AnnCell) → values_of cells ≡ values_of others → CellsHaveForms others → CellsHaveForms cells
forms_of cells others e h = of_values cells (subst (λ vs. AllByRecursion HasForm vs) (sym e) (to_values others h)) where
  to_values : (xs : List AnnCell) → CellsHaveForms xs → AllByRecursion HasForm (values_of xs)
  to_values [] k = tt
  to_values (x ∷ xs) k = (k.0, to_values xs k.1)

  of_values : (xs : List AnnCell) → AllByRecursion HasForm (values_of xs) → CellsHaveForms xs
  of_values [] k = tt
  of_values (x ∷ xs) k = (k.0, of_values xs k.1)

-- cells of which so many have their links
module _ (columns : Columns) (row : RowNumbers) (i : ℕ) (cells now : List AnnCell)
    (is : now ≡ front (linked_in columns row (values_of cells)) i columns.columns cells) where
  pub same_values : values_of now ≡ values_of cells
  same_values = ap values_of is ∙ front_values (linked_in columns row (values_of cells)) (λ column cell. refl) i columns.columns cells

  pub same_places : (all : List Column) → all ≡ columns.columns → length cells ≡ length columns.columns → length now ≡ length all
  same_places all e places = ap length is ∙ front_length (linked_in columns row (values_of cells)) i columns.columns cells ∙ places ∙ ap length (sym e)

  pub same_forms : CellsHaveForms cells → CellsHaveForms now
  same_forms h = forms_of now cells same_values h

pub plain_at : (cells : List AnnCell) (i : ℕ) (cell : AnnCell) → i < length cells → cell ≡ get_or cells i cell → ArePlain cells → IsPlain cell
plain_at [] i cell lt e h = absurd (omega (arith, lt))
plain_at (x ∷ cells) zero cell lt e h = subst IsPlain (sym e) h.0
plain_at (x ∷ cells) (suc i) cell lt e h = plain_at cells i cell (omega (arith, lt)) e h.1

no_value_link : (b : Bool) (base : Parts) (vars : Variables) → (if b then link_by base vars None else no_link) ≡ no_link
no_value_link true base vars = refl
no_value_link false base vars = refl

none_of : (base : Parts) (vars : Variables) (a p v : Option (List Part)) (b : Bool) → (is_some a || is_some p || is_some v) ≡ false
    → joined (link_by base vars a) (link_by base vars p) (if b then link_by base vars v else no_link) ≡ joined no_link no_link no_link
none_of base vars (Some t) p v b e = absurd (false≢true (sym e))
none_of base vars None (Some t) v b e = absurd (false≢true (sym e))
none_of base vars None None (Some t) b e = absurd (false≢true (sym e))
none_of base vars None None None b e = ap (λ l. joined no_link no_link l) (no_value_link b base vars)

own_none : (base : Parts) (vars : Variables) (a p v : Option (List Part)) (b : Bool) → (is_some p || is_some v) ≡ false
    → joined (link_by base vars a) (link_by base vars p) (if b then link_by base vars v else no_link) ≡ joined (link_by base vars a) no_link no_link
own_none base vars a (Some t) v b e = absurd (false≢true (sym e))
own_none base vars a None (Some t) b e = absurd (false≢true (sym e))
own_none base vars a None None b e = ap (λ l. joined (link_by base vars a) no_link l) (no_value_link b base vars)

-- the links of a cell of a column without templates of its own
pub about_alone : (columns : Columns) (row : RowNumbers) (now : List AnnCell) (i : ℕ) (column : Column) (about : Made)
    → i < length columns.columns → column ≡ get_or columns.columns i column → has_own_template column ≡ false
    → IsAboutAt columns row now i about → AreLinksAt columns row now i (joined about no_link no_link)
about_alone columns row now i column about lt at none is =
    λ other cell at_other at_cell.
    let none_of_other = ap has_own_template (same_at columns.columns i other column lt at_other at) ∙ none in
    let properties = other.properties in
    ap (λ made. joined made no_link no_link) (is other at_other)
    ∙ sym (own_none columns.url (variables_of columns row now other) properties.about_url properties.property_url properties.value_url
    (other.is_virtual || has_value cell.value) none_of_other)

plain_linked : (cell : AnnCell) → IsPlain cell → with_links cell (joined no_link no_link no_link) ≡ cell
plain_linked cell h =
    ap (λ (xs : List Code). own None None None xs) (append-nil cell.faults) ∙ the_same None None None (sym h.0) (sym h.1) (sym h.2) where
      own : Option (List ℕ) → Option (List ℕ) → Option (List ℕ) → List Code → AnnCell
      own a p l codes = record { value = cell.value; about = a; property = p; link = l; faults = codes }

      the_same : (a p l : Option (List ℕ)) → a ≡ cell.about → p ≡ cell.property → l ≡ cell.link → own a p l cell.faults ≡ cell
      the_same a p l e f g = rw (e, f, g) refl

-- a cell of a column without templates stays
pub no_links : (base : Parts) (vars : Variables) (column : Column) (cell : AnnCell) → has_template column ≡ false → IsPlain cell
    → linked base vars column cell ≡ cell
no_links base vars column cell e h =
    ap (with_links cell) (none_of base vars column.properties.about_url column.properties.property_url column.properties.value_url
    (column.is_virtual || has_value cell.value) e)
    ∙ plain_linked cell h
