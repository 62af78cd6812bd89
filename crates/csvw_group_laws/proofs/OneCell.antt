-- A text is one cell at most.
use Rattle.std.proofs.Common.{◌≡◌, ◌<◌, ◌+◌, ℕ, Bool, true, false, List, [], ◌∷◌, ◌++◌, refl, sym, ap, ◌∙◌, subst, length, take, drop, arith, inl}
use Rattle.std.proofs.Common.{inr, Option, Some, None}
use Rattle.std.specs.Prelude.{MatchBool, ◌==◌}
use Rattle.std.proofs.lemmas.Bool.{cases_lt}
use Rattle.std.specs.Str.Pattern.{FindsText}
use Rattle.csvw_fault.specs.declared.fault.Code.{Code}
use Rattle.csvw_datatype.specs.Breaks.{breaks}
use Rattle.csvw_datatype.specs.Formats.{IsFormatOf}
use Rattle.csvw_datatype.specs.Reads.{ReadsAs, MisreadAs}
use Rattle.csvw_datatype.specs.declared.datatype.Datatype.{Datatype}
use Rattle.csvw_datatype.specs.declared.format.Format.{Format}
use Rattle.csvw_datatype.specs.declared.simple.Simple.{Simple}
use Rattle.csvw_datatype.specs.declared.value.Value.{Value}
use Rattle.csvw_columns_core.specs.declared.column.Column.{Column}
use Rattle.csvw_columns_core.specs.declared.properties.Properties.{Properties}
use Rattle.csvw_cell.specs.CellOf.{ArePartsBy, AreParts, IsItem, AreItems, IsSingle, IsListOf, IsList, IsCellBy, CellOf, texts_of, is_null, missing}
use Rattle.csvw_cell.specs.CellOf.{or_default, normalized}
use Rattle.csvw_cell.specs.Codes.{in_order, broken_codes}
use Rattle.csvw_cell.specs.declared.cell.Cell.{Cell}
use Rattle.csvw_cell.specs.declared.cell.CellValue.{CellValue}
use Rattle.csvw_cell.specs.declared.cell.CellValue.TheVariants.{Null, One, Many}
use Rattle.csvw_cell.specs.declared.cell.Item.{Item}

-- both of the same case
by_case : (b : Bool) {P Q R S C : Type 0} → MatchBool b P Q → MatchBool b R S → (P → R → C) → (Q → S → C) → C
by_case true p q f g = f p q
by_case false p q f g = g p q

-- a text is found first in one place
not_before : (n s : List ℕ) (i j k l : ℕ) → FindsText n s (Some (i, j)) → FindsText n s (Some (k, l)) → i < k → ⊥
not_before n s i j k l h g lt = g.0 i lt (drop j s) h.1.split

found_first : (n s : List ℕ) (i j k l : ℕ) → FindsText n s (Some (i, j)) → FindsText n s (Some (k, l)) → i ≡ k
found_first n s i j k l h g = elim (cases_lt i k) [
  | inl lt ↦ absurd (not_before n s i j k l h g lt)
  | inr le ↦ elim (cases_lt k i) [ inl lt ↦ absurd (not_before n s k l i j g h lt) | inr ge ↦ omega (arith, le, ge) ]
]

found_there : (n s : List ℕ) (i j k l : ℕ) → FindsText n s (Some (i, j)) → FindsText n s (Some (k, l)) → j ≡ l
found_there n s i j k l h g = h.1.ends ∙ ap (λ z. z + length n) (found_first n s i j k l h g) ∙ sym g.1.ends

found_or_not : (n s : List ℕ) (i j : ℕ) → FindsText n s None → FindsText n s (Some (i, j)) → ⊥
found_or_not n s i j h g = h i (let within = g.1.after.0 in omega (arith, within)) (drop j s) g.1.split

-- the parts of a text
parts_are_one : (separator text : List ℕ) (ps qs : List (List ℕ)) → ArePartsBy separator text ps → ArePartsBy separator text qs → ps ≡ qs
parts_are_one separator text [] qs h g = absurd h
parts_are_one separator text (p ∷ ps) [] h g = absurd g
parts_are_one separator text (p ∷ []) (q ∷ []) h g = ap (λ z. z ∷ []) (h.1 ∙ sym g.1)
parts_are_one separator text (p ∷ []) (q ∷ r ∷ qs) h g = absurd (found_or_not separator text g.0 g.1 h.0 g.2)
parts_are_one separator text (p ∷ r ∷ ps) (q ∷ []) h g = absurd (found_or_not separator text h.0 h.1 g.0 h.2)
parts_are_one separator text (p ∷ r ∷ ps) (q ∷ t ∷ qs) h g =
    let first : p ≡ q = h.3 ∙ ap (λ i. take i text) (found_first separator text h.0 h.1 g.0 g.1 h.2 g.2) ∙ sym g.3 in
    let there = found_there separator text h.0 h.1 g.0 g.1 h.2 g.2 in
    let rest : r ∷ ps ≡ t ∷ qs = parts_are_one separator (drop g.1 text) (r ∷ ps) (t ∷ qs)
    (subst (λ j. ArePartsBy separator (drop j text) (r ∷ ps)) there h.4) g.4 in
    ap (λ z. z ∷ r ∷ ps) first ∙ ap (λ zs. q ∷ zs) rest

parts_of_one : (separator text : List ℕ) (ps qs : List (List ℕ)) → AreParts separator text ps → AreParts separator text qs → ps ≡ qs
parts_of_one separator text ps qs h g = by_case (length separator == 0) h g (λ p q. p ∙ sym q) (parts_are_one separator text ps qs)

abbrev item : Value → Bool → Item
item v b = record { value = v; was_read = b }

abbrev cell : CellValue → List Code → Cell
cell v codes = record { value = v; faults = codes }

module _ (one_value : (s : Simple) (f : Option Format) (text : List ℕ) (v w : Value) → IsFormatOf s f → ReadsAs s f text v → ReadsAs s f text w → v ≡ w)
    (value_or_code : (s : Simple) (f : Option Format) (text : List ℕ) (v : Value) (code : Code) → IsFormatOf s f → ReadsAs s f text v
    → ¬ MisreadAs s f text code)
    (one_code : (s : Simple) (f : Option Format) (text : List ℕ) (c d : Code) → IsFormatOf s f → MisreadAs s f text c → MisreadAs s f text d → c ≡ d) where
  -- an item and its codes
  item_is_one : (d : Datatype) (text : List ℕ) (a b : Bool) (v w : Value) (cs ds : List Code) → IsFormatOf d.simple d.format → IsItem d text (item v a) cs
      → IsItem d text (item w b) ds
      → (item v a ≡ item w b) × (cs ≡ ds)
  item_is_one d text true true v w cs ds format h g =
      let same : v ≡ w = one_value d.simple d.format text v w format h.0 g.0 in
      (ap (λ z. item z true) same, h.1 ∙ ap (λ z. broken_codes (breaks d.simple z d.facets)) same ∙ sym g.1)
  item_is_one d text true false v w cs ds format h g = absurd (value_or_code d.simple d.format text v g.0 format h.0 g.1)
  item_is_one d text false true v w cs ds format h g = absurd (value_or_code d.simple d.format text w h.0 format g.0 h.1)
  item_is_one d text false false v w cs ds format h g =
      let same : h.0 ≡ g.0 = one_code d.simple d.format text h.0 g.0 format h.1 g.1 in
      (ap (λ z. item z false) (h.2 ∙ sym g.2), h.3 ∙ ap (λ z. z ∷ []) same ∙ sym g.3)

  items_are_one : (d : Datatype) (texts : List (List ℕ)) (xs ys : List Item) (cs ds : List Code) → IsFormatOf d.simple d.format → AreItems d texts xs cs
      → AreItems d texts ys ds
      → (xs ≡ ys) × (cs ≡ ds)
  items_are_one d [] xs ys cs ds format h g = (h.0 ∙ sym g.0, h.1 ∙ sym g.1)
  items_are_one d (text ∷ texts) xs ys cs ds format h g =
      let one = item_is_one d text h.0.was_read g.0.was_read h.0.value g.0.value h.2 g.2 format h.6 g.6 in
      let rest = items_are_one d texts h.1 g.1 h.3 g.3 format h.7 g.7 in (
        h.4 ∙ ap (λ z. z ∷ h.1) one.0 ∙ ap (λ zs. g.0 ∷ zs) rest.0 ∙ sym g.4,
        h.5 ∙ ap (λ z. z ++ h.3) one.1 ∙ ap (λ zs. g.2 ++ zs) rest.1 ∙ sym g.5,
      )

  -- a cell
  same_cell : (x y : Cell) (v w : CellValue) (cs ds : List Code) → x.value ≡ v → x.faults ≡ cs → y.value ≡ w → y.faults ≡ ds → v ≡ w → cs ≡ ds → x ≡ y
  same_cell x y v w cs ds a b c d e f =
      ap (λ z. cell z x.faults) (a ∙ e ∙ sym c) ∙ ap (λ z. cell y.value z) (b ∙ f ∙ sym d)

  single_is_one : (p : Properties) (text : List ℕ) (x y : Cell) → IsFormatOf p.datatype.simple p.datatype.format → IsSingle p text x → IsSingle p text y → x ≡ y
  single_is_one p text x y format h g = by_case (is_null p.null text) h g
      (λ a b. same_cell x y Null Null (missing p) (missing p) a.0 a.1 b.0 b.1 refl refl)
      (λ a b.
      let one = item_is_one p.datatype text a.0.was_read b.0.was_read a.0.value b.0.value a.1 b.1 format a.2 b.2 in
      same_cell x y (One a.0) (One b.0) (in_order a.1) (in_order b.1) a.3 a.4 b.3 b.4 (ap One one.0) (ap in_order one.1))

  list_of_is_one : (p : Properties) (separator text : List ℕ) (x y : Cell) → IsFormatOf p.datatype.simple p.datatype.format → IsListOf p separator text x
      → IsListOf p separator text y → x ≡ y
  list_of_is_one p separator text x y format a b =
      let parts : a.0 ≡ b.0 = parts_of_one separator text a.0 b.0 a.3 b.3 in
      let one = items_are_one p.datatype (texts_of p b.0) a.1 b.1 a.2 b.2 format (subst (λ z. AreItems p.datatype (texts_of p z) a.1 a.2) parts a.4) b.4 in
      same_cell x y (Many a.1) (Many b.1) (in_order a.2) (in_order b.2) a.5 a.6 b.5 b.6 (ap Many one.0) (ap in_order one.1)

  list_is_one : (p : Properties) (separator text : List ℕ) (x y : Cell) → IsFormatOf p.datatype.simple p.datatype.format → IsList p separator text x
      → IsList p separator text y → x ≡ y
  list_is_one p separator text x y format h g = by_case (length text == 0) h g
      (λ a b. same_cell x y (Many []) (Many []) (missing p) (missing p) a.0 a.1 b.0 b.1 refl refl)
      (λ a b. by_case (is_null p.null text) a b
      (λ c d. same_cell x y Null Null [] [] c.0 c.1 d.0 d.1 refl refl)
      (list_of_is_one p separator text x y format))

  by_separator : (p : Properties) (separator : Option (List ℕ)) (text : List ℕ) (x y : Cell) → IsFormatOf p.datatype.simple p.datatype.format
      → IsCellBy p separator text x → IsCellBy p separator text y → x ≡ y
  by_separator p None text x y format h g = single_is_one p text x y format h g
  by_separator p (Some separator) text x y format h g = list_is_one p separator text x y format h g

  pub cell_is_one : (column : Column) (text : List ℕ) (x y : Cell) → IsFormatOf column.properties.datatype.simple column.properties.datatype.format
      → CellOf column text x → CellOf column text y → x ≡ y
  cell_is_one column text x y format h g =
      by_separator column.properties column.properties.separator (or_default column.properties.default (normalized column.properties.datatype text)) x y
      format h g
