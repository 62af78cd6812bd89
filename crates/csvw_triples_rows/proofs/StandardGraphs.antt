-- The triples of rows in standard mode are their graph.
use Rattle.std.proofs.Common.{◌≡◌, ℕ, false, List, [], ◌∷◌, ◌++◌, inl, inr, ◌↔◌, Some, None, Contains}
use Rattle.std.proofs.lemmas.List.Elements.{Contains-append_left, Contains-append_right, Contains-append_cases}
use Rattle.std.specs.Prelude.{flat_map}
use Rattle.std.specs.List.{zip}
use Rattle.csvw_columns_core.specs.declared.columns.Columns.{Columns}
use Rattle.csvw_annotate.specs.declared.row.Row.{Row}
use Rattle.csvw_triples_core.specs.declared.term.Triple.{Triple}
use Rattle.csvw_triples_rows.specs.RowTriples.{cells_triples}
use Rattle.csvw_triples_rows.specs.RowTitles.{titles_triples}
use Rattle.csvw_triples_rows.specs.Standard.{IsOfRow, StandardRow, StandardRows}
use Rattle.csvw_triples_rows.specs.StandardTriples.{member_triple, class_triple, number_triple, url_triple, row_front}
use Rattle.csvw_triples_rows.specs.StandardTriples.{described_cells, row_contents, standard_triples}
use Rattle.csvw_triples_rows.proofs.Graphs.{none_in, later_in, in_cons, is_first, from_flat, to_flat, unless, given, from_row, to_row}
use Rattle.csvw_triples_rows.proofs.Standards.{from_cells, to_cells, to_described}
use Rattle.csvw_triples_rows.proofs.TitleGraphs.{from_titles, to_titles}

module _ (t : ℕ) (columns : Columns) (row : Row) where
  abbrev described : List Triple
  described = described_cells t row.number None (zip columns.columns row.cells)

  abbrev titles : List Triple
  titles = titles_triples t row.number columns.columns row.cells

  abbrev contents : List Triple
  contents = row_contents t row.number columns.columns row.cells

  abbrev minimal : List Triple
  minimal = cells_triples t row.number columns.columns row.cells

  -- the triples of the front: those after the first, those after the second, and the last
  abbrev behind_one : List Triple
  behind_one = class_triple t row.number ∷ number_triple t row.number ∷ url_triple t columns row ∷ []

  abbrev behind_two : List Triple
  behind_two = number_triple t row.number ∷ url_triple t columns row ∷ []

  abbrev behind_three : List Triple
  behind_three = url_triple t columns row ∷ []

  from_last : (x : Triple) → Contains behind_three x → x ≡ url_triple t columns row
  from_last x h = elim (in_cons (url_triple t columns row) [] x h) [ inl e ↦ e | inr k ↦ absurd (none_in x k) ]

  from_front : (x : Triple) → Contains (row_front t columns row) x → IsOfRow t columns row x
  from_front x h =
      elim (in_cons (member_triple t columns row.number) behind_one x h) [
        | inl e ↦ inl e
        | inr k ↦ elim (in_cons (class_triple t row.number) behind_two x k) [
          | inl e ↦ inr (inl e)
          | inr l ↦ elim (in_cons (number_triple t row.number) behind_three x l) [
            | inl e ↦ inr (inr (inl e))
            | inr m ↦ inr (inr (inr (inl (from_last x m))))
          ]
        ]
      ]

  to_standard : (x : Triple) → columns.suppressed ≡ false → Contains (row_front t columns row ++ contents) x → Contains (standard_triples t columns row) x
  to_standard x e h = given columns.suppressed (row_front t columns row ++ contents) x e h

  in_front : (x : Triple) → columns.suppressed ≡ false → Contains (row_front t columns row) x → Contains (standard_triples t columns row) x
  in_front x e h = to_standard x e (Contains-append_left (row_front t columns row) contents x h)

  in_contents : (x : Triple) → columns.suppressed ≡ false → Contains contents x → Contains (standard_triples t columns row) x
  in_contents x e h = to_standard x e (Contains-append_right (row_front t columns row) contents x h)

  in_titles : (x : Triple) → columns.suppressed ≡ false → Contains titles x → Contains (standard_triples t columns row) x
  in_titles x e h = in_contents x e (Contains-append_left titles described x h)

  in_described : (x : Triple) → columns.suppressed ≡ false → Contains described x → Contains (standard_triples t columns row) x
  in_described x e h = in_contents x e (Contains-append_right titles described x h)

  of_cells : (x : Triple) → columns.suppressed ≡ false → Contains described x → StandardRow t columns row x
  of_cells x e h =
      elim (from_cells t row.number None (zip columns.columns row.cells) x h) [
        | inl c ↦ inl (from_row t columns row x (given columns.suppressed minimal x e c))
        | inr d ↦ inr (e, inr (inr (inr (inr (inr d)))))
      ]

  of_contents : (x : Triple) → columns.suppressed ≡ false → Contains contents x → StandardRow t columns row x
  of_contents x e h =
      elim (Contains-append_cases titles described x h) [
        | inl k ↦ inr (e, inr (inr (inr (inr (inl (from_titles t columns row x k))))))
        | inr k ↦ of_cells x e k
      ]

  pub from_standard : (x : Triple) → Contains (standard_triples t columns row) x → StandardRow t columns row x
  from_standard x h =
      let k = unless columns.suppressed (row_front t columns row ++ contents) x h in
      elim (Contains-append_cases (row_front t columns row) contents x k.1) [
        | inl f ↦ inr (k.0, from_front x f)
        | inr c ↦ of_contents x k.0 c
      ]

  is_of_row : (x : Triple) → columns.suppressed ≡ false → IsOfRow t columns row x → Contains (standard_triples t columns row) x
  is_of_row x e h =
      elim h [
        | inl f ↦ in_front x e (is_first (member_triple t columns row.number) behind_one x f)
        | inr k ↦ elim k [
          | inl f ↦ in_front x e (later_in (member_triple t columns row.number) behind_one x (is_first (class_triple t row.number) behind_two x f))
          | inr l ↦ elim l [
            | inl f ↦
                in_front x e (later_in (member_triple t columns row.number) behind_one x
                (later_in (class_triple t row.number) behind_two x (is_first (number_triple t row.number) behind_three x f)))
            | inr m ↦ elim m [
              | inl f ↦
                  in_front x e (later_in (member_triple t columns row.number) behind_one x (later_in (class_triple t row.number) behind_two x
                  (later_in (number_triple t row.number) behind_three x (is_first (url_triple t columns row) [] x f))))
              | inr n ↦ elim n [
                | inl k ↦ in_titles x e (to_titles t columns row x k)
                | inr d ↦ in_described x e (to_described t row.number (zip columns.columns row.cells) x d)
              ]
            ]
          ]
        ]
      ]

  pub is_standard : (x : Triple) → StandardRow t columns row x → Contains (standard_triples t columns row) x
  is_standard x h =
      elim h [
        | inl g ↦
            let k = unless columns.suppressed minimal x (to_row t columns row x g) in
            in_described x k.0 (to_cells t row.number None (zip columns.columns row.cells) x k.1)
        | inr o ↦ is_of_row x o.0 o.1
      ]

-- the laws
pub standard_row : (t : ℕ) (columns : Columns) (row : Row) (x : Triple) → Contains (standard_triples t columns row) x ↔ StandardRow t columns row x
standard_row t columns row x = (from_standard t columns row x, is_standard t columns row x)

pub standard_rows : (t : ℕ) (columns : Columns) (rows : List Row) (x : Triple)
    → Contains (flat_map (standard_triples t columns) rows) x ↔ StandardRows t (Some columns) rows x
standard_rows t columns rows x = (
  λ h. let r = from_flat (standard_triples t columns) rows x h in (r.0, r.1, from_standard t columns r.0 x r.2),
  λ h. to_flat (standard_triples t columns) rows h.0 x h.1 (is_standard t columns h.0 x h.2),
)
