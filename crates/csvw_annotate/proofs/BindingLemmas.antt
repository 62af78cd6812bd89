-- Names are bound to what they stand for.
use Rattle.std.proofs.Common.{◌≡◌, ◌∙◌, ℕ, suc, List, [], ◌∷◌, ◌++◌, Bool, true, false, Option, Some, None, refl, sym, ap, subst, map, length}
use Rattle.std.proofs.Common.{bytes_eq, codes, arith, append_assoc}
use Rattle.std.specs.Prelude.{unwrap_or, decimal, if◌then◌else◌}
use Rattle.url.specs.Parts.{Parts}
use Rattle.csvw_iri.specs.Link.{link_of}
use Rattle.csvw_template.specs.declared.bound.Binding.{Binding}
use Rattle.csvw_template.specs.declared.bound.Binding.TheVariants.{At}
use Rattle.csvw_template.specs.declared.bound.BoundPart.{BoundPart}
use Rattle.csvw_template.specs.declared.vars.Var.{Var}
use Rattle.csvw_template.specs.declared.vars.Var.TheVariants.{One}
use Rattle.csvw_template.specs.Bound.{bound, expand_bound, stands_for, var_at, varies, BoundGivesTheSame}
use Rattle.csvw_template.specs.Variables.{lookup}
use Rattle.csvw_columns_core.specs.declared.column.Column.{Column}
use Rattle.csvw_cell.specs.declared.cell.CellValue.{CellValue}
use Rattle.csvw_annotate.specs.declared.numbers.RowNumbers.{RowNumbers}
use Rattle.csvw_annotate.specs.Bindings.{column_binding, name_binding, row_values, source_binding}
use Rattle.csvw_annotate.specs.BoundLinks.{by_parts, link_in, BoundLinksAreLinks}
use Rattle.csvw_annotate.specs.CellVariables.{named, variable, variables}
use Rattle.csvw_annotate.specs.Links.{outcome}
use Rattle.csvw_annotate.specs.Reserved.{source_column}

-- what stands behind others
behind : (front : List Var) (v : Var) (rest : List Var) → var_at (front ++ v ∷ rest) (length front) ≡ v
behind [] v rest = refl
behind (f ∷ front) v rest = behind front v rest

one_longer : {A : Type 0} (front : List A) (x : A) → length (front ++ x ∷ []) ≡ suc (length front)
one_longer [] x = refl
one_longer (f ∷ front) x = ap (λ n. suc n) (one_longer front x)

choose : (b : Bool) (vs : List Var) (one : Binding) (others : Binding) (v w : Var) → stands_for vs one ≡ v → stands_for vs others ≡ w
    → stands_for vs (if b then one else others) ≡ (if b then v else w)
choose true vs one others v w e f = e
choose false vs one others v w e f = f

-- columns whose values stand behind others
module _ (name : List ℕ) where
  columns_bound : (front : List Var) (columns : List Column) (values : List CellValue) → length values ≡ length columns
      → stands_for (front ++ map variable values) (column_binding (length front) columns name) ≡ lookup (named columns values) name
  columns_bound front [] values same = refl
  columns_bound front (column ∷ columns) [] same = absurd (omega (arith, same))
  columns_bound front (column ∷ columns) (value ∷ values) same =
      let vs = front ++ variable value ∷ map variable values in
      let longer : (front ++ variable value ∷ []) ++ map variable values ≡ vs = append_assoc front (variable value ∷ []) (map variable values) in
      let next = columns_bound (front ++ variable value ∷ []) columns values (omega (arith, same)) in
      let there = subst (λ n. stands_for ((front ++ variable value ∷ []) ++ map variable values) (column_binding n columns name)
      ≡ lookup (named columns values) name)
      (one_longer front (variable value)) next in
      choose (bytes_eq column.name name) vs (At (length front)) (column_binding (suc (length front)) columns name) (variable value)
      (lookup (named columns values) name)
      (behind front (variable value) (map variable values))
      (subst (λ (xs : List Var). stands_for xs (column_binding (suc (length front)) columns name) ≡ lookup (named columns values) name) longer there)

pick : (b : Bool) (vs : List Var) (one : Binding) (o : Option Binding) (rest : Binding) (v w : Var) → stands_for vs one ≡ v
    → stands_for vs (unwrap_or o rest) ≡ w → stands_for vs (unwrap_or (if b then Some one else o) rest) ≡ (if b then v else w)
pick true vs one o rest v w e f = e
pick false vs one o rest v w e f = f

source_bound : (vs : List Var) (number : Option ℕ) → stands_for vs (source_binding number) ≡ source_column number
source_bound vs None = refl
source_bound vs (Some number) = refl

-- a name is bound to what it stands for
pub name_bound : (row : RowNumbers) (column : Column) (columns : List Column) (values : List CellValue) → length values ≡ length columns → (name : List ℕ)
    → stands_for (row_values row values) (name_binding column columns name) ≡ lookup (variables row column columns values) name
name_bound row column columns values same name =
    let vs = row_values row values in
    let rest = column_binding 2 columns name in
    let front : List Var = One (decimal row.number) ∷ One (decimal row.source) ∷ [] in
    pick (bytes_eq (codes "_row") name) vs _ _ rest _ _ refl (
    pick (bytes_eq (codes "_sourceRow") name) vs _ _ rest _ _ refl (
    pick (bytes_eq (codes "_column") name) vs _ _ rest _ _ refl (
    pick (bytes_eq (codes "_sourceColumn") name) vs _ _ rest _ _ (source_bound vs column.source_number) (
    pick (bytes_eq (codes "_name") name) vs _ None rest _ _ refl (
    columns_bound name front columns values same)))))

-- parts that vary, and parts that don't
by_either : (b : Bool) (base : Parts) (values : List Var) (parts : List BoundPart) → b ≡ varies parts
    → (varies parts ≡ false → expand_bound values parts ≡ expand_bound [] parts)
    → link_in base values (by_parts base parts) ≡ outcome (link_of base (expand_bound values parts))
by_either true base values parts e same = rw (sym e) refl
by_either false base values parts e same = rw (sym e) (ap (λ t. outcome (link_of base t)) (sym (same (sym e))))

-- a bound link is the link by the template
pub bound_links_are_links : BoundGivesTheSame
    → ((parts : List BoundPart) → varies parts ≡ false → (values : List Var) → expand_bound values parts ≡ expand_bound [] parts)
    → BoundLinksAreLinks
bound_links_are_links law constant base row columns values same column None = refl
bound_links_are_links law constant base row columns values same column (Some template) =
    let vs = row_values row values in
    let parts = bound (name_binding column columns) template in
    by_either (varies parts) base vs parts refl (λ none. constant parts none vs)
    ∙ ap (λ t. outcome (link_of base t))
    (law (variables row column columns values) vs (name_binding column columns) (name_bound row column columns values same) template)
