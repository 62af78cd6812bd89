-- Templates whose expansions don't depend on the column.
use Rattle.std.proofs.Common.{◌≡◌, ◌∙◌, ℕ, List, [], ◌∷◌, Bool, true, false, refl, sym, ap, map, bytes_eq, codes, Some}
use Rattle.std.specs.Prelude.{◌||◌, not}
use Rattle.std.specs.List.{list_any}
use Rattle.std.proofs.lemmas.Bool.{false≢true}
use Rattle.url.specs.Parts.{Parts}
use Rattle.csvw_template.specs.declared.bound.BoundPart.TheVariants.{Written, Values}
use Rattle.csvw_template.specs.declared.part.Part.{Part}
use Rattle.csvw_template.specs.declared.part.Part.TheVariants.{Literal, Expression}
use Rattle.csvw_template.specs.Bound.{bound}
use Rattle.csvw_template.specs.Expand.{kept}
use Rattle.csvw_columns_core.specs.declared.column.Column.{Column}
use Rattle.csvw_annotate.specs.Bindings.{name_binding}
use Rattle.csvw_annotate.specs.BoundLinks.{bound_link, by_parts}
use Rattle.csvw_annotate.specs.Sharing.{is_of_column, names_column}

-- neither of two tests
neither : (a b : Bool) → (a || b) ≡ false → (a ≡ false) × (b ≡ false)
neither true b e = absurd (false≢true (sym e))
neither false b e = (refl, e)

-- what a negated test says
pub fails : (b : Bool) → not b ≡ true → b ≡ false
fails true e = absurd (false≢true e)
fails false e = refl

module _ (one other : Column) (columns : List Column) where
  same_name : (name : List ℕ) → is_of_column name ≡ false → name_binding one columns name ≡ name_binding other columns name
  same_name name e =
      let k = neither (bytes_eq (codes "_column") name || bytes_eq (codes "_sourceColumn") name) (bytes_eq (codes "_name") name) e in
      let l = neither (bytes_eq (codes "_column") name) (bytes_eq (codes "_sourceColumn") name) k.0 in
      rw (l.0, l.1, k.1) refl

  same_bindings : (names : List (List ℕ)) → list_any is_of_column names ≡ false → map (name_binding one columns) names ≡ map (name_binding other columns) names
  same_bindings [] e = refl
  same_bindings (name ∷ names) e =
      let k = neither (is_of_column name) (list_any is_of_column names) e in
      ap (λ b. b ∷ map (name_binding one columns) names) (same_name name k.0) ∙ ap (λ bs. name_binding other columns name ∷ bs) (same_bindings names k.1)

  -- the column says nothing where its own variables aren't named
  pub same_for_columns : (parts : List Part) → list_any names_column parts ≡ false
      → bound (name_binding one columns) parts ≡ bound (name_binding other columns) parts
  same_for_columns [] e = refl
  same_for_columns (Literal text ∷ parts) e = ap (λ ps. Written (kept text) ∷ ps) (same_for_columns parts e)
  same_for_columns (Expression operator names ∷ parts) e =
      let k = neither (list_any is_of_column names) (list_any names_column parts) e in
      ap (λ bs. Values operator bs ∷ bound (name_binding one columns) parts) (same_bindings names k.0)
      ∙ ap (λ ps. Values operator (map (name_binding other columns) names) ∷ ps) (same_for_columns parts k.1)

-- the about links by equal templates that don't name the columns' own variables
pub shared : (base : Parts) (columns : List Column) (one other : Column) (parts others : List Part) → one.properties.about_url ≡ Some parts
    → other.properties.about_url ≡ Some others → parts ≡ others → list_any names_column parts ≡ false
    → bound_link base columns one one.properties.about_url ≡ bound_link base columns other other.properties.about_url
shared base columns one other parts others e f same none =
    ap (bound_link base columns one) e ∙ ap (by_parts base) (same_for_columns one other columns parts none)
    ∙ ap (λ ps. bound_link base columns other (Some ps)) same ∙ ap (bound_link base columns other) (sym f)
