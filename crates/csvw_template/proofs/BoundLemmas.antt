-- Bound templates.
use Rattle.std.proofs.Common.{◌≡◌, ◌∙◌, ℕ, List, [], ◌∷◌, ◌++◌, Bool, true, false, refl, sym, ap, map}
use Rattle.std.specs.Prelude.{◌||◌}
use Rattle.std.specs.List.{list_any, cons_option}
use Rattle.std.proofs.lemmas.Bool.{false≢true}
use Rattle.csvw_template.specs.declared.bound.Binding.{Binding}
use Rattle.csvw_template.specs.declared.bound.Binding.TheVariants.{Nothing, Constant, At}
use Rattle.csvw_template.specs.declared.bound.BoundPart.{BoundPart}
use Rattle.csvw_template.specs.declared.bound.BoundPart.TheVariants.{Written, Values}
use Rattle.csvw_template.specs.declared.part.Operator.{Operator}
use Rattle.csvw_template.specs.declared.part.Part.{Part}
use Rattle.csvw_template.specs.declared.part.Part.TheVariants.{Literal, Expression}
use Rattle.csvw_template.specs.declared.vars.Var.{Var}
use Rattle.csvw_template.specs.Bound.{bound, bound_values, expand_bound, is_at, stands_for, varies, BoundGivesTheSame, ConstantGivesTheSame}
use Rattle.csvw_template.specs.Expand.{expand, kept, signed, value, values}
use Rattle.csvw_template.specs.Variables.{Variables, lookup}

-- neither of two tests
neither : (a b : Bool) → (a || b) ≡ false → (a ≡ false) × (b ≡ false)
neither true b e = absurd (false≢true (sym e))
neither false b e = (refl, e)

module _ (vars : Variables) (vs : List Var) (binding_of : List ℕ → Binding) (same : (name : List ℕ) → stands_for vs (binding_of name) ≡ lookup vars name) where
  same_values : (operator : Operator) (names : List (List ℕ)) → bound_values operator vs (map binding_of names) ≡ values operator vars names
  same_values operator [] = refl
  same_values operator (name ∷ names) =
      ap (λ v. cons_option (value operator v) (bound_values operator vs (map binding_of names))) (same name)
      ∙ ap (λ xs. cons_option (value operator (lookup vars name)) xs) (same_values operator names)

  same_parts : (parts : List Part) → expand_bound vs (bound binding_of parts) ≡ expand vars parts
  unfolding expand_bound expand
  same_parts [] = refl
  same_parts (Literal text ∷ parts) = ap (λ x. kept text ++ x) (same_parts parts)
  same_parts (Expression operator names ∷ parts) =
      ap (λ xs. signed operator xs ++ expand_bound vs (bound binding_of parts)) (same_values operator names)
      ∙ ap (λ x. signed operator (values operator vars names) ++ x) (same_parts parts)

pub bound_gives_the_same : BoundGivesTheSame
bound_gives_the_same vars vs binding_of same parts = same_parts vars vs binding_of same parts

same_binding : (vs : List Var) (b : Binding) → is_at b ≡ false → stands_for vs b ≡ stands_for [] b
same_binding vs Nothing e = refl
same_binding vs (Constant text) e = refl
same_binding vs (At place) e = absurd (false≢true (sym e))

same_bindings : (vs : List Var) (operator : Operator) (bs : List Binding) → list_any is_at bs ≡ false
    → bound_values operator vs bs ≡ bound_values operator [] bs
same_bindings vs operator [] e = refl
same_bindings vs operator (b ∷ bs) e =
    let k = neither (is_at b) (list_any is_at bs) e in
    ap (λ v. cons_option (value operator v) (bound_values operator vs bs)) (same_binding vs b k.0)
    ∙ ap (λ xs. cons_option (value operator (stands_for [] b)) xs) (same_bindings vs operator bs k.1)

-- parts that don't vary
same_under_all : (parts : List BoundPart) → varies parts ≡ false → (vs : List Var) → expand_bound vs parts ≡ expand_bound [] parts
unfolding expand_bound
same_under_all [] e vs = refl
same_under_all (Written text ∷ parts) e vs = ap (λ x. text ++ x) (same_under_all parts e vs)
same_under_all (Values operator bindings ∷ parts) e vs =
    let k = neither (list_any is_at bindings) (varies parts) e in
    ap (λ xs. signed operator xs ++ expand_bound vs parts) (same_bindings vs operator bindings k.0)
    ∙ ap (λ x. signed operator (bound_values operator [] bindings) ++ x) (same_under_all parts k.1 vs)

pub constant_gives_the_same : ConstantGivesTheSame
constant_gives_the_same parts e vs = same_under_all parts e vs
