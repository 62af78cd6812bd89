-- Templates whose names are bound. What each name stands for was looked up once: it is a text, a place of values, or nothing.
use Rattle.std.specs.Prelude.{◌≡◌, ℕ, List, [], Bool, true, false, map}
use Rattle.std.specs.List.{flat_map, filter_map, list_any, slice_index_or}
use Rattle.csvw_template.specs.declared.bound.Binding.{Binding}
use Rattle.csvw_template.specs.declared.bound.Binding.TheVariants.{Nothing, Constant, At}
use Rattle.csvw_template.specs.declared.bound.BoundPart.{BoundPart}
use Rattle.csvw_template.specs.declared.bound.BoundPart.TheVariants.{Written, Values}
use Rattle.csvw_template.specs.declared.part.Operator.{Operator}
use Rattle.csvw_template.specs.declared.part.Part.{Part}
use Rattle.csvw_template.specs.declared.part.Part.TheVariants.{Literal, Expression}
use Rattle.csvw_template.specs.declared.vars.Var.{Var}
use Rattle.csvw_template.specs.declared.vars.Var.TheVariants.{Undefined, One}
use Rattle.csvw_template.specs.Expand.{kept, value, signed, expand}
use Rattle.csvw_template.specs.Variables.{Variables, lookup}

-- the value at a place; after the last place nothing
abbrev pub var_at : List Var → ℕ → Var
var_at values place = slice_index_or values place Undefined

-- what a binding stands for among these values
abbrev pub stands_for : List Var → Binding → Var
stands_for values Nothing = Undefined
stands_for values (Constant text) = One text
stands_for values (At place) = var_at values place

-- a part with its names bound; a literal is written as it expands
abbrev pub bound_part : (List ℕ → Binding) → Part → BoundPart
bound_part binding_of (Literal text) = Written (kept text)
bound_part binding_of (Expression operator names) = Values operator (map binding_of names)

abbrev pub bound : (List ℕ → Binding) → List Part → List BoundPart
bound binding_of parts = map (bound_part binding_of) parts

-- the values of the bindings that stand for something
abbrev pub bound_values : Operator → List Var → List Binding → List (List ℕ)
bound_values operator values bindings = filter_map (λ binding. value operator (stands_for values binding)) bindings

abbrev pub expand_bound_part : List Var → BoundPart → List ℕ
expand_bound_part values (Written text) = text
expand_bound_part values (Values operator bindings) = signed operator (bound_values operator values bindings)

unfoldable pub expand_bound : List Var → List BoundPart → List ℕ
expand_bound values parts = flat_map (expand_bound_part values) parts

-- the binding is to a place of values
abbrev pub is_at : Binding → Bool
is_at Nothing = false
is_at (Constant text) = false
is_at (At place) = true

abbrev pub varies_in : BoundPart → Bool
varies_in (Written text) = false
varies_in (Values operator bindings) = list_any is_at bindings

-- the expansion may differ under other values
abbrev pub varies : List BoundPart → Bool
varies parts = list_any varies_in parts

-- If each name is bound to what it stands for, a template with its names bound expands to the same text.
abbrev pub BoundGivesTheSame : Type 0
BoundGivesTheSame =
    (vars : Variables) (values : List Var) (binding_of : List ℕ → Binding) → ((name : List ℕ) → stands_for values (binding_of name) ≡ lookup vars name)
    → (parts : List Part) → expand_bound values (bound binding_of parts) ≡ expand vars parts

-- If parts don't vary, they expand to the same text under all values.
abbrev pub ConstantGivesTheSame : Type 0
ConstantGivesTheSame = (parts : List BoundPart) → varies parts ≡ false → (values : List Var) → expand_bound values parts ≡ expand_bound [] parts
