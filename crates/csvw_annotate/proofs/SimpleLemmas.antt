-- The link by a front and a value.
use Rattle.std.proofs.Common.{◌≡◌, ◌∙◌, ℕ, List, [], ◌∷◌, ◌++◌, ap, sym, subst, append-nil, Option, Result}
use Rattle.std.specs.Prelude.{IfOk, IfSome}
use Rattle.std.specs.List.{filter_map}
use Rattle.url.specs.Parts.{Parts}
use Rattle.csvw_iri.specs.Encoded.{percent_encoded}
use Rattle.csvw_iri.specs.Link.{link_of}
use Rattle.csvw_template.specs.declared.bound.Binding.{Binding}
use Rattle.csvw_template.specs.declared.bound.Binding.TheVariants.{At}
use Rattle.csvw_template.specs.declared.bound.BoundPart.{BoundPart}
use Rattle.csvw_template.specs.declared.bound.BoundPart.TheVariants.{Written, Values}
use Rattle.csvw_template.specs.declared.part.Operator.TheVariants.{Simple}
use Rattle.csvw_template.specs.declared.vars.Var.{Var}
use Rattle.csvw_template.specs.declared.vars.Var.TheVariants.{One}
use Rattle.csvw_template.specs.Bound.{expand_bound, var_at}
use Rattle.csvw_template.specs.Expand.{value, signed}
use Rattle.csvw_annotate.specs.declared.links.Made.{Made}
use Rattle.csvw_annotate.specs.declared.simple.SimpleFront.{SimpleFront}
use Rattle.csvw_annotate.specs.Links.{outcome}
use Rattle.csvw_annotate.specs.Simple.{IsSimple, front_text}

expands : (values : List Var) (front : List ℕ) (place : ℕ) (text : List ℕ) → var_at values place ≡ One text
    → expand_bound values (Written front ∷ Values Simple (At place ∷ []) ∷ []) ≡ front ++ percent_encoded text
unfolding expand_bound
expands values front place text is =
    let encoded = percent_encoded text in
    ap (λ var. front ++ (signed Simple (filter_map (λ (binding : Binding). value Simple var) (At place ∷ [])) ++ [])) is
    ∙ ap (λ x. front ++ x) (append-nil (encoded ++ []) ∙ append-nil encoded)

simple_text : (values : List Var) (parts : List BoundPart) (front : SimpleFront) (place : ℕ) (text : List ℕ)
    → IsSimple parts front place → var_at values place ≡ One text
    → front_text front ++ percent_encoded text ≡ expand_bound values parts
simple_text values parts front place text simple is =
    sym (expands values (front_text front) place text is) ∙ ap (expand_bound values) (sym simple)

abbrev pub IsFound : {E : Type 0} → Parts → List ℕ → Result (Option Made) E → Type 0
IsFound base text r = IfOk r (λ found. IfSome found (λ made. made ≡ outcome (link_of base text)))

pub simple_found : {E : Type 0} (base : Parts) (values : List Var) (parts : List BoundPart) (front : SimpleFront) (place : ℕ) (text : List ℕ)
    (r : Result (Option Made) E) → IsSimple parts front place → var_at values place ≡ One text
    → IsFound base (front_text front ++ percent_encoded text) r → IsFound base (expand_bound values parts) r
simple_found base values parts front place text r simple is found =
    subst (λ t. IsFound base t r) (simple_text values parts front place text simple is) found
