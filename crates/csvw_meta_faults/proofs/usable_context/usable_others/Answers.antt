-- More than two items say nothing.
use Rattle.std.proofs.Common.{◌≡◌, ◌≤◌, ℕ, List, [], ◌∷◌, IfOk, arith, length, refl, subst}
use Rattle.serde_json.specs.View.{items_view}
use Rattle.serde_json.specs.declared.value.Value.{Value}
use Rattle.url.specs.Parts.{Parts}
use Rattle.csvw_meta_core.specs.declared.context.Context.{Context}
use Rattle.csvw_meta_core.specs.Context.{plain_context}
use Rattle.csvw_meta_core.specs.Pointer.{text_of}
use Rattle.csvw_meta.specs.UsableContext.{usable_others}
use Rattle.csvw_meta_faults.proofs.usable_context.usable_others.Goals as goal

many_say_nothing : (base : Parts) (at : List ℕ) (vs : List Value) → 2 ≤ length vs → plain_context base ≡ usable_others base at (items_view vs)
many_say_nothing base at [] h = absurd (omega arith)
many_say_nothing base at (v ∷ []) h = absurd (omega arith)
many_say_nothing base at (v ∷ w ∷ vs) h = refl

pub returns-in_default : goal.returns-in_default
returns-in_default c =
    let many : 2 ≤ length c.args.others.now = omega arith in
    subst (λ (x : Context). IfOk c.plain-in_default.result (λ y. y ≡ x))
    (many_say_nothing c.args.base.now (text_of c.args.part.now.at) c.args.others.now many) c.plain-in_default.ensures
