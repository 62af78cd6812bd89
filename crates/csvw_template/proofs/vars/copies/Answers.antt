-- One more pair is copied.
use Rattle.std.proofs.Common.{◌≡◌, ℕ, ◌+◌, ◌<◌, List, [], ◌∷◌, ◌++◌, length, take, get_or, ap, sym, ◌∙◌}
use Rattle.std.proofs.lemmas.List.{take_more}
use Rattle.csvw_template.specs.declared.vars.Var.{Var}
use Rattle.csvw_template.specs.Variables.{Variables}
use Rattle.csvw_template.proofs.vars.copies.Goals as goal

one_more : (pairs : Variables) (i : ℕ) (p : List ℕ × Var) → p ≡ get_or pairs i p → i < length pairs → (copies : Variables) → copies ≡ take i pairs
    → (name : List ℕ) (value : Var) → name ≡ p.0 → value ≡ p.1 → copies ++ (name, value) ∷ [] ≡ take (i + 1) pairs
one_more pairs i p is lt copies so_far name value same_name same_value =
    ap (λ z. z ++ (name, value) ∷ []) so_far
    ∙ ap (λ z. take i pairs ++ z ∷ []) (ap (λ n. (n, value)) same_name ∙ ap (λ v. (p.0, v)) same_value ∙ is)
    ∙ sym (take_more pairs i p lt)

pub loop-key-preserved : goal.loop-key-preserved
loop-key-preserved c =
    c.in_ok-push.ensures.items
    ∙ one_more c.args.pairs.now c.loop-key.key-index c.loop-key-item.result c.loop-key-item.is c.loop-key-test.true c.loop-key.copies.items c.loop-key.invariant
    c.in_ok-name.name c.in_ok-value.value c.in_ok-name.ensures c.in_ok-value.ensures
