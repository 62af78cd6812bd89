-- The fault of the type comes first.
use Rattle.std.proofs.Common.{◌∷◌, [], ◌++◌, ◌∙◌, ap₂, append_assoc}
use Rattle.csvw_meta_faults_parts.proofs.based.add_of_any.Goals as goal

pub returns : goal.returns
returns c = λ id place.
    c.in_ok-append.ensures.items
    ∙ (ap₂ (λ xs ys. xs ++ ys) c.in_ok-push.ensures.items (c.into_vec.ensures ∙ c.in_ok-shared.ensures id place)
    ∙ append_assoc c.args.faults.now.items (c.args.fault ∷ []) _)
