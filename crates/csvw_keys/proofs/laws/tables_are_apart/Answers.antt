use Rattle.std.proofs.Common.{sym, ◌∙◌, nat_eq}
use Rattle.std.proofs.lemmas.Bool.{eqb-true}
use Rattle.csvw_keys.proofs.OrderLemmas.{either_order}
use Rattle.csvw_keys.proofs.laws.tables_are_apart.Goals as goal

pub returns : goal.returns
returns c = λ tables a b r s apart n.
    either_order (nat_eq a n) (nat_eq b n) (tables n) r s (λ p q. apart (eqb-true a n p ∙ sym (eqb-true b n q)))
