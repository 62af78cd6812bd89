-- The number of one name more, which is no greater than there are names.
use Rattle.std.proofs.Common.{◌∙◌, ℕ, List, ap, arith}
use Rattle.csvw_columns.specs.Keys.{number_at, place_of}
use Rattle.csvw_columns.proofs.KeyLemmas.{number_within}
use Rattle.csvw_columns.proofs.MapLemmas.{map_longer}
use Rattle.csvw_columns.proofs.references.numbers_of.Goals as goal

pub loop-name-preserved : goal.loop-name-preserved
loop-name-preserved c =
    let names = c.args.names.now in
    let number = λ (name : List ℕ). number_at (place_of names name) in
    map_longer number c.args.key.now c.loop-name.name-index c.name-item.result c.loop-name-test.true c.name-item.is c.loop-name.invariant
    c.in_ok-push.ensures.items (c.number_at.ensures ∙ ap number_at c.place_of_name-place.ensures ∙ ap number c.as_str.ensures)

pub number_at-requires : goal.number_at-requires
number_at-requires c =
    let within = number_within c.args.names.now c.as_str.result.now in
    rw c.place_of_name-place.ensures (omega (arith, within))
