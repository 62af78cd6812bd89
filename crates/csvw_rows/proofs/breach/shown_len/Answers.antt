use Rattle.std.proofs.Common.{length, refl}
use Rattle.csvw_rows.proofs.ShownBytes.{shows_all, shows_front, max_least, max_most}
use Rattle.csvw_rows.proofs.breach.shown_len.Goals as goal

pub returns-then-place-rest : goal.returns-then-place-rest
returns-then-place-rest c =
    let f = c.front_len.ensures in
    shows_front c.args.rules.now.dialect c.args.rest.now c.args.at c.shown_at-here.result c.common_len.result c.max-place.result c.utf8.rest
    c.shown_at-here.ensures c.common_len.ensures
    (max_least _ _ _ c.max-place.ensures) (max_most _ _ _ c.max-place.ensures) c.front_len.result f.within f.text f.rest

pub returns-else-place-rest : goal.returns-else-place-rest
returns-else-place-rest c =
    let past = c.if-place-rest.false in
    shows_all c.args.rules.now.dialect c.args.rest.now c.args.at c.shown_at-here.result c.common_len.result c.max-place.result c.utf8.rest
    c.shown_at-here.ensures c.common_len.ensures
    (max_least _ _ _ c.max-place.ensures) (max_most _ _ _ c.max-place.ensures) (length c.args.rest.now) refl past
