use Rattle.std.proofs.Common.{◌-◌, arith}
use Rattle.csvw_fields.proofs.MarkLemmas.{none_ahead, some_ahead}
use Rattle.csvw_fields.proofs.marks.Marks.ahead.Goals as goal

pub returns-then-mask-eq0 : goal.returns-then-mask-eq0
returns-then-mask-eq0 c test text a =
    let m = c.args.self in
    let at = c.args.at in
    let low = c.requires.low in
    let high = c.requires.high in
    none_ahead test text m (at - m.from) at a (omega (arith, low)) (omega (arith, low, high)) c.if-mask-eq0.true

pub returns : goal.returns
returns c test text a =
    let m = c.args.self in
    let at = c.args.at in
    let low = c.requires.low in
    let high = c.requires.high in
    some_ahead test text m (at - m.from) at a (omega (arith, low)) (omega (arith, low, high)) c.if-mask-eq0.false
