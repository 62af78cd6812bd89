use Rattle.csvw_annotate.proofs.SimpleLemmas.{simple_found}
use Rattle.csvw_annotate.proofs.link_room.LinkRoom.simple_in.Goals as goal

pub returns-in-Some-text : goal.returns-in-Some-text
returns-in-Some-text g c =
    let simple = c.in-Some.simple.now in
    simple_found c.args.base.now (g.V.Values.values c.args.values.now) c.args.parts.now simple.front simple.place c.in-Some-text.text.now
    c.simple_link.result c.in-Some.ensures c.in-Some-text.ensures c.simple_link.ensures
