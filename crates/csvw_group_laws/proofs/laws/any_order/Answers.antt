-- Both are the same annotated tables.
use Rattle.csvw_group_laws.proofs.AnyOrder.{end_the_same}
use Rattle.csvw_group_laws.proofs.laws.any_order.Goals as goal

pub returns : goal.returns
returns g c =
    let t = g.S.TripleSink in
    λ sink other events others s r outcome its h k plan mode texts.
    end_the_same t.gains c.texts_have_one_annotation.ensures c.sorts_to_one.ensures sink other events others s r outcome its
    (c.finished_sessions_annotate.ensures sink events s outcome h) (c.finished_sessions_annotate.ensures other others r its k) plan mode texts
