-- The code was added; then the pointer is, or a write is cut.
use Rattle.std.proofs.Common.{◌≡◌, ◌++◌, [], ap, ap₂, codes, subst}
use Rattle.std.specs.Prelude.{OnErr, OnOk}
use Rattle.std.proofs.lemmas.Result.{err_from_is_err_and}
use Rattle.csvw_streams.specs.Counted.{inner_of, failures_of}
use Rattle.csvw_streams.specs.Lines.{SendsOn, shown_text}
use Rattle.csvw_streams.specs.Streams.{IsCut, stream_of}
use Rattle.csvw_command_runs.specs.Lines.{meta_line}
use Rattle.csvw_command_runs.proofs.Sending.{cut_more, last_cut, last_ok}
use Rattle.csvw_command_runs.proofs.line.push_meta.Goals as goal

pub returns-in_err-push_parts-clause-cut : goal.returns-in_err-push_parts-clause-cut
returns-in_err-push_parts-clause-cut g c =
    let p = err_from_is_err_and c.from_residual.result c.from_residual.ensures.1 in
    let front = codes "csvw: metadata " ++ (c.name.result.now ++ (codes " " ++ [])) in
    let pointer = shown_text c.args.fault.now.pointer in
    let whole : front ++ pointer ≡ meta_line c.args.fault.now = ap (λ n. codes "csvw: metadata " ++ ((n ++ codes " ") ++ pointer)) c.name.ensures in
    let s = stream_of g.W.Write.contents c.args.w.now c.push_parts.new.w in
    rw p.1 (subst (λ t. IsCut s (c.args.room.now.items ++ t)) whole (cut_more s c.args.room.now.items front pointer c.in_err-push_parts.ensures.cut))

pub returns-clause-ok : goal.returns-clause-ok
returns-clause-ok g c =
    let contents = g.W.Write.contents in
    let front = codes "csvw: metadata " ++ (c.name.result.now ++ (codes " " ++ [])) in
    let pointer = shown_text c.as_str.result.now in
    let whole : front ++ pointer ≡ meta_line c.args.fault.now =
    ap₂ (λ n t. codes "csvw: metadata " ++ ((n ++ codes " ") ++ shown_text t)) c.name.ensures c.as_str.ensures in
    subst (λ t. OnOk c.push_shown.result (SendsOn (stream_of contents c.args.w.now c.push_shown.new.w) c.args.room.now.items t c.push_shown.new.room.items))
    whole
    (last_ok c.push_shown.result (contents (inner_of c.args.w.now)) (contents (inner_of c.push_parts.new.w)) (contents (inner_of c.push_shown.new.w))
    (failures_of c.args.w.now) (failures_of c.push_parts.new.w) (failures_of c.push_shown.new.w) c.args.room.now.items front c.push_parts.new.room.items
    pointer c.push_shown.new.room.items c.in_ok-push_parts.ensures.ok c.push_shown.ensures.ok)

pub returns-clause-cut : goal.returns-clause-cut
returns-clause-cut g c =
    let contents = g.W.Write.contents in
    let front = codes "csvw: metadata " ++ (c.name.result.now ++ (codes " " ++ [])) in
    let pointer = shown_text c.as_str.result.now in
    let whole : front ++ pointer ≡ meta_line c.args.fault.now =
    ap₂ (λ n t. codes "csvw: metadata " ++ ((n ++ codes " ") ++ shown_text t)) c.name.ensures c.as_str.ensures in
    subst (λ t. OnErr c.push_shown.result (IsCut (stream_of contents c.args.w.now c.push_shown.new.w) (c.args.room.now.items ++ t))) whole
    (last_cut c.push_shown.result (contents (inner_of c.args.w.now)) (contents (inner_of c.push_parts.new.w)) (contents (inner_of c.push_shown.new.w))
    (failures_of c.args.w.now) (failures_of c.push_parts.new.w) (failures_of c.push_shown.new.w) c.args.room.now.items front c.push_parts.new.room.items
    pointer c.push_shown.new.room.items c.in_ok-push_parts.ensures.ok c.push_shown.ensures.cut)
