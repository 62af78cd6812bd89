-- One character more is added, or a write is cut and no other follows.
use Rattle.std.proofs.Common.{◌≡◌, ◌∙◌, ◌++◌, flat_map, is_ok, map-id, rules, subst, sym, true, false}
use Rattle.std.proofs.lemmas.Iterator.{YieldsList-from_chars}
use Rattle.std.proofs.lemmas.Iterator.Consumers.{YieldsList-end}
use Rattle.std.specs.Prelude.{OnErr, OnOk}
use Rattle.std.specs.Str.{chars}
use Rattle.csvw_streams.specs.Counted.{inner_of, failures_of}
use Rattle.csvw_streams.specs.Lines.{SendsOn, shown}
use Rattle.csvw_streams.specs.Streams.{IsCut, stream_of}
use Rattle.csvw_streams.proofs.PartsLemmas.{char_cut, char_ok, none_ok, stays_cut}
use Rattle.csvw_streams.proofs.line.push_shown.Goals as goal

pub loop-c-preserved-then-is_ok : goal.loop-c-preserved-then-is_ok
loop-c-preserved-then-is_ok g c =
    let contents = g.W.Write.contents in
    let ok : is_ok c.loop-c.pushed ≡ true = search rules in
    record {
      ok = char_ok (contents (inner_of c.args.w.now)) (contents (inner_of c.loop-c.w)) (contents (inner_of c.push_char-pushed.new.w))
          (failures_of c.args.w.now) (failures_of c.loop-c.w) (failures_of c.push_char-pushed.new.w) c.args.room.now.items c.loop-c.room.items
          c.push_char-pushed.new.room.items c.loop-c.yielded c.in-Some.c c.loop-c.pushed c.push_char-pushed.result ok c.loop-c.invariant.ok
          c.push_char-pushed.ensures.ok;
      cut = char_cut (contents (inner_of c.args.w.now)) (contents (inner_of c.loop-c.w)) (contents (inner_of c.push_char-pushed.new.w))
          (failures_of c.args.w.now) (failures_of c.loop-c.w) (failures_of c.push_char-pushed.new.w) c.args.room.now.items c.loop-c.room.items
          c.push_char-pushed.new.room.items c.loop-c.yielded c.in-Some.c c.loop-c.pushed c.push_char-pushed.result ok c.loop-c.invariant.ok
          c.push_char-pushed.ensures.cut;
    }

pub loop-c-preserved : goal.loop-c-preserved
loop-c-preserved g c =
    let failed : is_ok c.loop-c.pushed ≡ false = search rules in
    record {
      ok = none_ok c.loop-c.pushed _ _ failed c.loop-c.invariant.ok;
      cut = stays_cut c.loop-c.pushed (stream_of g.W.Write.contents c.args.w.now c.loop-c.w) c.args.room.now.items c.loop-c.yielded c.in-Some.c
          c.loop-c.invariant.cut;
    }

pub returns-clause-ok : goal.returns-clause-ok
returns-clause-ok g c =
    let end = YieldsList-end (YieldsList-from_chars c.args.text.now c.utf8.text cc) c.loop-c.yielded _ c.loop-c.yielded_by _ _ c.in-None.is
    c.next.ensures.steps in
    let all : c.loop-c.yielded ≡ chars c.args.text.now = sym (map-id c.loop-c.yielded) ∙ end.0 in
    subst (λ ys. OnOk c.loop-c.pushed (SendsOn (stream_of g.W.Write.contents c.args.w.now c.loop-c.w) c.args.room.now.items (flat_map shown ys)
    c.loop-c.room.items)) all c.loop-c.invariant.ok

pub returns-clause-cut : goal.returns-clause-cut
returns-clause-cut g c =
    let end = YieldsList-end (YieldsList-from_chars c.args.text.now c.utf8.text cc) c.loop-c.yielded _ c.loop-c.yielded_by _ _ c.in-None.is
    c.next.ensures.steps in
    let all : c.loop-c.yielded ≡ chars c.args.text.now = sym (map-id c.loop-c.yielded) ∙ end.0 in
    subst (λ ys. OnErr c.loop-c.pushed (IsCut (stream_of g.W.Write.contents c.args.w.now c.loop-c.w) (c.args.room.now.items ++ flat_map shown ys))) all
    c.loop-c.invariant.cut
