-- A fault of each part is reported.
use Rattle.std.proofs.Common.{refl}
use Rattle.serde_json.specs.View.{view}
use Rattle.csvw_meta_core.specs.Pointer.{text_of}
use Rattle.csvw_meta_keys.specs.Keys.{keys}
use Rattle.csvw_meta_keys.proofs.ReadLemmas.{fails_first, later, refused}
use Rattle.csvw_meta_keys.proofs.keys.read_keys.Goals as goal

pub returns-in_err-primary : goal.returns-in_err-primary
unfolding keys
returns-in_err-primary c =
    refused c.from_residual.result c.in_err-primary.field-0.0
    (keys c.args.profile c.args.base.now c.args.place c.args.id (text_of c.args.part.now.at) (view c.args.part.now.value.now)) c.from_residual.ensures.1
    (fails_first _ _ _ (rw c.new.ensures at c.in_err-primary.ensures))

pub returns-in_err-row_titles : goal.returns-in_err-row_titles
unfolding keys
returns-in_err-row_titles c =
    refused c.from_residual-in_err-row_titles.result c.in_err-row_titles.field-0.0
    (keys c.args.profile c.args.base.now c.args.place c.args.id (text_of c.args.part.now.at) (view c.args.part.now.value.now))
    c.from_residual-in_err-row_titles.ensures.1
    (later _ _ _ _ (rw c.new.ensures at c.in_ok-primary.ensures) (fails_first _ _ _ (rw c.new-2.ensures at c.in_err-row_titles.ensures)))

pub returns-in_err-foreign : goal.returns-in_err-foreign
unfolding keys
returns-in_err-foreign c =
    refused c.from_residual-in_err-foreign.result c.in_err-foreign.field-0.0
    (keys c.args.profile c.args.base.now c.args.place c.args.id (text_of c.args.part.now.at) (view c.args.part.now.value.now))
    c.from_residual-in_err-foreign.ensures.1
    (later _ _ _ _ (rw c.new.ensures at c.in_ok-primary.ensures)
    (later _ _ _ _ (rw c.new-2.ensures at c.in_ok-row_titles.ensures) (fails_first _ _ _ (rw c.new-3.ensures at c.in_err-foreign.ensures))))

pub returns : goal.returns
unfolding keys
returns c =
    let primary = rw c.new.ensures at c.in_ok-primary.ensures in
    let titles = rw c.new-2.ensures at c.in_ok-row_titles.ensures in
    let foreign = rw c.new-3.ensures at c.in_ok-foreign.ensures in
    rw (primary, titles, foreign) refl
