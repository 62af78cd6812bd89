-- One more cell has its links, or stays without.
use Rattle.std.proofs.Common.{◌≡◌, ◌∙◌, ◌<◌, ◌≤◌, sym, ap, arith, length, get_or, refl}
use Rattle.csvw_columns_core.specs.declared.columns.Columns.{Columns}
use Rattle.csvw_annotate.specs.declared.row.AnnCell.{AnnCell}
use Rattle.csvw_annotate.specs.Linked.{linked_in, values_of, with_links}
use Rattle.csvw_annotate.specs.CellVariables.{variables}
use Rattle.csvw_annotate.specs.Links.{joined, no_link}
use Rattle.csvw_annotate.proofs.LinkLemmas.{about_before, about_next, goes_on, same_values, same_places, same_forms, stays, whole}
use Rattle.csvw_annotate.proofs.LinkLemmas.{about_alone, linked_is, no_links, plain_at}
use Rattle.csvw_annotate.proofs.linking.link_cells.Goals as goal
use Rattle.csvw_annotate.proofs.linking.link_cells.Goals.{then-has_own_template+in_ok-clone+in_ok-links+in_ok-put_links}
use Rattle.csvw_annotate.proofs.linking.link_cells.Goals.{else-has_own_template+then-has_template+in_ok-put_about, else-has_own_template+else-has_template}

pub about_at-requires-clause-places : goal.about_at-requires-clause-places
about_at-requires-clause-places c =
    same_places c.args.columns.now c.args.row c.loop-i.i c.args.cells.now c.loop-i.cells c.loop-i.invariant.linked c.args.columns.now.columns refl
    c.requires.places

pub about_at-requires-clause-forms : goal.about_at-requires-clause-forms
about_at-requires-clause-forms c =
    same_forms c.args.columns.now c.args.row c.loop-i.i c.args.cells.now c.loop-i.cells c.loop-i.invariant.linked c.requires.forms

pub about_at-requires-clause-before : goal.about_at-requires-clause-before
about_at-requires-clause-before c =
    about_before c.args.columns.now c.args.row c.args.cells.now c.loop-i.cells
    (same_values c.args.columns.now c.args.row c.loop-i.i c.args.cells.now c.loop-i.cells c.loop-i.invariant.linked) c.loop-i.i c.loop-i.about
    c.loop-i.invariant.about

pub links_at-requires-clause-places : goal.links_at-requires-clause-places
links_at-requires-clause-places c =
    same_places c.args.columns.now c.args.row c.loop-i.i c.args.cells.now c.loop-i.cells c.loop-i.invariant.linked c.args.columns.now.columns refl
    c.requires.places

pub links_at-requires-clause-forms : goal.links_at-requires-clause-forms
links_at-requires-clause-forms c =
    same_forms c.args.columns.now c.args.row c.loop-i.i c.args.cells.now c.loop-i.cells c.loop-i.invariant.linked c.requires.forms

pub links_at-requires-clause-about : goal.links_at-requires-clause-about
links_at-requires-clause-about c = λ column at. c.in_ok-clone.ensures ∙ c.in_ok-about.ensures column at

pub loop-i-preserved : goal.loop-i-preserved
loop-i-preserved c =
    let columns = c.args.columns.now in
    let row = c.args.row in
    let cells = c.args.cells.now in
    let now = c.loop-i.cells in
    let then = c.if-has_own_template.cells in
    let i = c.loop-i.i in
    let column = c.index-all-i.result in
    let link = linked_in columns row (values_of cells) in
    let is = c.loop-i.invariant.linked in
    let all_is = c.as_slice-all.ensures ∙ ap (λ (x : Columns). x.columns) c.columns.ensures in
    let same = ap length all_is in
    let lt : i < length columns.columns = omega arith in
    let within : i < length cells = let n = c.requires.places in omega arith in
    let at = c.index-all-i.is ∙ ap (λ xs. get_or xs i column) all_is in
    let values = same_values columns row i cells now is in
    record {
      linked = elim c.if-has_own_template.branch [
        | then-has_own_template+in_ok-clone+in_ok-links+in_ok-put_links w ↦
            let cell = w.index-cells-i.result in
            let put = w.in_ok-put_links.ensures ∙ ap (λ (x : AnnCell). with_links x w.in_ok-links.links) (sym w.index-cells-i.is) in
            let new = linked_is columns row cells now i column cell w.put_links.new.cell w.in_ok-links.links values w.in_ok-links.ensures at
            w.index-cells-i.is put in
            goes_on link i columns.columns cells now then column cell w.put_links.new.cell lt within at w.index-cells-i.is is new w.cells-is
        | else-has_own_template+then-has_template+in_ok-put_about w ↦
            let cell = w.index-cells-i-then-has_template.result in
            let links = joined c.in_ok-about.about no_link no_link in
            let none = sym c.has_own_template.ensures ∙ w.if-has_own_template.false in
            let are = about_alone columns row now i column c.in_ok-about.about lt at none c.in_ok-about.ensures in
            let put = w.in_ok-put_about.ensures ∙ ap (λ (x : AnnCell). with_links x links) (sym w.index-cells-i-then-has_template.is) in
            let new = linked_is columns row cells now i column cell w.put_about.new.cell links values are at w.index-cells-i-then-has_template.is put in
            goes_on link i columns.columns cells now then column cell w.put_about.new.cell lt within at w.index-cells-i-then-has_template.is is new
            w.cells-is
        | else-has_own_template+else-has_template w ↦
            let other = w.index-all-i-else-has_own_template.result in
            let at_other = w.index-all-i-else-has_own_template.is ∙ ap (λ xs. get_or xs i other) all_is in
            let none = sym w.has_template.ensures ∙ w.if-has_template.false in
            let vars_then = variables row other columns.columns (values_of cells) in
            let stay = λ (cell : AnnCell) (f : cell ≡ get_or cells i cell).
            no_links columns.url vars_then other cell none (plain_at cells i cell within f c.requires.plain) in
            stays link i columns.columns cells now then other lt within at_other stay is w.cells-is
      ];
      about = about_next columns row cells now values i c.in_ok-about.about c.in_ok-about.ensures;
    }

pub returns : goal.returns
returns c =
    let columns = c.args.columns.now in
    let cells = c.args.cells.now in
    let link = linked_in columns c.args.row (values_of cells) in
    let all_is = c.as_slice-all.ensures ∙ ap (λ (x : Columns). x.columns) c.columns.ensures in
    let same = ap length all_is in
    let done : length columns.columns ≤ c.loop-i.i = omega arith in
    c.loop-i.invariant.linked ∙ whole link c.loop-i.i columns.columns cells c.requires.places done
