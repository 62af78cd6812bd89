-- The columns and the faults of the header.
use Rattle.std.proofs.Common.{◌∙◌, List, ap, subst}
use Rattle.csvw_columns_core.specs.HeaderFits.{header_faults}
use Rattle.csvw_columns_core.specs.declared.column.Column.{Column}
use Rattle.csvw_columns_core.specs.declared.columns.Columns.{Columns}
use Rattle.csvw_columns.specs.Distinct.{AreNamedApart}
use Rattle.csvw_columns.proofs.SoundLemmas.{sound_at}
use Rattle.csvw_columns.proofs.heading.match_header.Goals as goal

pub returns-clause-matches : goal.returns-clause-matches
returns-clause-matches c =
    let plan = c.args.plan.now in
    let same = c.in_ok-columns.ensures.1 in
    let found = rw c.in_ok-columns-2.ensures.0 at c.in_table-columns.ensures in
    let told = rw c.in_ok-columns-2.ensures.1 at c.header_faults-faults.ensures in
    let apart : AreNamedApart c.as_slice.result.now = c.in_ok-are_named_apart.ensures.0 c.if-not-branch.false in
    record {
      within = c.in_ok-columns.ensures.0;
      names = subst AreNamedApart (c.as_slice.ensures ∙ same) apart;
      columns = found ∙ ap (λ (cs : List Column). record { columns = cs; url = plan.url; id = plan.id; suppressed = plan.suppressed }) same;
      faults = c.into_vec.ensures ∙ told
          ∙ ap (λ cs. header_faults plan.number plan.dialect.header_row_count cs c.args.rows.now) (c.as_slice-2.ensures ∙ same);
    }

pub returns-clause-sound : goal.returns-clause-sound
returns-clause-sound c = λ ready.
    let found = rw c.in_ok-columns-2.ensures.0 at c.in_table-columns.ensures in
    sound_at c.args.plan.now c.args.rows.now c.args.width _ (ap (λ (f : Columns). f.columns) found ∙ c.in_ok-columns.ensures.1) ready
