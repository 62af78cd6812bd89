-- A table that skips has columns, and its reader skips to the row after its header rows and so many data rows.
use Rattle.std.proofs.Common.{◌≡◌, ◌∙◌, ◌+◌, Some, ap, not, refl, subst, arith}
use Rattle.csvw_columns_core.specs.declared.columns.Columns.{Columns}
use Rattle.csvw_rows.specs.Skips.{SkipsTo}
use Rattle.csvw_engine_core.specs.Annotated.{header_count}
use Rattle.csvw_engine_core.proofs.SkipLemmas.{known_of, skip_table}
use Rattle.csvw_engine_core.proofs.table.Table.skip_to.Goals as goal

pub returns-clause-skips : goal.returns-clause-skips
returns-clause-skips c = λ _. record {
  goes_on = λ mode bytes between given so_far all whole h w rows left has.
      skip_table c.given_begin_later.ensures c.args.plan.now mode c.args.self.now _ c.args.rows c.args.data_rows known.0 bytes between given so_far all
      whole known.1 refl refl refl skips h w rows left has;
  not_ended = skips.not_ended;
  head = refl;
  faults = c.new.ensures;
}
  where
    count : c.in-Some.remained ≡ header_count c.args.plan.now + c.args.data_rows
    count = let e = c.in-Some.ensures in let f = c.from-headers.ensures in omega (arith, e, f)

    skips : SkipsTo c.args.self.now.rows c.skip_to.new.self c.args.rows (header_count c.args.plan.now + c.args.data_rows)
    skips = subst (SkipsTo c.args.self.now.rows c.skip_to.new.self c.args.rows) count (c.skip_to.ensures.skips c.if-not-skip_to.false)

    known : (columns : Columns) × (c.args.self.now.head.columns ≡ Some columns)
    known = known_of c.args.self.now.head.columns (c.is_none.ensures ∙ ap not c.if-is_none.false)
