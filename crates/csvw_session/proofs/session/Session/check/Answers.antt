-- Whether a table takes an event.
use Rattle.std.proofs.Common.{◌≡◌, ◌<◌, ◌∙◌, ap, sym, subst, inr, length, Some, false}
use Rattle.std.proofs.lemmas.Option.{slice_get-get_or, get_or_from_slice_get}
use Rattle.csvw_engine_core.specs.Tables.{is_ended}
use Rattle.csvw_engine_core.specs.declared.table.Table.{Table}
use Rattle.csvw_session.proofs.Checking.{open_state, never}
use Rattle.csvw_session.proofs.Order.{has_table}
use Rattle.csvw_session.proofs.session.Session.check.Goals as goal

pub returns-then-is_ended : goal.returns-then-is_ended
returns-then-is_ended g c =
    let below : c.in-Some.i < length c.args.self.now.tables.items =
    subst (λ n. c.in-Some.i < n) (c.len.ensures ∙ c.args.self.now.tables.ok.0) c.in-Some.ensures.1 in (
      λ e. never (c.if-is_failed.ensures.1 e),
      has_table c.args.self.now c.args.t c.in-Some.i c.in-Some.ensures.0 below,
      inr (
        c.in-Some.i,
        c.index.result.now,
        c.in-Some.ensures.0,
        slice_get-get_or c.args.self.now.tables.items c.in-Some.i c.index.result.now below ∙ ap Some (sym c.index.ensures),
        sym c.if-is_ended.ensures,
      ),
    )

pub returns : goal.returns
returns g c = (
  open_state c.args.self.now.state (λ e. never (c.if-is_failed.ensures.1 e)) (λ e. never (c.if-is_finished.ensures.1 e)),
  c.in-Some.ensures.0,
  subst (λ n. c.in-Some.i < n) (c.len.ensures ∙ c.args.self.now.tables.ok.0) c.in-Some.ensures.1,
  λ table e.
      let same : c.index.result.now ≡ table = c.index.ensures ∙ get_or_from_slice_get c.args.self.now.tables.items c.in-Some.i table c.index.result.now e in
      subst (λ (z : Table). is_ended z ≡ false) same (sym c.if-is_ended.ensures),
)
