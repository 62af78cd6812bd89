-- A session at its start.
use Rattle.std.proofs.Common.{refl}
use Rattle.csvw_session.proofs.Starting.{as_many, stands_at_start}
use Rattle.csvw_session.proofs.session.Session.start.Goals as goal

pub invariant_of-result : goal.invariant_of-result
invariant_of-result g c = record {
  many = as_many c.args.mode c.args.plan.tables c.in-Ok-open_tables.tables.items c.in-Ok-open_tables.ensures.tables;
  ready = c.requires;
}

pub returns-in-Ok-open_tables-clause-stands : goal.returns-in-Ok-open_tables-clause-stands
returns-in-Ok-open_tables-clause-stands g c =
    let s = g.S.TripleSink in record {
      plan_is = refl;
      mode_is = refl;
      opened = c.in-Ok-open_tables.ensures.opened;
      ready = c.in-Ok-open_tables.ensures.ready;
      stands = stands_at_start s.gains s.is_open s.failed g.met.S.TripleSink.stays _ c.in-Ok-open_tables.ensures.tables c.in-Ok.ensures refl;
    }
