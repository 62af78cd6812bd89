-- The warnings, then the faults of the tables, and then those of keys.
use Rattle.std.proofs.Common.{rules}
use Rattle.csvw_session.proofs.session.Session.faults.Goals as goal

pub returns : goal.returns
returns g c = record {
  key_faults = c.in_ok-broken.broken.items;
  told = c.in_ok-broken.ensures;
  all = search rules;
}
