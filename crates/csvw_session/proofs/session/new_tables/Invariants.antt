-- A table for each plan passed so far.
use Rattle.std.proofs.Common.{take}
use Rattle.csvw_session.specs.NewTables.{AreNew}
use Rattle.csvw_session.proofs.session.new_tables.Given as goal

abbrev pub invariant-loop-plan : goal.invariant-loop-plan
invariant-loop-plan l = AreNew l.mode (take l.plan-index l.plans) l.tables.items
