use Rattle.std.proofs.Common.{None, Ok, refl}
use Rattle.csvw_records.specs.RecordLaws.{laws_of}
use Rattle.csvw_rows.proofs.RowSteps.{turns_from, refills_again, waits_turns, stop_turns, less_unread}
use Rattle.csvw_rows.proofs.States.{ignored_stays}
use Rattle.csvw_rows.specs.declared.next.Turn.TheVariants as turn
use Rattle.csvw_rows.specs.RowsState.{HasRow}
use Rattle.csvw_rows.proofs.rows.Rows.turn.Goals as goal

pub returns-in-Some-clause-turns : goal.returns-in-Some-clause-turns
returns-in-Some-clause-turns c =
    turns_from c.args.self.now c.cut.new.self c.pass_fields.new.self (Ok c.pass_fields.result) c.cut.ensures.refills c.pass_fields.ensures.turns

pub returns-in-Row-clause-turns : goal.returns-in-Row-clause-turns
returns-in-Row-clause-turns c =
    turns_from c.args.self.now c.read_front.new.self c.pass_fields-in-Row.new.self (Ok c.pass_fields-in-Row.result)
    (refills_again c.args.self.now c.cut.new.self c.read_front.new.self c.cut.ensures.refills c.read_front.ensures.refills) c.pass_fields-in-Row.ensures.turns

pub returns-in-Waits-clause-turns : goal.returns-in-Waits-clause-turns
returns-in-Waits-clause-turns c =
    waits_turns (laws_of c.record_laws.ensures) c.args.self.now c.read_front.new.self
    (refills_again c.args.self.now c.cut.new.self c.read_front.new.self c.cut.ensures.refills c.read_front.ensures.refills)
    (rw c.in-Waits.is at c.in_ok-len-2.ensures.known)

pub returns-in-Stop-clause-turns : goal.returns-in-Stop-clause-turns
returns-in-Stop-clause-turns c =
    stop_turns (laws_of c.record_laws.ensures) c.args.self.now c.read_front.new.self c.in-Stop.stop
    (refills_again c.args.self.now c.cut.new.self c.read_front.new.self c.cut.ensures.refills c.read_front.ensures.refills)
    (rw c.in-Stop.is at c.in_ok-len-2.ensures.known)

pub returns-in-Ignored-clause-turns : goal.returns-in-Ignored-clause-turns
returns-in-Ignored-clause-turns c =
    let s = c.args.self.now in
    let u = c.read_front.new.self in
    let t = c.pass.new.self in
    let k : HasRow u c.in-Ignored.len None = rw c.in-Ignored.is at c.in_ok-len-2.ensures.known in
    let p = c.pass.ensures.passes k.len k.front in
    turns_from s u t (Ok turn.Passed) (refills_again s c.cut.new.self u c.cut.ensures.refills c.read_front.ensures.refills) (
      p.ended,
      less_unread u t k.len p k.takes.some k.takes.within,
      ignored_stays (laws_of c.record_laws.ensures) u t k.len None p c.pass.ensures.remained k.takes
          (λ n. refl),
    )
