-- The run is that of its mode. The readers are handed back, and a stop is reported after what the run left of `err`.
use Rattle.std.proofs.Common.{rules, ◌≡◌, ◌∙◌, drop, inl, length, subst, sym}
use Rattle.csvw_streams.specs.Counted.{inner_of, failures_of}
use Rattle.csvw_streams.specs.Streams.{stream_of}
use Rattle.csvw_command_runs.specs.Groups.{ClosesAll, Leaves, RunsGroup, order_of, profile_of}
use Rattle.csvw_command_runs.proofs.Ending.{ends}
use Rattle.csvw_command_runs.proofs.Opening.{opened_as, whole_front}
use Rattle.csvw_command_runs.proofs.group.run_group.Goals as goal

pub returns-in-Ok-clause-runs : goal.returns-in-Ok-clause-runs
returns-in-Ok-clause-runs g c =
    let told = g.V.Write.contents in
    let group = c.in-Ok.field-0 in
    let bytes = c.as_slice.result.now in
    let readers = c.as_mut_slice.result.now in
    let same_bytes : c.as_slice.result.now ≡ c.in-Ok.field-0.meta.items = search rules in
    let same_readers : c.as_mut_slice.result.now ≡ c.in-Ok.field-0.readers.items = search rules in
    let left = whole_front c.in-Ok.field-0.readers.len c.run_to-ran.new.readers (drop (length c.run_to-ran.new.readers) c.in-Ok.field-0.readers.items)
    (c.run_to-ran.auto.readers ∙ c.as_mut_slice.ensures.len) in
    let out = stream_of g.W.Write.contents c.args.out.now c.run_to-ran.new.out in
    let err = stream_of told c.args.err.now c.run_to-ran.new.err in
    let asked = c.args.asked.group.now in
    let by_order = subst (λ order. Leaves g.O.Reader.Read.remaining c.args.asked.mode order c.profile_of.result bytes asked.base.now readers c.run_to-ran.new.readers
    out err c.run_to-ran.result) c.order_of.ensures c.run_to-ran.ensures in
    let leaves = subst (λ profile. Leaves g.O.Reader.Read.remaining c.args.asked.mode (order_of asked.turns) profile bytes asked.base.now readers
    c.run_to-ran.new.readers out err c.run_to-ran.result) c.profile_of.ensures by_order in
    subst (λ status. RunsGroup g.O.Opener.opens g.O.Opener.closes g.O.Reader.Read.remaining c.args.asked.mode c.args.asked.group.now c.args.opener.now
    c.close_all.new.opener out (stream_of told c.args.err.now c.tell_end-status.new.err) status) (sym c.end_of.ensures) (inl (record {
      bytes = bytes;
      readers = readers;
      between = c.open_group.new.opener;
      opened = opened_as g.O.Opener.opens g.O.Opener.closes g.O.Reader.Read.remaining c.args.asked.group.now c.args.opener.now c.open_group.new.opener
          group.meta.items bytes group.readers.items readers same_bytes same_readers c.in-Ok.ensures.opened;
      left = c.run_to-ran.new.readers;
      closed = subst (λ xs. ClosesAll g.O.Opener.closes c.open_group.new.opener xs c.close_all.new.opener) left c.close_all.ensures;
      runs = ends (Leaves g.O.Reader.Read.remaining c.args.asked.mode (order_of asked.turns) (profile_of asked.profile) bytes asked.base.now readers
          c.run_to-ran.new.readers out)
          (told (inner_of c.args.err.now)) (told (inner_of c.run_to-ran.new.err)) (told (inner_of c.tell_end-status.new.err)) (failures_of c.args.err.now)
          (failures_of c.run_to-ran.new.err) (failures_of c.tell_end-status.new.err)
          c.run_to-ran.result c.tell_end-status.result leaves c.tell_end-status.ensures.end;
    }))
