-- What a read gave is fed; or the run ends or stops there.
use Rattle.std.proofs.Common.{◌≡◌, ◌<◌, ◌≤◌, ◌^◌, arith}
use Rattle.csvw_key_records.specs.declared.stop.KeyStop.TheVariants as stop
use Rattle.csvw_key_records.specs.declared.stop.LineFault.TheVariants as fault
use Rattle.csvw_key_records.specs.Runs.{EndsValid, EndsWrong, next}
use Rattle.csvw_key_records.specs.JudgesKeys.{JudgesAll, JudgesFront}
use Rattle.csvw_key_records.proofs.Judging.{ends_all, ends_wrong, fed_more, fed_none, stops_fed, stops_many, stops_read}
use Rattle.csvw_key_records.proofs.Running.{both_err, if_ok}
use Rattle.csvw_key_records.proofs.keys.feed_all.Goals as goal

pub loop-reads-init : goal.loop-reads-init
loop-reads-init g c = fed_none g.R.Read.remaining g.W.Write.contents c.args.reader.now c.args.out.now c.args.feed.now c.requires.new

pub returns-in-Err-clause-stop : goal.returns-in-Err-clause-stop
returns-in-Err-clause-stop g c =
    stops_read g.R.Read.remaining g.W.Write.contents c.args.reader.now c.loop-reads.reader c.args.out.now c.loop-reads.out c.loop-reads.feed c.loop-reads._reads
    c.loop-reads.invariant c.read_some.new.reader c.read_some.new.room c.in-Err.stop c.in-Err.ensures.bytes

pub returns-then-n-eq0-clause-ok : goal.returns-then-n-eq0-clause-ok
returns-then-n-eq0-clause-ok g c =
    if_ok c.end.result (EndsValid c.loop-reads.feed)
    (JudgesAll g.R.Read.remaining g.W.Write.contents c.args.reader.now c.read_some.new.reader c.args.out.now c.loop-reads.out)
    (ends_all g.R.Read.remaining g.W.Write.contents c.args.reader.now c.loop-reads.reader c.args.out.now c.loop-reads.out c.loop-reads.feed c.loop-reads._reads
    c.loop-reads.invariant c.read_some.new.reader c.read_some.new.room c.in-Ok.n c.in-Ok.ensures.bytes c.if-n-eq0.true) c.end.ensures.ok

pub returns-then-n-eq0-clause-stop : goal.returns-then-n-eq0-clause-stop
returns-then-n-eq0-clause-stop g c =
    let lines = next c.loop-reads.feed.run.lines in
    both_err c.end.result (λ reason. reason ≡ stop.Line lines fault.Cut) (EndsWrong c.loop-reads.feed)
    (JudgesFront g.R.Read.remaining g.W.Write.contents c.args.reader.now c.read_some.new.reader c.args.out.now c.loop-reads.out)
    (λ reason cut ends. ends_wrong g.R.Read.remaining g.W.Write.contents c.args.reader.now c.loop-reads.reader c.args.out.now c.loop-reads.out c.loop-reads.feed
    c.loop-reads._reads c.loop-reads.invariant c.read_some.new.reader c.read_some.new.room c.in-Ok.n c.in-Ok.ensures.bytes c.if-n-eq0.true reason lines cut ends)
    c.end.ensures.cut c.end.ensures.stop

pub returns-in-Err-feed-clause-stop : goal.returns-in-Err-feed-clause-stop
returns-in-Err-feed-clause-stop g c =
    stops_fed g.R.Read.remaining g.W.Write.contents c.args.reader.now c.loop-reads.reader c.args.out.now c.loop-reads.out c.loop-reads.feed c.loop-reads._reads
    c.loop-reads.invariant c.read_some.new.reader c.read_some.new.room c.in-Ok.n c.in-Ok.ensures.bytes c.feed.new.out c.in-Err-feed.stop c.in-Err-feed.ensures.own
    c.in-Err-feed.ensures.stop

pub returns-clause-stop : goal.returns-clause-stop
returns-clause-stop g c =
    let large : 2 ^ 40 ≤ c.loop-reads._reads = omega arith in
    stops_many g.R.Read.remaining g.W.Write.contents c.args.reader.now c.loop-reads.reader c.args.out.now c.loop-reads.out c.loop-reads.feed c.loop-reads._reads
    c.loop-reads.invariant large

pub loop-reads-preserved : goal.loop-reads-preserved
loop-reads-preserved g c =
    let some : 0 < c.in-Ok.n = omega arith in
    fed_more g.R.Read.remaining g.W.Write.contents c.args.reader.now c.loop-reads.reader c.args.out.now c.loop-reads.out c.loop-reads.feed c.loop-reads._reads
    c.loop-reads.invariant c.read_some.new.reader c.read_some.new.room c.in-Ok.n c.in-Ok.ensures.bytes c.feed.new.self c.feed.new.out some c.in_default.ensures.ok
