-- One file more is open, or the next isn't opened.
use Rattle.std.proofs.Common.{rules, ◌≡◌, ◌<◌, ◌+◌, [], ◌∷◌, ◌++◌, arith, length, map, subst, sym, take, None}
use Rattle.csvw_command_runs.specs.Groups.{OpensAll}
use Rattle.csvw_command_runs.proofs.Opening.{lacks_room, misses, opens_more}
use Rattle.csvw_command_runs.proofs.group.open_all.Goals as goal

pub returns-in_default-clause-stop : goal.returns-in_default-clause-stop
returns-in_default-clause-stop g c =
    let below : c.loop-file.file-index < length c.args.files.now = (let test = c.loop-file-test.true in omega (arith, test)) in
    let none : c.open.result ≡ None = search rules in
    misses g.O.Opener.opens (λ file. file.now) c.args.files.now c.loop-file.file-index _ c.args.opener.now c.loop-file.readers.items
    c.loop-file.opener c.open.result c.open.new.self
    below c.loop-file.invariant c.open.ensures none

pub returns-in_default-push-clause-stop : goal.returns-in_default-push-clause-stop
returns-in_default-push-clause-stop g c =
    let below : c.loop-file.file-index < length c.args.files.now = (let test = c.loop-file-test.true in omega (arith, test)) in
    lacks_room g.O.Opener.opens (λ file. file.now) c.args.files.now c.loop-file.file-index _ c.args.opener.now c.loop-file.readers.items
    c.loop-file.opener c.in-Some.reader c.new.result c.open.new.self
    below c.loop-file.invariant c.in-Some.ensures c.new.ensures.inner c.new.ensures.failures

pub loop-file-preserved : goal.loop-file-preserved
loop-file-preserved g c =
    let below : c.loop-file.file-index < length c.args.files.now = (let test = c.loop-file-test.true in omega (arith, test)) in
    let pushed : c.push.new.self.items ≡ c.loop-file.readers.items ++ (c.new.result ∷ []) = search (rules, c.in-Ok.ensures.items) in
    subst (λ readers. OpensAll g.O.Opener.opens c.args.opener.now
    (map (λ file. file.now) (take (c.loop-file.file-index + 1) c.args.files.now)) readers c.open.new.self) (sym pushed)
    (opens_more g.O.Opener.opens (λ file. file.now) c.args.files.now c.loop-file.file-index _ c.args.opener.now c.loop-file.readers.items
    c.loop-file.opener c.in-Some.reader c.new.result c.open.new.self
    below c.loop-file.invariant c.in-Some.ensures c.new.ensures.inner c.new.ensures.failures)
