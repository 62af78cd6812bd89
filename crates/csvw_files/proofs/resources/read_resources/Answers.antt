-- One resource more is read, or the next isn't.
use Rattle.std.proofs.Common.{rules, ◌≡◌, ◌<◌, ◌+◌, ◌++◌, [], ◌∷◌, arith, length, subst, sym, take}
use Rattle.csvw_files.specs.ResourceFiles.{ReadsResources}
use Rattle.csvw_files.proofs.ResourceLemmas.{lacks_room, reads_more, stops_at}
use Rattle.csvw_files.proofs.resources.read_resources.Goals as goal

pub returns-in-Err-clause-stop : goal.returns-in-Err-clause-stop
returns-in-Err-clause-stop g c =
    let below : c.loop-file.file-index < length c.args.files.now = (let test = c.loop-file-test.true in omega (arith, test)) in
    stops_at g.O.Opener.opens g.O.Opener.closes g.O.Reader.Read.remaining c.args.files.now c.loop-file.file-index _ c.args.opener.now
    c.loop-file.resources.items c.loop-file.opener c.read_resource.new.opener below c.loop-file.invariant c.in-Err.stop c.in-Err.ensures.stop

pub returns-in_default-clause-stop : goal.returns-in_default-clause-stop
returns-in_default-clause-stop g c =
    let below : c.loop-file.file-index < length c.args.files.now = (let test = c.loop-file-test.true in omega (arith, test)) in
    lacks_room g.O.Opener.opens g.O.Opener.closes g.O.Reader.Read.remaining c.args.files.now c.loop-file.file-index _ c.args.opener.now
    c.loop-file.resources.items c.loop-file.opener c.read_resource.new.opener below c.loop-file.invariant c.in-Ok.resource c.in-Ok.ensures.read

pub loop-file-preserved : goal.loop-file-preserved
loop-file-preserved g c =
    let below : c.loop-file.file-index < length c.args.files.now = (let test = c.loop-file-test.true in omega (arith, test)) in
    let pushed : c.push.new.self.items ≡ c.loop-file.resources.items ++ (c.in-Ok.resource ∷ []) = search (rules, c.in-Ok-push.ensures.items) in
    subst (λ resources. ReadsResources g.O.Opener.opens g.O.Opener.closes g.O.Reader.Read.remaining
    (take (c.loop-file.file-index + 1) c.args.files.now) c.args.opener.now resources c.read_resource.new.opener) (sym pushed)
    (reads_more g.O.Opener.opens g.O.Opener.closes g.O.Reader.Read.remaining c.args.files.now c.loop-file.file-index _ c.args.opener.now
    c.loop-file.resources.items c.loop-file.opener c.read_resource.new.opener below c.loop-file.invariant c.in-Ok.resource c.in-Ok.ensures.read)
