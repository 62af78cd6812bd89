-- Before the first read nothing was fed.
use Rattle.csvw_key_records.proofs.Judging.{fed_none, stops_full}
use Rattle.csvw_key_records.proofs.keys.judge_keys.Goals as goal

pub returns-in-Err-clause-stop : goal.returns-in-Err-clause-stop
returns-in-Err-clause-stop g c =
    stops_full g.R.Read.remaining g.W.Write.contents c.args.reader.now c.args.reader.now c.args.out.now c.args.out.now c.new-feed.result 0
    (fed_none g.R.Read.remaining g.W.Write.contents c.args.reader.now c.args.out.now c.new-feed.result c.new-feed.ensures)
