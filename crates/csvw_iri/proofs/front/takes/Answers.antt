use Rattle.csvw_iri.proofs.EncodedLinks.{place_takes}
use Rattle.csvw_iri.proofs.front.takes.Goals as goal

pub returns-in-Path : goal.returns-in-Path
returns-in-Path c = λ _. place_takes c.args.place c.args.text.now c.in-Path.is
