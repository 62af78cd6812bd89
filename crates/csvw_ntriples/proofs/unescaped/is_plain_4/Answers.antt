use Rattle.std.proofs.Common.{arith}
use Rattle.csvw_ntriples.proofs.EscapeLemmas.{plain_from_lanes}
use Rattle.csvw_ntriples.proofs.unescaped.is_plain_4.Goals as goal

pub returns : goal.returns
returns c = plain_from_lanes c.args.bytes.now c.args.at 4 c.requires (omega arith)
